-- What refuses the entries of a catalog is a clause of them that is false at its place, and none is false of entries that
-- pass.
use Rattle.std.specs.Prelude.{◌≡◌, ℕ, ◌==◌, ◌||◌, Bool, true, false, if◌then◌else◌, Option, Some, None, Ok, Err, List, [], ◌∷◌, ◌++◌, refl}
use Rattle.std.specs.List.{list_any}
use Rattle.std.proofs.Common.{ap, sym, ◌∙◌, subst, ◌⊎◌, inl, inr, ⊎_elim, append-nil, append_assoc}
use Rattle.std.proofs.lemmas.Bool.{true≢false, or_cases, or_left, or_right}
use Rattle.std.proofs.lemmas.Bool.Decides.{Decides-eqb}
use Rattle.image_defs.specs.Ask.{result_of, check, ◌>>=◌}
use Rattle.image_defs.proofs.Looks.{bind_gives, check_gives, bind_refuses, check_refuses}
use Rattle.hfs_defs.specs.Damage.{IsDamage}
use Rattle.hfs_defs.specs.TreeFiles.{catalog_at}
use Rattle.hfs_volume_defs.specs.Catalog.{Entry}
use Rattle.hfs_volume_defs.specs.Folders.{is_special_number, has_id, first_twice, has_folder, is_in_folder, first_outside}
use Rattle.hfs_volume_defs.specs.Volume.{refuse, sound_entries}
use Rattle.hfs_volume_defs.specs.Damage.{IsFalseInEntries, SpecialNumber, Twice, NoRoot, Outside}
use Rattle.hfs_volume_defs.proofs.Results.{same_error}
use Rattle.fault_defs.specs.declared.Refusal.{Refusal}
use Rattle.fault_defs.specs.declared.Refusal.TheVariants.{Damaged}
use Rattle.fault_defs.specs.declared.Sort.{Sort}
use Rattle.fault_defs.specs.declared.Sort.TheVariants.{CatalogTwice, FolderMissing}
use Rattle.hfs_defs.specs.declared.header.Header.{Header}

-- ---- items that pass a test

any_left : {X : Type 0} (test : X → Bool) (xs ys : List X) → list_any test xs ≡ true → list_any test (xs ++ ys) ≡ true
any_left test [] ys is = absurd cc
any_left test (x ∷ xs) ys is = ⊎_elim (λ first. or_left (test x) (list_any test (xs ++ ys)) first) (λ rest. or_right (test x) (list_any test (xs ++ ys)) (any_left test xs ys rest)) (or_cases (test x) (list_any test xs) is)

any_right : {X : Type 0} (test : X → Bool) (xs ys : List X) → list_any test ys ≡ true → list_any test (xs ++ ys) ≡ true
any_right test [] ys is = is
any_right test (x ∷ xs) ys is = or_right (test x) (list_any test (xs ++ ys)) (any_right test xs ys is)

any_cases : {X : Type 0} (test : X → Bool) (xs ys : List X) → list_any test (xs ++ ys) ≡ true → (list_any test xs ≡ true) ⊎ (list_any test ys ≡ true)
any_cases test [] ys is = inr is
any_cases test (x ∷ xs) ys is =
    ⊎_elim (λ first. inl (or_left (test x) (list_any test xs) first))
    (λ rest. ⊎_elim (λ here. inl (or_right (test x) (list_any test xs) here)) (λ there. inr there) (any_cases test xs ys rest))
    (or_cases (test x) (list_any test (xs ++ ys)) is)

record IsOneOf {X : Type 0} (test : X → Bool) (xs : List X) : Type 0 where
  front : List X
  item : X
  behind : List X
  whole : xs ≡ front ++ item ∷ behind
  passes : test item ≡ true

any_item : {X : Type 0} (test : X → Bool) (xs : List X) → list_any test xs ≡ true → IsOneOf test xs
any_item test [] is = absurd cc
any_item test (x ∷ xs) is =
    ⊎_elim
    (λ first. record { front = []; item = x; behind = xs; whole = refl; passes = first })
    (λ rest. let found = any_item test xs rest in record { front = x ∷ found.front; item = found.item; behind = found.behind; whole = ap (λ list. x ∷ list) found.whole; passes = found.passes })
    (or_cases (test x) (list_any test xs) is)

or_none : (a b : Bool) → (a || b) ≡ false → (a ≡ false) × (b ≡ false)
or_none true b is = absurd cc
or_none false b is = (refl, is)

same_entry : (one other : Entry) → Some one ≡ Some other → one ≡ other
same_entry one other same = cc

-- ---- numbers that stand twice

abbrev is_twice : List Entry → Entry → Bool
is_twice before entry = is_special_number entry.id || has_id entry.id before

record IsTwice (before entries : List Entry) (entry : Entry) : Type 0 where
  front : List Entry
  behind : List Entry
  whole : entries ≡ front ++ entry ∷ behind
  why : is_twice (before ++ front) entry ≡ true

twice_found : (before entries : List Entry) (entry : Entry) → first_twice before entries ≡ Some entry → IsTwice before entries entry
twice_found before [] entry is = absurd cc
twice_found before (one ∷ rest) entry is = either (is_twice before one) refl (twice_found (before ++ one ∷ []) rest entry) is
  where
    either : (twice : Bool) → is_twice before one ≡ twice → (first_twice (before ++ one ∷ []) rest ≡ Some entry → IsTwice (before ++ one ∷ []) rest entry)
        → (if twice then Some one else first_twice (before ++ one ∷ []) rest) ≡ Some entry → IsTwice before (one ∷ rest) entry
    either true why later same =
        let P : Entry → Type 0 = λ e. IsTwice before (one ∷ rest) e in
        subst P (same_entry one entry same) (record { front = []; behind = rest; whole = refl; why = ap (λ list. is_twice list one) (append-nil before) ∙ why })
    either false why later same =
        let found = later same in
        record { front = one ∷ found.front; behind = found.behind; whole = ap (λ list. one ∷ list) found.whole; why = ap (λ list. is_twice list entry) (sym (append_assoc before (one ∷ []) found.front)) ∙ found.why }

none_twice : (before front : List Entry) (entry : Entry) (behind : List Entry) → first_twice before (front ++ entry ∷ behind) ≡ None → is_twice (before ++ front) entry ≡ false
none_twice before [] entry behind none = ap (λ list. is_twice list entry) (append-nil before) ∙ either (is_twice before entry) none
  where
    either : (twice : Bool) → (if twice then Some entry else first_twice (before ++ entry ∷ []) behind) ≡ None → twice ≡ false
    either true is = absurd cc
    either false is = refl
none_twice before (one ∷ front) entry behind none =
    ap (λ list. is_twice list entry) (sym (append_assoc before (one ∷ []) front)) ∙ either (is_twice before one) none (none_twice (before ++ one ∷ []) front entry behind)
  where
    either : (twice : Bool) → (if twice then Some one else first_twice (before ++ one ∷ []) (front ++ entry ∷ behind)) ≡ None
        → (first_twice (before ++ one ∷ []) (front ++ entry ∷ behind) ≡ None → is_twice ((before ++ one ∷ []) ++ front) entry ≡ false) → is_twice ((before ++ one ∷ []) ++ front) entry ≡ false
    either true is later = absurd cc
    either false is later = later is

none_shared : (front : List Entry) (entry : Entry) (behind : List Entry) → first_twice [] (front ++ entry ∷ behind) ≡ None → has_id entry.id (front ++ behind) ≡ true → ⊥
none_shared front entry behind none shared =
    ⊎_elim
    (λ here. absurd (true≢false (sym here ∙ (or_none (is_special_number entry.id) (has_id entry.id front) (none_twice [] front entry behind none)).1)))
    (λ there.
    let other = any_item (λ one. one.id == entry.id) behind there in
    let P : List Entry → Type 0 = λ list. first_twice [] list ≡ None in
    let split : front ++ entry ∷ behind ≡ (front ++ entry ∷ other.front) ++ other.item ∷ other.behind =
    ap (λ list. front ++ entry ∷ list) other.whole ∙ sym (append_assoc front (entry ∷ other.front) (other.item ∷ other.behind)) in
    let apart = (or_none (is_special_number other.item.id) (has_id other.item.id (front ++ entry ∷ other.front)) (none_twice [] (front ++ entry ∷ other.front) other.item other.behind (subst P split none))).1 in
    let same : (entry.id == other.item.id) ≡ true = (Decides-eqb entry.id other.item.id).1 (sym ((Decides-eqb other.item.id entry.id).0 other.passes)) in
    let with_it : has_id other.item.id (front ++ entry ∷ other.front) ≡ true =
    any_right (λ one. one.id == other.item.id) front (entry ∷ other.front) (or_left (entry.id == other.item.id) (has_id other.item.id other.front) same) in
    absurd (true≢false (sym with_it ∙ apart)))
    (any_cases (λ one. one.id == entry.id) front behind shared)

-- ---- entries in no folder

record IsOutside (all entries : List Entry) (entry : Entry) : Type 0 where
  front : List Entry
  behind : List Entry
  whole : entries ≡ front ++ entry ∷ behind
  why : is_in_folder all entry ≡ false

outside_found : (all entries : List Entry) (entry : Entry) → first_outside all entries ≡ Some entry → IsOutside all entries entry
outside_found all [] entry is = absurd cc
outside_found all (one ∷ rest) entry is = either (is_in_folder all one) refl (outside_found all rest entry) is
  where
    either : (inside : Bool) → is_in_folder all one ≡ inside → (first_outside all rest ≡ Some entry → IsOutside all rest entry) → (if inside then first_outside all rest else Some one) ≡ Some entry → IsOutside all (one ∷ rest) entry
    either true why later same = let found = later same in record { front = one ∷ found.front; behind = found.behind; whole = ap (λ list. one ∷ list) found.whole; why = found.why }
    either false why later same =
        let P : Entry → Type 0 = λ e. IsOutside all (one ∷ rest) e in
        subst P (same_entry one entry same) (record { front = []; behind = rest; whole = refl; why = why })

none_outside : (all front : List Entry) (entry : Entry) (behind : List Entry) → first_outside all (front ++ entry ∷ behind) ≡ None → is_in_folder all entry ≡ true
none_outside all [] entry behind none = either (is_in_folder all entry) none
  where
    either : (inside : Bool) → (if inside then first_outside all behind else Some entry) ≡ None → inside ≡ true
    either true is = refl
    either false is = absurd cc
none_outside all (one ∷ front) entry behind none = either (is_in_folder all one) none (none_outside all front entry behind)
  where
    either : (inside : Bool) → (if inside then first_outside all (front ++ entry ∷ behind) else Some one) ≡ None → (first_outside all (front ++ entry ∷ behind) ≡ None → is_in_folder all entry ≡ true) → is_in_folder all entry ≡ true
    either true is later = later is
    either false is later = absurd cc

-- ---- the entries

record IsRefusedEntry (sort : Sort) (found : Option Entry) (fault : Refusal) : Type 0 where
  entry : Entry
  there : found ≡ Some entry
  is : Damaged sort entry.at ≡ fault

refuse_refuses : (image : List ℕ) (sort : Sort) (found : Option Entry) (fault : Refusal) → result_of image (refuse sort found) ≡ Err fault → IsRefusedEntry sort found fault
refuse_refuses image sort None fault is = absurd cc
refuse_refuses image sort (Some entry) fault is = record { entry = entry; there = refl; is = same_error {X = Unit {0}} (Damaged sort entry.at) fault is }

refuse_passes : (image : List ℕ) (sort : Sort) (found : Option Entry) (done : Unit {0}) → result_of image (refuse sort found) ≡ Ok done → found ≡ None
refuse_passes image sort None done is = refl
refuse_passes image sort (Some entry) done is = absurd cc

pub entries_refused : (image : List ℕ) (header : Header) (entries : List Entry) (fault : Refusal) → result_of image (sound_entries header entries) ≡ Err fault → IsDamage (IsFalseInEntries header entries) fault
unfolding sound_entries
entries_refused image header entries fault is =
    let P : Refusal → Type 0 = IsDamage (IsFalseInEntries header entries) in
    ⊎_elim
    (λ twice.
    let refused = refuse_refuses image CatalogTwice (first_twice [] entries) fault twice in
    let found = twice_found [] entries refused.entry refused.there in
    ⊎_elim
    (λ special. subst P refused.is (SpecialNumber found.front refused.entry found.behind found.whole special))
    (λ other. subst P refused.is (Twice found.front refused.entry found.behind found.whole (any_left (λ one. one.id == refused.entry.id) found.front found.behind other)))
    (or_cases (is_special_number refused.entry.id) (has_id refused.entry.id found.front) found.why))
    (λ once. ⊎_elim
    (λ root. subst P root.1 (NoRoot root.0))
    (λ behind.
    let refused = refuse_refuses image FolderMissing (first_outside entries entries) fault behind.1 in
    let found = outside_found entries entries refused.entry refused.there in
    subst P refused.is (Outside found.front refused.entry found.behind found.whole found.why))
    (check_refuses image (has_folder entries 2) (Damaged FolderMissing (catalog_at header)) (λ root. refuse FolderMissing (first_outside entries entries)) fault once.2))
    (bind_refuses image (refuse CatalogTwice (first_twice [] entries)) (λ once. check (has_folder entries 2) (Damaged FolderMissing (catalog_at header)) >>= (λ root. refuse FolderMissing (first_outside entries entries))) fault is)

pub entries_pass : (image : List ℕ) (header : Header) (entries : List Entry) (done : Unit {0}) (sort : Sort) (place : ℕ) → result_of image (sound_entries header entries) ≡ Ok done → IsFalseInEntries header entries sort place → ⊥
unfolding sound_entries
entries_pass image header entries done sort place is false' =
    let once = bind_gives image (refuse CatalogTwice (first_twice [] entries)) (λ once. check (has_folder entries 2) (Damaged FolderMissing (catalog_at header)) >>= (λ root. refuse FolderMissing (first_outside entries entries))) done is in
    let root = check_gives image (has_folder entries 2) (Damaged FolderMissing (catalog_at header)) (λ root. refuse FolderMissing (first_outside entries entries)) done once.2 in
    none (refuse_passes image CatalogTwice (first_twice [] entries) once.0 once.1) root.0 (refuse_passes image FolderMissing (first_outside entries entries) done root.1) sort place false'
  where
    none : first_twice [] entries ≡ None → has_folder entries 2 ≡ true → first_outside entries entries ≡ None → (sort : Sort) (place : ℕ) → IsFalseInEntries header entries sort place → ⊥
    none once root inside sort place (SpecialNumber front entry behind whole special) =
        let P : List Entry → Type 0 = λ list. first_twice [] list ≡ None in
        absurd (true≢false (sym special ∙ (or_none (is_special_number entry.id) (has_id entry.id front) (none_twice [] front entry behind (subst P whole once))).0))
    none once root inside sort place (Twice front entry behind whole shared) =
        let P : List Entry → Type 0 = λ list. first_twice [] list ≡ None in
        none_shared front entry behind (subst P whole once) shared
    none once root inside sort place (NoRoot other) = absurd (true≢false (sym root ∙ other))
    none once root inside sort place (Outside front entry behind whole out) =
        let P : List Entry → Type 0 = λ list. first_outside entries list ≡ None in
        absurd (true≢false (sym (none_outside entries front entry behind (subst P whole inside)) ∙ out))
