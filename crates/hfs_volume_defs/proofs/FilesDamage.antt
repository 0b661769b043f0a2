-- What refuses the files of a catalog is wrong with their names or forks, and nothing is wrong with those that pass.
use Rattle.std.specs.Prelude.{◌≡◌, ℕ, ◌+◌, ◌==◌, zero, suc, Bool, true, false, nat_le, if◌then◌else◌, Option, Some, None, Result, Ok, Err, List, [], ◌∷◌, ◌++◌, codes, length, refl, ◌<◌, ◌≤◌}
use Rattle.std.proofs.lemmas.List.{length-append}
use Rattle.std.proofs.lemmas.Bool.Decides.{Decides-eqb}
use Rattle.std.proofs.lemmas.Bool.{eqb-false, leb-true, leb-false}
use Rattle.std.proofs.Common.{ap, sym, ◌∙◌, subst, ◌⊎◌, inl, inr, ⊎_elim, arith}
use Rattle.image_defs.specs.Results.{with_value, each_result}
use Rattle.order_defs.specs.Sorted.{sorted_names}
use Rattle.rx_tree.specs.PartValue.{PartValue}
use Rattle.rx_tree.specs.declared.file.FileEntry.{FileEntry}
use Rattle.name_defs.specs.Texts.{units_text}
use Rattle.rx_tree.specs.Path.{joined_path, is_root}
use Rattle.hfs_defs.specs.Damage.{IsDamage}
use Rattle.hfs_defs.specs.Forks.{records_of, fork_fault}
use Rattle.hfs_defs.specs.ForkDamage.{IsFalseInFork}
use Rattle.hfs_defs.proofs.ForkDamage.{fork_damage_law}
use Rattle.hfs_volume_defs.specs.Catalog.{Entry, FileInfo}
use Rattle.hfs_volume_defs.specs.Folders.{is_folder, folder_of, parent_of, name_of, root_path, deepest, longest_path, path_in, path_within, folder_path, own_path, links_to, listed, is_empty_fork, short_path}
use Rattle.hfs_volume_defs.specs.Files.{NamedEntry, entries_or_own, names_of, named_entry, named_entries, unless, fork_part, followed, fork_parts, is_unreadable, entry_file, SpecialFile, special_files, special_file}
use Rattle.hfs_volume_defs.specs.Damage.{IsFalseInFiles, InDataFork, InResourceFork, InSpecialFork, IsDeep, IsNameOf, IsPathOf, above, counted_from}
use Rattle.hfs_volume_defs.proofs.FileDamage.{damage_map}
use Rattle.hfs_volume_defs.proofs.Results.{same_error, same_value, value_refuses, value_gives, IsRefusedIn, each_refuses, each_gives_item, given_by, gives_one}
use Rattle.fault_defs.specs.declared.Bound.TheVariants.{Depth, Path}
use Rattle.fault_defs.specs.declared.Refusal.{Refusal}
use Rattle.fault_defs.specs.declared.Refusal.TheVariants.{Limit}
use Rattle.fault_defs.specs.declared.Sort.{Sort}
use Rattle.hfs_defs.specs.declared.forks.Fork.{Fork}
use Rattle.hfs_defs.specs.declared.forks.OverflowRecord.{OverflowRecord}
use Rattle.hfs_defs.specs.declared.header.Header.{Header}

-- ---- paths

-- a path has its parent's bytes
joined_longer : (parent name : List ℕ) → length parent ≤ length (joined_path parent name)
joined_longer parent name = either (is_root parent)
  where
    either : (root : Bool) → length parent ≤ length (if root then parent ++ name else (parent ++ 47 ∷ name))
    either true = omega (arith, length-append parent name)
    either false = omega (arith, length-append parent (47 ∷ name))

record IsShortPath (parent : List ℕ) (name path : List ℕ) : Type 0 where
  is : joined_path parent name ≡ path
  short : length path ≤ longest_path

short_gives : (parent name path : List ℕ) → short_path (joined_path parent name) ≡ Ok path → IsShortPath parent name path
short_gives parent name path gives = either (nat_le (length (joined_path parent name)) longest_path) refl gives
  where
    either : (short : Bool) → nat_le (length (joined_path parent name)) longest_path ≡ short → (if short then Ok (joined_path parent name) else Err (Limit Path longest_path)) ≡ Ok path → IsShortPath parent name path
    either false there same = absurd cc
    either true there same =
        let is : joined_path parent name ≡ path = same_value (joined_path parent name) path same in
        let P : List ℕ → Type 0 = λ list. length list ≤ longest_path in
        record { is = is; short = subst P is (leb-true (length (joined_path parent name)) longest_path there) }

-- the path of a folder that is given is its path, and isn't too long
record IsFoundPath (entries : List Entry) (id : ℕ) (path : List ℕ) : Type 0 where
  below : ℕ
  is : IsPathOf below entries id path
  short : length path ≤ longest_path

within_gives : (left : ℕ) (entries : List Entry) (id : ℕ) (path : List ℕ) → path_within left entries id ≡ Ok path → IsFoundPath entries id path
unfolding path_within
within_gives zero entries id path is = either (id == 2) refl is
  where
    either : (root : Bool) → (id == 2) ≡ root → (if root then Ok root_path else Err (Limit Depth deepest)) ≡ Ok path → IsFoundPath entries id path
    either false there same = absurd cc
    either true there same =
        let P : List ℕ → Type 0 = λ list. IsFoundPath entries id list in
        subst P (same_value root_path path same) (record { below = 0; is = ((Decides-eqb id 2).0 there, refl); short = omega arith })
within_gives (suc left) entries id path is = either (id == 2) refl (path_within left entries (parent_of (folder_of entries id))) refl (within_gives left entries (parent_of (folder_of entries id))) is
  where
    either : (root : Bool) → (id == 2) ≡ root → (parent : Result (List ℕ) Refusal) → path_within left entries (parent_of (folder_of entries id)) ≡ parent
        → ((list : List ℕ) → path_within left entries (parent_of (folder_of entries id)) ≡ Ok list → IsFoundPath entries (parent_of (folder_of entries id)) list)
        → (if root then Ok root_path else path_in parent (name_of (folder_of entries id))) ≡ Ok path → IsFoundPath entries id path
    either true there parent of later same =
        let P : List ℕ → Type 0 = λ list. IsFoundPath entries id list in
        subst P (same_value root_path path same) (record { below = 0; is = ((Decides-eqb id 2).0 there, refl); short = omega arith })
    either false there (Err e) of later same = absurd cc
    either false there (Ok list) of later same =
        let found = later list of in
        let joined = short_gives list (units_text (name_of (folder_of entries id))) path same in
        record { below = suc found.below; is = (λ root. eqb-false id 2 there root, (list, found.is, sym joined.is)); short = joined.short }

-- and it is the only one
within_one : (left n : ℕ) (entries : List Entry) (id : ℕ) (path other : List ℕ) → path_within left entries id ≡ Ok path → IsPathOf n entries id other → other ≡ path
unfolding path_within
within_one zero n entries id path other is of = root (id == 2) refl n is of
  where
    root : (is_root_id : Bool) → (id == 2) ≡ is_root_id → (n : ℕ) → (if is_root_id then Ok root_path else Err (Limit Depth deepest)) ≡ Ok path → IsPathOf n entries id other → other ≡ path
    root false there n same of = absurd cc
    root true there zero same of = of.1 ∙ same_value root_path path same
    root true there (suc n) same of = absurd (of.0 ((Decides-eqb id 2).0 there))
within_one (suc left) n entries id path other is of =
    either (id == 2) refl (path_within left entries (parent_of (folder_of entries id))) refl n
    (λ m list front were there. within_one left m entries (parent_of (folder_of entries id)) list front were there) is of
  where
    either : (is_root_id : Bool) → (id == 2) ≡ is_root_id → (parent : Result (List ℕ) Refusal) → path_within left entries (parent_of (folder_of entries id)) ≡ parent → (n : ℕ)
        → ((m : ℕ) (list front : List ℕ) → path_within left entries (parent_of (folder_of entries id)) ≡ Ok list → IsPathOf m entries (parent_of (folder_of entries id)) front → front ≡ list)
        → (if is_root_id then Ok root_path else path_in parent (name_of (folder_of entries id))) ≡ Ok path → IsPathOf n entries id other → other ≡ path
    either true there parent were zero later same of = of.1 ∙ same_value root_path path same
    either true there parent were (suc n) later same of = absurd (of.0 ((Decides-eqb id 2).0 there))
    either false there parent were zero later same of = absurd (eqb-false id 2 there of.0)
    either false there (Err e) were (suc n) later same of = absurd cc
    either false there (Ok list) were (suc n) later same of =
        let joined = short_gives list (units_text (name_of (folder_of entries id))) path same in
        let below : of.1.0 ≡ list = later n list of.1.0 were of.1.1 in
        of.1.2 ∙ ap (λ front. joined_path front (units_text (name_of (folder_of entries id)))) below ∙ joined.is

-- a folder within reach of the root has no fault but a path that is too long
record IsLongPath (entries : List Entry) (id : ℕ) : Type 0 where
  below : ℕ
  path : List ℕ
  is : IsPathOf below entries id path
  long : longest_path < length path

abbrev WhyNoPath : ℕ → List Entry → ℕ → Refusal → Type 0
WhyNoPath left entries id fault =
    ((Limit Depth deepest ≡ fault) × ((n : ℕ) → n ≤ left → above n entries id ≡ 2 → ⊥)) ⊎ ((Limit Path longest_path ≡ fault) × IsLongPath entries id)

-- a path that is given, and isn't too deep
within_reaches : (left : ℕ) (entries : List Entry) (id : ℕ) (path : List ℕ) → path_within left entries id ≡ Ok path → (n : ℕ) × (n ≤ left) × (above n entries id ≡ 2)
unfolding path_within
within_reaches zero entries id path is = either (id == 2) refl is
  where
    either : (root : Bool) → (id == 2) ≡ root → (if root then Ok root_path else Err (Limit Depth deepest)) ≡ Ok path → (n : ℕ) × (n ≤ 0) × (above n entries id ≡ 2)
    either false there same = absurd cc
    either true there same = (0, omega arith, (Decides-eqb id 2).0 there)
within_reaches (suc left) entries id path is =
    either (id == 2) refl (path_within left entries (parent_of (folder_of entries id))) refl (λ list were. within_reaches left entries (parent_of (folder_of entries id)) list were) is
  where
    either : (root : Bool) → (id == 2) ≡ root → (parent : Result (List ℕ) Refusal) → path_within left entries (parent_of (folder_of entries id)) ≡ parent
        → ((list : List ℕ) → path_within left entries (parent_of (folder_of entries id)) ≡ Ok list → (n : ℕ) × (n ≤ left) × (above n entries (parent_of (folder_of entries id)) ≡ 2))
        → (if root then Ok root_path else path_in parent (name_of (folder_of entries id))) ≡ Ok path → (n : ℕ) × (n ≤ suc left) × (above n entries id ≡ 2)
    either true there parent were later same = (0, omega arith, (Decides-eqb id 2).0 there)
    either false there (Err e) were later same = absurd cc
    either false there (Ok list) were later same =
        let up = later list were in
        (suc up.0, omega (arith, up.1), up.2)

long_joined : (entries : List Entry) (id : ℕ) (parent : List ℕ) (below : ℕ) → (id ≡ 2 → ⊥) → IsPathOf below entries (parent_of (folder_of entries id)) parent
    → longest_path < length (joined_path parent (units_text (name_of (folder_of entries id)))) → IsLongPath entries id
long_joined entries id parent below other of long = record { below = suc below; path = joined_path parent (units_text (name_of (folder_of entries id))); is = (other, (parent, of, refl)); long = long }

within_refuses : (left : ℕ) (entries : List Entry) (id : ℕ) (fault : Refusal) → path_within left entries id ≡ Err fault → WhyNoPath left entries id fault
unfolding path_within
within_refuses zero entries id fault is = either (id == 2) refl is
  where
    either : (root : Bool) → (id == 2) ≡ root → (if root then Ok root_path else Err (Limit Depth deepest)) ≡ Err fault → WhyNoPath 0 entries id fault
    either true there same = absurd cc
    either false there same = inl (same_error {X = List ℕ} (Limit Depth deepest) fault same, λ n few. none n few)
      where
        none : (n : ℕ) → n ≤ 0 → above n entries id ≡ 2 → ⊥
        none zero few root = eqb-false id 2 there root
        none (suc n) few root = absurd (omega (arith, few))
within_refuses (suc left) entries id fault is = either (id == 2) refl (path_within left entries (parent_of (folder_of entries id))) refl (within_refuses left entries (parent_of (folder_of entries id)) fault) is
  where
    deeper : (id == 2) ≡ false → ((n : ℕ) → n ≤ left → above n entries (parent_of (folder_of entries id)) ≡ 2 → ⊥) → (n : ℕ) → n ≤ suc left → above n entries id ≡ 2 → ⊥
    deeper there none zero few root = eqb-false id 2 there root
    deeper there none (suc n) few root = none n (omega (arith, few)) root

    long : (list : List ℕ) → (id == 2) ≡ false → path_within left entries (parent_of (folder_of entries id)) ≡ Ok list → (short : Bool)
        → nat_le (length (joined_path list (units_text (name_of (folder_of entries id))))) longest_path ≡ short
        → (if short then Ok (joined_path list (units_text (name_of (folder_of entries id)))) else Err (Limit Path longest_path)) ≡ Err fault → WhyNoPath (suc left) entries id fault
    long list there were true its same = absurd cc
    long list there were false its same =
        let found = within_gives left entries (parent_of (folder_of entries id)) list were in
        inr (
          same_error {X = List ℕ} (Limit Path longest_path) fault same,
          long_joined entries id list found.below (λ root. eqb-false id 2 there root) found.is (leb-false (length (joined_path list (units_text (name_of (folder_of entries id))))) longest_path its),
        )

    either : (root : Bool) → (id == 2) ≡ root → (parent : Result (List ℕ) Refusal) → path_within left entries (parent_of (folder_of entries id)) ≡ parent
        → (path_within left entries (parent_of (folder_of entries id)) ≡ Err fault → WhyNoPath left entries (parent_of (folder_of entries id)) fault)
        → (if root then Ok root_path else path_in parent (name_of (folder_of entries id))) ≡ Err fault → WhyNoPath (suc left) entries id fault
    either true there parent were later same = absurd cc
    either false there (Ok list) were later same = long list there were (nat_le (length (joined_path list (units_text (name_of (folder_of entries id))))) longest_path) refl same
    either false there (Err e) were later same =
        ⊎_elim
        (λ deep. inl (deep.0, deeper there deep.1))
        (λ over. inr (
          over.0,
          long_joined entries id over.1.path over.1.below (λ root. eqb-false id 2 there root) over.1.is (omega (arith, over.1.long, joined_longer over.1.path (units_text (name_of (folder_of entries id))))),
        ))
        (later (were ∙ ap Err (same_error {X = List ℕ} e fault same)))

-- why an entry, which is a folder or a file, has no path
abbrev pub WhyNoName : Bool → List Entry → Entry → Refusal → Type 0
WhyNoName folder entries entry fault =
    ((Limit Depth deepest ≡ fault) × IsDeep entries (counted_from folder entry))
    ⊎ ((Limit Path longest_path ≡ fault) × ((path : List ℕ) × IsNameOf folder entries entry path × (longest_path < length path)))

own_refuses : (entries : List Entry) (entry : Entry) (fault : Refusal) → own_path entries entry ≡ Err fault → WhyNoName (is_folder entry) entries entry fault
unfolding folder_path
own_refuses entries entry fault is = either (is_folder entry) is
  where
    long : (list : List ℕ) → path_within deepest entries entry.parent ≡ Ok list → (short : Bool) → nat_le (length (joined_path list (units_text entry.name))) longest_path ≡ short
        → (if short then Ok (joined_path list (units_text entry.name)) else Err (Limit Path longest_path)) ≡ Err fault → WhyNoName false entries entry fault
    long list were true its same = absurd cc
    long list were false its same =
        let found = within_gives deepest entries entry.parent list were in
        inr (
          same_error {X = List ℕ} (Limit Path longest_path) fault same,
          (joined_path list (units_text entry.name), (found.below, (list, found.is, refl)), leb-false (length (joined_path list (units_text entry.name))) longest_path its),
        )

    file : (parent : Result (List ℕ) Refusal) → path_within deepest entries entry.parent ≡ parent → path_in parent entry.name ≡ Err fault → WhyNoName false entries entry fault
    file (Ok list) were same = long list were (nat_le (length (joined_path list (units_text entry.name))) longest_path) refl same
    file (Err e) were same =
        ⊎_elim (λ deep. inl deep)
        (λ over. inr (over.0, (joined_path over.1.path (units_text entry.name), (over.1.below, (over.1.path, over.1.is, refl)), omega (arith, over.1.long, joined_longer over.1.path (units_text entry.name)))))
        (within_refuses deepest entries entry.parent fault (were ∙ ap Err (same_error {X = List ℕ} e fault same)))

    either : (folder : Bool) → (if folder then folder_path entries entry.id else path_in (folder_path entries entry.parent) entry.name) ≡ Err fault → WhyNoName folder entries entry fault
    either true same = ⊎_elim (λ deep. inl deep) (λ over. inr (over.0, (over.1.path, (over.1.below, over.1.is), over.1.long))) (within_refuses deepest entries entry.id fault same)
    either false same = file (path_within deepest entries entry.parent) refl same

-- an entry that has a path is neither too deep nor has a path that is too long
own_gives : (entries : List Entry) (entry : Entry) (path : List ℕ) → own_path entries entry ≡ Ok path
    → (IsDeep entries (counted_from (is_folder entry) entry) → ⊥) × ((other : List ℕ) → IsNameOf (is_folder entry) entries entry other → longest_path < length other → ⊥)
unfolding folder_path
own_gives entries entry path is = either (is_folder entry) is
  where
    file : (parent : Result (List ℕ) Refusal) → path_within deepest entries entry.parent ≡ parent → path_in parent entry.name ≡ Ok path
        → (IsDeep entries entry.parent → ⊥) × ((other : List ℕ) → IsNameOf false entries entry other → longest_path < length other → ⊥)
    file (Err e) were same = absurd cc
    file (Ok list) were same =
        let up = within_reaches deepest entries entry.parent list were in
        let joined = short_gives list (units_text entry.name) path same in (
          λ deep. deep up.0 up.1 up.2,
          λ other of long.
              let front : of.1.0 ≡ list = within_one deepest of.0 entries entry.parent list of.1.0 were of.1.1 in
              let whole : other ≡ path = of.1.2 ∙ ap (λ one. joined_path one (units_text entry.name)) front ∙ joined.is in
              let lengths : length other ≡ length path = ap length whole in
              absurd (omega (arith, long, lengths, joined.short)),
        )

    either : (folder : Bool) → (if folder then folder_path entries entry.id else path_in (folder_path entries entry.parent) entry.name) ≡ Ok path
        → (IsDeep entries (counted_from folder entry) → ⊥) × ((other : List ℕ) → IsNameOf folder entries entry other → longest_path < length other → ⊥)
    either true same =
        let up = within_reaches deepest entries entry.id path same in
        let found = within_gives deepest entries entry.id path same in (
          λ deep. deep up.0 up.1 up.2,
          λ other of long.
              let lengths : length other ≡ length path = ap length (within_one deepest of.0 entries entry.id path other same of.1) in
              absurd (omega (arith, long, lengths, found.short)),
        )
    either false same = file (path_within deepest entries entry.parent) refl same

-- ---- names

-- a name that is refused, of a file that isn't a hard link
pub record IsRefusedName (entries : List Entry) (fault : Refusal) : Type 0 where
  pub file : IsRefusedIn (named_entry entries) (listed entries) fault
  pub name : IsRefusedIn (own_path entries) (entries_or_own (links_to entries file.item.id) file.item) fault
  pub why : WhyNoName (is_folder name.item) entries name.item fault

pub name_refused : (entries : List Entry) (fault : Refusal) → named_entries entries ≡ Err fault → IsRefusedName entries fault
name_refused entries fault is =
    let file = each_refuses (named_entry entries) (listed entries) fault is in
    let own : List Entry = entries_or_own (links_to entries file.item.id) file.item in
    let name = each_refuses (own_path entries) own fault (value_refuses sorted_names (each_result (own_path entries) own) fault (value_refuses _ (names_of entries file.item) fault file.is)) in
    record { file = file; name = name; why = own_refuses entries name.item fault name.is }

-- each name of a file that was found has a path
pub name_found : (entries : List Entry) (named : List NamedEntry) (front : List Entry) (entry : Entry) (behind others : List Entry) (one : Entry) (more : List Entry)
    → named_entries entries ≡ Ok named → listed entries ≡ front ++ entry ∷ behind → entries_or_own (links_to entries entry.id) entry ≡ others ++ one ∷ more
    → (IsDeep entries (counted_from (is_folder one) one) → ⊥) × ((path : List ℕ) → IsNameOf (is_folder one) entries one path → longest_path < length path → ⊥)
name_found entries named front entry behind others one more all whole each =
    let P : List Entry → Type 0 = λ list. each_result (named_entry entries) list ≡ Ok named in
    let own : List Entry = entries_or_own (links_to entries entry.id) entry in
    let given = each_gives_item (named_entry entries) front entry behind named (subst P whole all) in
    let names = value_gives _ (names_of entries entry) given.0 given.1 in
    let paths = value_gives sorted_names (each_result (own_path entries) own) names.0 names.1 in
    let Q : List Entry → Type 0 = λ list. each_result (own_path entries) list ≡ Ok paths.0 in
    let path = each_gives_item (own_path entries) others one more paths.0 (subst Q each paths.1) in
    own_gives entries one path.0 path.1

named_is : (entries : List Entry) (entry : Entry) (named : NamedEntry) → named_entry entries entry ≡ Ok named → entry ≡ named.entry
named_is entries entry named is = either (names_of entries entry) is
  where
    either : (names : Result (List (List ℕ)) Refusal) → with_value (λ list. record { entry = entry; names = list }) names ≡ Ok named → entry ≡ named.entry
    either (Ok list) same = ap (λ n. n.entry) (same_value {X = NamedEntry} (record { entry = entry; names = list }) named same)
    either (Err e) same = absurd cc

-- ---- forks

part_refused : (header : Header) (overflow : List OverflowRecord) (file fork_type : ℕ) (fork : Fork) (place : ℕ) (unreadable : Bool) (name : List ℕ) (fault : Refusal)
    → fork_part header overflow file fork_type fork place unreadable name ≡ Err fault → IsDamage (IsFalseInFork header (records_of overflow file fork_type) fork place) fault
unfolding fork_part
part_refused header overflow file fork_type fork place unreadable name fault is = either _ (fork_fault header (records_of overflow file fork_type) fork place) refl is
  where
    either : (part : PartValue) (found : Option Refusal) → fork_fault header (records_of overflow file fork_type) fork place ≡ found → unless found part ≡ Err fault
        → IsDamage (IsFalseInFork header (records_of overflow file fork_type) fork place) fault
    either part None there same = absurd cc
    either part (Some e) there same = (fork_damage_law header (records_of overflow file fork_type) fork place).stops fault (there ∙ ap Some (same_error {X = PartValue} e fault same))

part_passes : (header : Header) (overflow : List OverflowRecord) (file fork_type : ℕ) (fork : Fork) (place : ℕ) (unreadable : Bool) (name : List ℕ) (part : PartValue) (sort : Sort) (at : ℕ)
    → fork_part header overflow file fork_type fork place unreadable name ≡ Ok part → IsFalseInFork header (records_of overflow file fork_type) fork place sort at → ⊥
unfolding fork_part
part_passes header overflow file fork_type fork place unreadable name part sort at is = (fork_damage_law header (records_of overflow file fork_type) fork place).passes_all sort at (either _ (fork_fault header (records_of overflow file fork_type) fork place) is)
  where
    either : (found : PartValue) (fault : Option Refusal) → unless fault found ≡ Ok part → fault ≡ None
    either found None same = refl
    either found (Some e) same = absurd cc

followed_refuses : {X : Type 0} (first : Result X Refusal) (rest : Result (List X) Refusal) (fault : Refusal) → followed first rest ≡ Err fault → (first ≡ Err fault) ⊎ (rest ≡ Err fault)
followed_refuses {X = X} (Ok x) rest fault is = inr (value_refuses (λ xs. x ∷ xs) rest fault is)
followed_refuses {X = X} (Err e) rest fault is = inl (ap Err (same_error {X = List X} e fault is))

followed_gives : {X : Type 0} (first : Result X Refusal) (rest : Result (List X) Refusal) (xs : List X) → followed first rest ≡ Ok xs → ((x : X) × (first ≡ Ok x)) × ((others : List X) × (rest ≡ Ok others))
followed_gives (Ok x) rest xs is = ((x, refl), value_gives (λ list. x ∷ list) rest xs is)
followed_gives (Err e) rest xs is = absurd cc

-- ---- files

parts_refused : (header : Header) (overflow : List OverflowRecord) (entries front : List Entry) (entry : Entry) (behind : List Entry) (info : Option FileInfo) (fault : Refusal)
    → listed entries ≡ front ++ entry ∷ behind → entry.info ≡ info → fork_parts header overflow entry info ≡ Err fault → IsDamage (IsFalseInFiles header overflow entries) fault
parts_refused header overflow entries front entry behind None fault whole none is = absurd cc
parts_refused header overflow entries front entry behind (Some info) fault whole some is =
    ⊎_elim
    (λ data_fork. damage_map (IsFalseInFork header (records_of overflow entry.id 0) info.data_fork (entry.body_at + 88)) (IsFalseInFiles header overflow entries) fault
    (λ sort place false'. InDataFork front entry behind info sort place whole some false')
    (part_refused header overflow entry.id 0 info.data_fork (entry.body_at + 88) (is_unreadable entry) [] fault data_fork))
    (λ rest. resource (is_empty_fork info.resource_fork) refl rest)
    (followed_refuses (fork_part header overflow entry.id 0 info.data_fork (entry.body_at + 88) (is_unreadable entry) []) _ fault is)
  where
    resource : (empty : Bool) → is_empty_fork info.resource_fork ≡ empty
        → (if empty then Ok [] else followed (fork_part header overflow entry.id 255 info.resource_fork (entry.body_at + 168) (is_unreadable entry) (codes "rsrc")) (Ok [])) ≡ Err fault
        → IsDamage (IsFalseInFiles header overflow entries) fault
    resource true none same = absurd cc
    resource false has same =
        ⊎_elim
        (λ refused. damage_map (IsFalseInFork header (records_of overflow entry.id 255) info.resource_fork (entry.body_at + 168)) (IsFalseInFiles header overflow entries) fault
        (λ sort place false'. InResourceFork front entry behind info sort place whole some has false')
        (part_refused header overflow entry.id 255 info.resource_fork (entry.body_at + 168) (is_unreadable entry) (codes "rsrc") fault refused))
        (λ never. absurd cc)
        (followed_refuses (fork_part header overflow entry.id 255 info.resource_fork (entry.body_at + 168) (is_unreadable entry) (codes "rsrc")) (Ok []) fault same)

data_passes : (header : Header) (overflow : List OverflowRecord) (entry : Entry) (info : FileInfo) (parts : List PartValue) (sort : Sort) (place : ℕ) → fork_parts header overflow entry (Some info) ≡ Ok parts
    → IsFalseInFork header (records_of overflow entry.id 0) info.data_fork (entry.body_at + 88) sort place → ⊥
data_passes header overflow entry info parts sort place is =
    let first = (followed_gives (fork_part header overflow entry.id 0 info.data_fork (entry.body_at + 88) (is_unreadable entry) []) _ parts is).0 in
    part_passes header overflow entry.id 0 info.data_fork (entry.body_at + 88) (is_unreadable entry) [] first.0 sort place first.1

resource_passes : (header : Header) (overflow : List OverflowRecord) (entry : Entry) (info : FileInfo) (parts : List PartValue) (sort : Sort) (place : ℕ) → fork_parts header overflow entry (Some info) ≡ Ok parts
    → is_empty_fork info.resource_fork ≡ false → IsFalseInFork header (records_of overflow entry.id 255) info.resource_fork (entry.body_at + 168) sort place → ⊥
resource_passes header overflow entry info parts sort place is has =
    let rest = (followed_gives (fork_part header overflow entry.id 0 info.data_fork (entry.body_at + 88) (is_unreadable entry) []) _ parts is).1 in
    let there = either (is_empty_fork info.resource_fork) rest.0 has rest.1 in
    part_passes header overflow entry.id 255 info.resource_fork (entry.body_at + 168) (is_unreadable entry) (codes "rsrc") there.0 sort place there.1
  where
    either : (empty : Bool) (others : List PartValue) → empty ≡ false
        → (if empty then Ok [] else followed (fork_part header overflow entry.id 255 info.resource_fork (entry.body_at + 168) (is_unreadable entry) (codes "rsrc")) (Ok [])) ≡ Ok others
        → (part : PartValue) × (fork_part header overflow entry.id 255 info.resource_fork (entry.body_at + 168) (is_unreadable entry) (codes "rsrc") ≡ Ok part)
    either true others none same = absurd cc
    either false others none same = (followed_gives (fork_part header overflow entry.id 255 info.resource_fork (entry.body_at + 168) (is_unreadable entry) (codes "rsrc")) (Ok []) others same).0

pub file_refused : (volume : ℕ) (header : Header) (overflow : List OverflowRecord) (entries : List Entry) (named : List NamedEntry) (fault : Refusal) → named_entries entries ≡ Ok named
    → each_result (entry_file volume header overflow) named ≡ Err fault → IsDamage (IsFalseInFiles header overflow entries) fault
unfolding entry_file
file_refused volume header overflow entries named fault all is =
    let found = each_refuses (entry_file volume header overflow) named fault is in
    let P : List NamedEntry → Type 0 = λ list. each_result (named_entry entries) (listed entries) ≡ Ok list in
    let of = given_by (named_entry entries) (listed entries) found.front found.item found.behind (subst P found.whole all) in
    let Q : Entry → Type 0 = λ entry. listed entries ≡ of.front ++ entry ∷ of.behind in
    parts_refused header overflow entries of.front found.item.entry of.behind found.item.entry.info fault (subst Q (named_is entries of.item found.item of.is) of.whole) refl
    (value_refuses _ (fork_parts header overflow found.item.entry found.item.entry.info) fault found.is)

pub special_refused : (volume : ℕ) (header : Header) (overflow : List OverflowRecord) (entries : List Entry) (fault : Refusal) → each_result (special_file volume header overflow) (special_files header) ≡ Err fault
    → IsDamage (IsFalseInFiles header overflow entries) fault
unfolding special_file
special_refused volume header overflow entries fault is =
    let found = each_refuses (special_file volume header overflow) (special_files header) fault is in
    let special : SpecialFile = found.item in
    let place : ℕ = header.at + 1024 + special.offset in
    damage_map (IsFalseInFork header (records_of overflow special.number 0) special.fork place) (IsFalseInFiles header overflow entries) fault
    (λ sort at false'. InSpecialFork found.front special found.behind sort at found.whole false')
    (part_refused header overflow special.number 0 special.fork place false [] fault (value_refuses _ (fork_part header overflow special.number 0 special.fork place false []) fault found.is))

-- the parts of an entry whose files were found
entry_parts : (volume : ℕ) (header : Header) (overflow : List OverflowRecord) (entries : List Entry) (named : List NamedEntry) (files : List FileEntry) (front : List Entry) (entry : Entry) (behind : List Entry)
    → named_entries entries ≡ Ok named → each_result (entry_file volume header overflow) named ≡ Ok files → listed entries ≡ front ++ entry ∷ behind → (parts : List PartValue) × (fork_parts header overflow entry entry.info ≡ Ok parts)
unfolding entry_file
entry_parts volume header overflow entries named files front entry behind all are whole =
    let P : List Entry → Type 0 = λ list. each_result (named_entry entries) list ≡ Ok named in
    let of = gives_one (named_entry entries) front entry behind named (subst P whole all) in
    let Q : List NamedEntry → Type 0 = λ list. each_result (entry_file volume header overflow) list ≡ Ok files in
    let file = each_gives_item (entry_file volume header overflow) of.front of.value of.behind files (subst Q of.whole are) in
    let parts = value_gives _ (fork_parts header overflow of.value.entry of.value.entry.info) file.0 file.1 in
    let R : Entry → Type 0 = λ one. fork_parts header overflow one one.info ≡ Ok parts.0 in
    (parts.0, subst R (sym (named_is entries entry of.value of.is)) parts.1)

pub files_pass : (volume : ℕ) (header : Header) (overflow : List OverflowRecord) (entries : List Entry) (named : List NamedEntry) (files specials : List FileEntry) (sort : Sort) (place : ℕ)
    → named_entries entries ≡ Ok named → each_result (entry_file volume header overflow) named ≡ Ok files → each_result (special_file volume header overflow) (special_files header) ≡ Ok specials
    → IsFalseInFiles header overflow entries sort place → ⊥
unfolding special_file
files_pass volume header overflow entries named files specials sort place all are these (InDataFork front entry behind info kind at whole some wrong) =
    let parts = entry_parts volume header overflow entries named files front entry behind all are whole in
    data_passes header overflow entry info parts.0 sort place (ap (λ i. fork_parts header overflow entry i) (sym some) ∙ parts.1) wrong
files_pass volume header overflow entries named files specials sort place all are these (InResourceFork front entry behind info kind at whole some has wrong) =
    let parts = entry_parts volume header overflow entries named files front entry behind all are whole in
    resource_passes header overflow entry info parts.0 sort place (ap (λ i. fork_parts header overflow entry i) (sym some) ∙ parts.1) has wrong
files_pass volume header overflow entries named files specials sort place all are these (InSpecialFork front special behind kind at whole wrong) =
    let P : List SpecialFile → Type 0 = λ list. each_result (special_file volume header overflow) list ≡ Ok specials in
    let file = each_gives_item (special_file volume header overflow) front special behind specials (subst P whole these) in
    let part = value_gives _ (fork_part header overflow special.number 0 special.fork (header.at + 1024 + special.offset) false []) file.0 file.1 in
    part_passes header overflow special.number 0 special.fork (header.at + 1024 + special.offset) false [] part.0 sort place part.1 wrong
