-- The entries of a file lead to its overflow records, in the order of the leaf records.
use Rattle.std.specs.Prelude.{◌≡◌, ℕ, zero, suc, ◌+◌, ◌-◌, ◌<◌, ◌≤◌, Bool, true, false, not, ◌&&◌, ◌==◌, nat_lt, nat_le, cond, List, [], ◌∷◌, ◌++◌, length, take, drop, get_or, refl}
use Rattle.std.specs.List.{All, AllWithin, filter, flat_map}
use Rattle.std.specs.List.Sorted.{IsNonDecreasingBy, IsPartitionPoint}
use Rattle.std.specs.Ordering.{nat_cmp, is_lt}
use Rattle.std.proofs.Common.{ap, sym, ◌∙◌, subst, arith, append_assoc, append-nil}
use Rattle.std.proofs.lemmas.Bool.Decides.{Decides-eqb, nat_tests}
use Rattle.std.proofs.lemmas.Bool.{ltb-true, ltb-false, leb-true, leb-false}
use Rattle.std.proofs.lemmas.List.{drop-drop, drop_all, drop_more, at_drop_more, take_all, length-drop}
use Rattle.std.proofs.lemmas.List.Elements.{All-nil, All-cons, All-filter, filter_agree}
use Rattle.std.proofs.lemmas.List.Sorted.{All-permutation, IsNonDecreasingBy-from_sort}
use Rattle.order_defs.specs.Sorted.{sorted_by}
use Rattle.order_defs.proofs.SortedLaws.{sorted_law, sorted_moves}
use Rattle.hfs_defs.specs.Forks.{is_of}
use Rattle.hfs_defs.specs.declared.forks.OverflowRecord.{OverflowRecord}
use Rattle.hfs_extents.specs.declared.index.Entry.{Entry}
use Rattle.hfs_extents.specs.Index.{entries_from, entries_by_file}
use Rattle.hfs_extents.proofs.ReadLaws.{eqb_apart}
use Rattle.hfs_extents.proofs.SortLaws.{by_key_total}

-- the record of a number, as a list, and those of entries
abbrev pub record_at : List OverflowRecord → ℕ → List OverflowRecord
record_at records number = take 1 (drop number records)

abbrev pub records_at : List OverflowRecord → List Entry → List OverflowRecord
records_at records entries = flat_map (λ entry. record_at records entry.number) entries

abbrev pub is_in_file : ℕ → Entry → Bool
is_in_file file entry = entry.file == file

-- ---- the entries in the order of the records

led_from : (records : List OverflowRecord) (file number : ℕ) (rest : List OverflowRecord) → drop number records ≡ rest
    → records_at records (filter (is_in_file file) (entries_from number rest)) ≡ filter (λ overflow. overflow.file == file) rest
led_from records file number [] is = refl
led_from records file number (overflow ∷ rest) is = either (overflow.file == file) (led_from records file (number + 1) rest (sym (drop-drop 1 number records) ∙ ap (drop 1) is))
  where
    either : (own : Bool) → records_at records (filter (is_in_file file) (entries_from (number + 1) rest)) ≡ filter (λ other. other.file == file) rest
        → records_at records (cond own (record { file = overflow.file; number = number } ∷ filter (is_in_file file) (entries_from (number + 1) rest)) (filter (is_in_file file) (entries_from (number + 1) rest)))
        ≡ cond own (overflow ∷ filter (λ other. other.file == file) rest) (filter (λ other. other.file == file) rest)
    either true behind = ap (λ list. take 1 list ++ records_at records (filter (is_in_file file) (entries_from (number + 1) rest))) is ∙ ap (λ list. overflow ∷ list) behind
    either false behind = behind

-- ---- and by their files

level_file : (file : ℕ) (entry : Entry) → (not (is_lt (nat_cmp file entry.file)) && not (is_lt (nat_cmp entry.file file))) ≡ (entry.file == file)
level_file file entry = grind (arith, nat_tests)

same_entries : (file : ℕ) (entries : List Entry) → filter (is_in_file file) (sorted_by (λ entry. entry.file) entries) ≡ filter (is_in_file file) entries
same_entries file entries =
    let law = sorted_law (λ (x y : Entry). nat_cmp x.file y.file) (by_key_total (λ entry. entry.file)) entries in
    sym (filter_agree _ (is_in_file file) (level_file file) (sorted_by (λ entry. entry.file) entries))
    ∙ law.is.stable (record { file = file; number = 0 })
    ∙ filter_agree _ (is_in_file file) (level_file file) entries

-- the entries of a file lead to its records
pub led : (records : List OverflowRecord) (file : ℕ) → records_at records (filter (is_in_file file) (entries_by_file records)) ≡ filter (λ overflow. overflow.file == file) records
unfolding entries_by_file
led records file = ap (records_at records) (same_entries file (entries_from 0 records)) ∙ led_from records file 0 records refl

pub rises : (records : List OverflowRecord) (entries : List Entry) → entries ≡ entries_by_file records → IsNonDecreasingBy (λ (entry : Entry). entry.file) entries
unfolding entries_by_file
rises records entries is =
    let P : List Entry → Type 0 = λ list. IsNonDecreasingBy (λ (entry : Entry). entry.file) list in
    let law = sorted_law (λ (x y : Entry). nat_cmp x.file y.file) (by_key_total (λ entry. entry.file)) (entries_from 0 records) in
    subst P (sym is) (IsNonDecreasingBy-from_sort (λ (entry : Entry). entry.file) (sorted_by (λ entry. entry.file) (entries_from 0 records)) law.is.sorted)

-- each entry has the number of a record
abbrev pub IsInside : List OverflowRecord → Entry → Type 0
IsInside records entry = entry.number < length records

numbered : (all number : ℕ) (rest : List OverflowRecord) → number + length rest ≤ all → All (λ (entry : Entry). entry.number < all) (entries_from number rest)
numbered all number [] fits = All-nil (λ (entry : Entry). entry.number < all)
numbered all number (overflow ∷ rest) fits =
    All-cons (λ (entry : Entry). entry.number < all) (record { file = overflow.file; number = number }) (entries_from (number + 1) rest) (omega (arith, fits)) (numbered all (number + 1) rest (omega (arith, fits)))

pub inside : (records : List OverflowRecord) (file : ℕ) → All (IsInside records) (filter (is_in_file file) (entries_by_file records))
unfolding entries_by_file
inside records file =
    All-filter (is_in_file file) (IsInside records) (sorted_by (λ entry. entry.file) (entries_from 0 records))
    (All-permutation (IsInside records) (entries_from 0 records) (sorted_by (λ entry. entry.file) (entries_from 0 records)) (sorted_moves (by_key_total (λ (entry : Entry). entry.file)) (entries_from 0 records))
    (numbered (length records) 0 records (omega arith)))

-- ---- one entry on

of_both : (file fork_type : ℕ) (records : List OverflowRecord) → filter (is_of file fork_type) records ≡ filter (λ overflow. overflow.fork_type == fork_type) (filter (λ overflow. overflow.file == file) records)
of_both file fork_type [] = refl
of_both file fork_type (overflow ∷ records) = either (overflow.file == file) (of_both file fork_type records)
  where
    either : (own : Bool) → filter (is_of file fork_type) records ≡ filter (λ other. other.fork_type == fork_type) (filter (λ other. other.file == file) records)
        → cond (own && overflow.fork_type == fork_type) (overflow ∷ filter (is_of file fork_type) records) (filter (is_of file fork_type) records)
        ≡ filter (λ other. other.fork_type == fork_type) (cond own (overflow ∷ filter (λ other. other.file == file) records) (filter (λ other. other.file == file) records))
    either true behind = ap (λ list. cond (overflow.fork_type == fork_type) (overflow ∷ list) list) behind
    either false behind = behind

-- what is left of a fork's records, where these entries are left
abbrev pub left_of : List OverflowRecord → ℕ → List Entry → List OverflowRecord
left_of records fork_type entries = filter (λ overflow. overflow.fork_type == fork_type) (records_at records entries)

pub left-all : (records : List OverflowRecord) (entries own : List Entry) (file fork_type : ℕ) → entries ≡ entries_by_file records → own ≡ filter (is_in_file file) entries
    → filter (is_of file fork_type) records ≡ left_of records fork_type own
left-all records entries own file fork_type is all =
    of_both file fork_type records
    ∙ ap (filter (λ overflow. overflow.fork_type == fork_type)) (sym (led records file))
    ∙ ap (λ list. left_of records fork_type (filter (is_in_file file) list)) (sym is)
    ∙ ap (left_of records fork_type) (sym all)

-- the next entry's record, of the fork or of the other one
left-next : (records : List OverflowRecord) (entries : List Entry) (fork_type i : ℕ) (e : Entry) (d : OverflowRecord) → i < length entries → (get_or entries i e).number < length records
    → left_of records fork_type (drop i entries)
    ≡ cond ((get_or records (get_or entries i e).number d).fork_type == fork_type) (get_or records (get_or entries i e).number d ∷ left_of records fork_type (drop (i + 1) entries)) (left_of records fork_type (drop (i + 1) entries))
left-next records entries fork_type i e d first within =
    let number : ℕ = (get_or entries i e).number in
    at_drop_more (left_of records fork_type) entries i e first
    ∙ ap (λ list. filter (λ overflow. overflow.fork_type == fork_type) (take 1 list ++ records_at records (drop (i + 1) entries))) (drop_more records number d within)

pub left-own : (records : List OverflowRecord) (entries : List Entry) (fork_type i : ℕ) (e : Entry) (d : OverflowRecord) (all found more : List OverflowRecord) → i < length entries → (get_or entries i e).number < length records
    → (get_or records (get_or entries i e).number d).fork_type ≡ fork_type → more ≡ found ++ get_or records (get_or entries i e).number d ∷ []
    → all ≡ found ++ left_of records fork_type (drop i entries) → all ≡ more ++ left_of records fork_type (drop (i + 1) entries)
left-own records entries fork_type i e d all found more first within own pushed so_far =
    let one : OverflowRecord = get_or records (get_or entries i e).number d in
    let rest : List OverflowRecord = left_of records fork_type (drop (i + 1) entries) in
    so_far
    ∙ ap (λ list. found ++ list) (left-next records entries fork_type i e d first within ∙ ap (λ test. cond test (one ∷ rest) rest) ((Decides-eqb one.fork_type fork_type).1 own))
    ∙ sym (append_assoc found (one ∷ []) rest)
    ∙ ap (λ list. list ++ rest) (sym pushed)

pub left-none : (records : List OverflowRecord) (entries : List Entry) (fork_type i : ℕ) (found : List OverflowRecord) → length entries ≤ i → found ++ left_of records fork_type (drop i entries) ≡ found
left-none records entries fork_type i found past = ap (λ rest. found ++ left_of records fork_type rest) (drop_all i entries past) ∙ append-nil found

pub number-inside : (records : List OverflowRecord) (entries own : List Entry) (file i : ℕ) (e : Entry) → entries ≡ entries_by_file records → own ≡ filter (is_in_file file) entries → i < length own → (get_or own i e).number < length records
number-inside records entries own file i e is all first =
    let P : List Entry → Type 0 = λ list. All (IsInside records) list in
    subst P (sym (all ∙ ap (filter (is_in_file file)) is)) (inside records file) i e first

-- ---- the entries of a file stand side by side

none_of : (file : ℕ) (entries : List Entry) → AllWithin (λ entry. nat_le entry.file file ≡ false) entries 0 (length entries) → filter (is_in_file file) entries ≡ []
none_of file [] past = refl
none_of file (entry ∷ entries) past =
    let over : file < entry.file = leb-false entry.file file (past 0 entry (omega arith) (omega arith)) in
    ap (λ test. cond test (entry ∷ filter (is_in_file file) entries) (filter (is_in_file file) entries)) (eqb_apart entry.file file (λ same. omega (arith, over, same)))
    ∙ none_of file entries (λ k d from below. past (suc k) d (omega arith) (omega (arith, below)))

-- where no entry is of a file in front, those of the file are the first
upto_file : (file : ℕ) (entries : List Entry) (end : ℕ) → AllWithin (λ entry. nat_lt entry.file file ≡ false) entries 0 (length entries) → AllWithin (λ entry. nat_le entry.file file ≡ true) entries 0 end
    → AllWithin (λ entry. nat_le entry.file file ≡ false) entries end (length entries) → take end entries ≡ filter (is_in_file file) entries
upto_file file [] zero from upto past = refl
upto_file file [] (suc end) from upto past = refl
upto_file file (entry ∷ entries) zero from upto past = sym (none_of file (entry ∷ entries) past)
upto_file file (entry ∷ entries) (suc end) from upto past =
    let low : entry.file ≤ file = leb-true entry.file file (upto 0 entry (omega arith) (omega arith)) in
    let high : file ≤ entry.file = ltb-false entry.file file (from 0 entry (omega arith) (omega arith)) in
    ap (λ list. entry ∷ list)
    (upto_file file entries end (λ k d low below. from (suc k) d (omega arith) (omega (arith, below))) (λ k d low below. upto (suc k) d (omega arith) (omega (arith, below))) (λ k d low below. past (suc k) d (omega (arith, low)) (omega (arith, below))))
    ∙ sym (ap (λ test. cond test (entry ∷ filter (is_in_file file) entries) (filter (is_in_file file) entries)) ((Decides-eqb entry.file file).1 (omega (arith, low, high))))

-- what two searches say: in front of the first place stand those of files in front, and behind it the second has the file's
pub between : (file : ℕ) (entries : List Entry) (begin end : ℕ) → IsPartitionPoint (λ (y : Entry). nat_lt y.file file ≡ true) (λ (y : Entry). nat_lt y.file file ≡ false) entries begin
    → IsPartitionPoint (λ (y : Entry). nat_le y.file file ≡ true) (λ (y : Entry). nat_le y.file file ≡ false) (drop begin entries) end → take end (drop begin entries) ≡ filter (is_in_file file) entries
between file [] zero end first last = upto_file file [] end first.1 last.0 last.1
between file [] (suc begin) end first last = upto_file file [] end (λ k d from below. absurd (omega (arith, below))) last.0 last.1
between file (entry ∷ entries) zero end first last = upto_file file (entry ∷ entries) end first.1 last.0 last.1
between file (entry ∷ entries) (suc begin) end first last =
    let low : entry.file < file = ltb-true entry.file file (first.0 0 entry (omega arith) (omega arith)) in
    between file entries begin end (λ k d from below. first.0 (suc k) d (omega arith) (omega (arith, below)), λ k d from below. first.1 (suc k) d (omega (arith, from)) (omega (arith, below))) last
    ∙ sym (ap (λ test. cond test (entry ∷ filter (is_in_file file) entries) (filter (is_in_file file) entries)) (eqb_apart entry.file file (λ same. omega (arith, low, same))))

-- the same, where the entries behind the first place are a part of all
pub between_part : (file : ℕ) (entries : List Entry) (begin end : ℕ) → begin ≤ length entries → IsPartitionPoint (λ (y : Entry). nat_lt y.file file ≡ true) (λ (y : Entry). nat_lt y.file file ≡ false) entries begin
    → IsPartitionPoint (λ (y : Entry). nat_le y.file file ≡ true) (λ (y : Entry). nat_le y.file file ≡ false) (take (length entries - begin) (drop begin entries)) end
    → take end (take (length entries - begin) (drop begin entries)) ≡ filter (is_in_file file) entries
between_part file entries begin end inside first last =
    let whole : take (length entries - begin) (drop begin entries) ≡ drop begin entries = take_all (length entries - begin) (drop begin entries) (omega (arith, length-drop begin entries)) in
    let P : List Entry → Type 0 = λ rest. IsPartitionPoint (λ (y : Entry). nat_le y.file file ≡ true) (λ (y : Entry). nat_le y.file file ≡ false) rest end in
    ap (take end) whole ∙ between file entries begin end first (subst P whole last)

-- all entries, sorted
pub by_file : (records : List OverflowRecord) (entries list : List Entry) (number : ℕ) → entries_from 0 records ≡ entries ++ entries_from number (drop number records) → length records ≤ number
    → list ≡ sorted_by (λ (entry : Entry). entry.file) entries → list ≡ entries_by_file records
unfolding entries_by_file
by_file records entries list number all past is =
    is ∙ ap (sorted_by (λ (entry : Entry). entry.file)) (sym (all ∙ ap (λ rest. entries ++ entries_from number rest) (drop_all number records past) ∙ append-nil entries))
