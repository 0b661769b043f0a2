-- Files that were made of groups of names.
use Rattle.std.specs.Prelude.{◌≡◌, ℕ, ◌+◌, ◌<◌, ◌≤◌, true, ◌&&◌, ◌||◌, ◌==◌, nat_lt, nat_le, IsTrue, List, [], ◌∷◌, ◌++◌, map, length, refl}
use Rattle.std.specs.List.{All, sum_by}
use Rattle.std.specs.List.Sorted.{IsStrictlySortedBy}
use Rattle.std.specs.Ordering.{nat_cmp}
use Rattle.std.specs.declared.cmp.Ordering.TheVariants.{Less}
use Rattle.std.proofs.Common.{ap, sym, ◌∙◌, subst, arith}
use Rattle.std.proofs.lemmas.Bool.Decides.{nat_tests}
use Rattle.std.proofs.lemmas.List.Elements.{All-nil, All-cons, All-head, All-from_recursion}
use Rattle.std.proofs.lemmas.List.Sorted.{length_permutation, sum_by-IsPermutation}
use Rattle.std.proofs.lemmas.List.Sums.{sum_by-cons}
use Rattle.order_defs.specs.Sorted.{sorted_names}
use Rattle.order_defs.proofs.DistinctLaws.{sorted_names_law}
use Rattle.rx_tree.specs.NameLimits.{has_few_names, name_count, path_bytes as file_bytes}
use Rattle.rx_tree.specs.Order.{HaveRisingIds, stands_before}
use Rattle.rx_tree.specs.Within.{ArePartsWithin, AreFilesWithin}
use Rattle.rx_tree.specs.declared.file.FileEntry.{FileEntry}
use Rattle.rx_tree.specs.declared.file.FileId.{FileId}
use Rattle.ufs_inode_defs.specs.declared.superblock.Super.{Super}
use Rattle.ufs_volume_defs.specs.Names.{Named, path_bytes, most_names, most_path_bytes}
use Rattle.ufs_volume_defs.specs.Files.{Filed}
use Rattle.ufs_files.specs.Groups.{Group, AreGroupsOf}
use Rattle.ufs_files.specs.Filed.{HasFile, AreFilesOf}
use Rattle.ufs_files.proofs.GroupLaws.{group_number, groups_rise, less_is}

-- a file of a group
pub record IsMadeOf (sup : Super) (volume : ℕ) (group : Group) (file : FileEntry) : Type 0 where
  pub id : file.id ≡ record { volume = volume; number = group.number }
  pub names : file.names ≡ sorted_names group.paths
  pub within : ArePartsWithin (sup.at + sup.len) file.parts

-- one file for each group, in their order
abbrev pub AreMadeOf : Super → ℕ → List Group → List FileEntry → Type 0
AreMadeOf sup volume [] [] = Unit {0}
AreMadeOf sup volume [] (file ∷ files) = ⊥
AreMadeOf sup volume (group ∷ groups) [] = ⊥
AreMadeOf sup volume (group ∷ groups) (file ∷ files) = IsMadeOf sup volume group file × AreMadeOf sup volume groups files

made_push : (sup : Super) (volume : ℕ) (groups : List Group) (files : List FileEntry) (group : Group) (file : FileEntry) → AreMadeOf sup volume groups files → IsMadeOf sup volume group file
    → AreMadeOf sup volume (groups ++ group ∷ []) (files ++ file ∷ [])
made_push sup volume [] [] group file made one = (one, tt)
made_push sup volume [] (other ∷ files) group file made one = absurd made
made_push sup volume (other ∷ groups) [] group file made one = absurd made
made_push sup volume (first ∷ groups) (other ∷ files) group file made one = (made.0, made_push sup volume groups files group file made.1 one)

-- one more
pub made_more : (sup : Super) (volume : ℕ) (groups : List Group) (filed after : Filed) (group : Group) → AreMadeOf sup volume groups filed.files → HasFile sup volume filed group after → AreMadeOf sup volume (groups ++ group ∷ []) after.files
made_more sup volume groups filed after group made has =
    let P : List FileEntry → Type 0 = λ files. AreMadeOf sup volume (groups ++ group ∷ []) files in
    subst P (sym has.is) (made_push sup volume groups filed.files group _ made (record { id = refl; names = refl; within = has.within }))

-- ---- their ids rise

before_is : (volume a b : ℕ) → a < b → (nat_lt volume volume || (volume == volume && nat_lt a b)) ≡ true
before_is volume a b lower = grind (arith, nat_tests)

first_rises : (one two : Group) (groups : List Group) → IsStrictlySortedBy nat_cmp (map group_number (one ∷ two ∷ groups)) → one.number < two.number
unfolding IsStrictlySortedBy
first_rises one two groups rise =
    less_is one.number two.number (All-head (λ n. nat_cmp one.number n ≡ Less) two.number (map group_number groups) (All-from_recursion (λ n. nat_cmp one.number n ≡ Less) (map group_number (two ∷ groups)) rise.0))

rest_rises : (one : Group) (groups : List Group) → IsStrictlySortedBy nat_cmp (map group_number (one ∷ groups)) → IsStrictlySortedBy nat_cmp (map group_number groups)
unfolding IsStrictlySortedBy
rest_rises one groups rise = rise.1

ids_rise : (sup : Super) (volume : ℕ) (groups : List Group) (files : List FileEntry) → IsStrictlySortedBy nat_cmp (map group_number groups) → AreMadeOf sup volume groups files → HaveRisingIds files
ids_rise sup volume [] [] rise made = tt
ids_rise sup volume [] (file ∷ files) rise made = absurd made
ids_rise sup volume (group ∷ groups) [] rise made = absurd made
ids_rise sup volume (group ∷ []) (file ∷ []) rise made = (tt, tt)
ids_rise sup volume (group ∷ []) (file ∷ other ∷ files) rise made = absurd made.1
ids_rise sup volume (group ∷ next ∷ groups) (file ∷ []) rise made = absurd made.1
ids_rise sup volume (group ∷ next ∷ groups) (file ∷ other ∷ files) rise made = (
  (let P : FileId → Type 0 = λ id. IsTrue (stands_before id other.id) in
      let Q : FileId → Type 0 = λ id. IsTrue (stands_before (record { volume = volume; number = group.number }) id) in
      subst P (sym made.0.id) (subst Q (sym made.1.0.id) (before_is volume group.number next.number (first_rises group next groups rise)))),
  ids_rise sup volume (next ∷ groups) (other ∷ files) (rest_rises group (next ∷ groups) rise) made.1,
)

-- ---- where they are

all_in_volume : (sup : Super) (volume : ℕ) (groups : List Group) (files : List FileEntry) → AreMadeOf sup volume groups files → All (λ file. file.id.volume ≡ volume) files
all_in_volume sup volume [] [] made = All-nil (λ (file : FileEntry). file.id.volume ≡ volume)
all_in_volume sup volume [] (file ∷ files) made = absurd made
all_in_volume sup volume (group ∷ groups) [] made = absurd made
all_in_volume sup volume (group ∷ groups) (file ∷ files) made =
    All-cons (λ (file : FileEntry). file.id.volume ≡ volume) file files (ap (λ id. id.volume) made.0.id) (all_in_volume sup volume groups files made.1)

all_within : (sup : Super) (volume : ℕ) (groups : List Group) (files : List FileEntry) → AreMadeOf sup volume groups files → AreFilesWithin (sup.at + sup.len) files
all_within sup volume [] [] made = All-nil (λ (file : FileEntry). ArePartsWithin (sup.at + sup.len) file.parts)
all_within sup volume [] (file ∷ files) made = absurd made
all_within sup volume (group ∷ groups) [] made = absurd made
all_within sup volume (group ∷ groups) (file ∷ files) made =
    All-cons (λ (file : FileEntry). ArePartsWithin (sup.at + sup.len) file.parts) file files made.0.within (all_within sup volume groups files made.1)

-- ---- how many names they have

same_count : (sup : Super) (volume : ℕ) (groups : List Group) (files : List FileEntry) → AreMadeOf sup volume groups files → name_count files ≡ sum_by (λ group. length group.paths) groups
same_count sup volume [] [] made = refl
same_count sup volume [] (file ∷ files) made = absurd made
same_count sup volume (group ∷ groups) [] made = absurd made
same_count sup volume (group ∷ groups) (file ∷ files) made =
    let one : length file.names ≡ length group.paths = ap length made.0.names ∙ length_permutation group.paths (sorted_names group.paths) (sorted_names_law group.paths).1 in
    let rest = same_count sup volume groups files made.1 in
    let whole = sum_by-cons (λ (file : FileEntry). length file.names) file files in
    let other = sum_by-cons (λ (group : Group). length group.paths) group groups in
    omega (arith, one, rest, whole, other)

same_bytes : (sup : Super) (volume : ℕ) (groups : List Group) (files : List FileEntry) → AreMadeOf sup volume groups files → file_bytes files ≡ sum_by (λ group. sum_by length group.paths) groups
same_bytes sup volume [] [] made = refl
same_bytes sup volume [] (file ∷ files) made = absurd made
same_bytes sup volume (group ∷ groups) [] made = absurd made
same_bytes sup volume (group ∷ groups) (file ∷ files) made =
    let one : sum_by length file.names ≡ sum_by length group.paths = ap (sum_by length) made.0.names ∙ sum_by-IsPermutation length group.paths (sorted_names group.paths) (sorted_names_law group.paths).1 in
    let rest = same_bytes sup volume groups files made.1 in
    let whole = sum_by-cons (λ (file : FileEntry). sum_by length file.names) file files in
    let other = sum_by-cons (λ (group : Group). sum_by length group.paths) group groups in
    omega (arith, one, rest, whole, other)

both_few : (count bytes : ℕ) → count ≤ 1000000 → bytes ≤ 1073741824 → (nat_le count 1000000 && nat_le bytes 1073741824) ≡ true
both_few count bytes few short = grind (arith, nat_tests)

few_names : (count bytes : ℕ) (files : List FileEntry) → name_count files ≡ count → file_bytes files ≡ bytes → count ≤ most_names → bytes ≤ most_path_bytes → has_few_names files ≡ true
unfolding has_few_names
few_names count bytes files counted summed few short = both_few (name_count files) (file_bytes files) (omega (arith, counted, few)) (omega (arith, summed, short))

-- ---- all of it

pub made_files : (sup : Super) (volume : ℕ) (names : List Named) (groups : List Group) (files : List FileEntry) → AreGroupsOf names groups → length names ≤ most_names → path_bytes names ≤ most_path_bytes
    → AreMadeOf sup volume groups files → AreFilesOf sup volume files
made_files sup volume names groups files are few short made = record {
  rise = ids_rise sup volume groups files (groups_rise names groups are.numbers) made;
  in_volume = all_in_volume sup volume groups files made;
  within = all_within sup volume groups files made;
  few_names = few_names (length names) (path_bytes names) files (same_count sup volume groups files made ∙ are.count) (same_bytes sup volume groups files made ∙ are.bytes) few short;
}
