-- The loop over the groups goes through the program of the files.
use Rattle.std.specs.Prelude.{◌≡◌, ℕ, ◌<◌, ◌≤◌, Bool, true, false, Option, Some, None, IfSome, zero, suc, ◌==◌, OnOk, Result, Ok, Err, List, [], ◌∷◌, ◌++◌, map, length, drop, get_or, refl}
use Rattle.std.specs.List.{All}
use Rattle.std.specs.Result.{IsErr, IsErrAnd}
use Rattle.std.proofs.Common.{ap, sym, ◌∙◌, subst, arith, length-append}
use Rattle.std.proofs.lemmas.List.{length-map}
use Rattle.std.proofs.lemmas.List.Elements.{All-contains, All-map, All-filter, All-weaker}
use Rattle.range_defs.specs.declared.Range.{Range}
use Rattle.bytes_defs.specs.Bytes.{part}
use Rattle.image_defs.specs.Ask.{Ask, Done, result_of, visits, check, ◌>>=◌, ◌>>◌}
use Rattle.image_reads.specs.Steps.{ReadsAs, SameBytes}
use Rattle.image_reads.proofs.Coming.{IsCome}
use Rattle.image_defs.specs.Through.{through}
use Rattle.image_defs.proofs.Results.{result_bind_ok, visits_bind_ok, visits_bind_quiet, visits_check}
use Rattle.image_reads.proofs.Steps.{begins, comes_done, through_value, through_fault, through_ends, ends_with}
use Rattle.rx_store.specs.Answers.{Answers}
use Rattle.rx_store.specs.declared.read_fault.ReadFault.{ReadFault}
use Rattle.fault_defs.specs.declared.Refusal.{Refusal}
use Rattle.fault_defs.specs.declared.Refusal.TheVariants.{Damaged, Unsupported}
use Rattle.fault_defs.specs.declared.Sort.TheVariants.{DeadInode, FileSize}
use Rattle.fault_defs.specs.declared.What.TheVariants.{Snapshot}
use Rattle.rx_ranges.specs.Path.{IsPath}
use Rattle.ufs_inode_defs.specs.Layout.{layout_of}
use Rattle.ufs_inode_defs.specs.Superblock.{inode_place}
use Rattle.ufs_inode_defs.specs.Inode.{inode_of, sound_inode, inode_at, size_place, ext_size_place, flags_place}
use Rattle.ufs_inode_defs.specs.declared.superblock.Super.{Super}
use Rattle.ufs_inode_defs.specs.declared.inode.Inode.{Inode}
use Rattle.ufs_volume_defs.specs.Names.{Named}
use Rattle.ufs_volume_defs.specs.Files.{Filed, inode_parts, file_of, number_file, numbers_of, paths_of, named_files}
use Rattle.ufs_names.specs.Walked.{IsInodeOf, IsNamed}
use Rattle.ufs_files.specs.Groups.{Group, IsGroupOf, AreGroupsOf}
use Rattle.ufs_files.specs.Filed.{group_file, IsGoodGroup}
use Rattle.ufs_files.proofs.GroupLaws.{group_number}

-- each name of a list was given the inode that its number has in an image
abbrev pub AreStored : Super → List Named → List ℕ → Type 0
AreStored sup names image = All (λ name. result_of image (inode_at sup name.number) ≡ Ok name.inode) names

-- ---- a group of names whose inodes are good

pub good_group : (sup : Super) (names : List Named) (group : Group) → All (IsNamed sup) names → IsGroupOf names group → IsGoodGroup sup group
good_group sup names group named of =
    let found = of.inode in
    let is = All-contains (IsNamed sup) names found.name named found.among in
    let P : List (List ℕ) → Type 0 = λ paths. All IsPath paths in
    let N : ℕ → Type 0 = λ n. IsInodeOf sup n found.name.inode in
    let I : Inode → Type 0 = λ inode. IsInodeOf sup group.number inode in
    record {
      paths =
          subst P (sym of.paths)
          (All-map IsPath (λ (name : Named). name.path) _
          (All-filter (λ (name : Named). name.number == group.number) (λ (name : Named). IsPath name.path) names (All-weaker (IsNamed sup) (λ (name : Named). IsPath name.path) (λ name good. good.path) names named)));
      inode = subst I found.inode_is (subst N found.number_is is.inode);
    }

stored_group : (sup : Super) (names : List Named) (group : Group) (image : List ℕ) → AreStored sup names image → IsGroupOf names group → result_of image (inode_at sup group.number) ≡ Ok group.inode
stored_group sup names group image stored of =
    let found = of.inode in
    let is = All-contains (λ (name : Named). result_of image (inode_at sup name.number) ≡ Ok name.inode) names found.name stored found.among in
    ap (λ n. result_of image (inode_at sup n)) (sym found.number_is) ∙ is ∙ ap Ok found.inode_is

-- ---- the program of a group is that of its number

four_look_nowhere : (image : List ℕ) (a b c d : Bool) (e f g h : Refusal) → visits image (check a e >> (check b f >> (check c g >> check d h))) ≡ []
four_look_nowhere image false b c d e f g h = refl
four_look_nowhere image true false c d e f g h = refl
four_look_nowhere image true true false d e f g h = refl
four_look_nowhere image true true true d e f g h = visits_check image d h

tests_look_nowhere : (image : List ℕ) (sup : Super) (inode : Inode) → visits image (sound_inode sup inode) ≡ []
unfolding sound_inode
tests_look_nowhere image sup inode = four_look_nowhere image _ _ _ _ (Damaged DeadInode inode.at) (Unsupported Snapshot (flags_place sup inode)) (Damaged FileSize (size_place sup inode)) (Damaged FileSize (ext_size_place inode))

inode_looks : (image : List ℕ) (sup : Super) (number : ℕ) → visits image (inode_at sup number) ≡ record { at = inode_place sup number; len = (layout_of sup.version).inode_len } ∷ []
unfolding inode_at
inode_looks image sup number =
    let inode : Inode = inode_of sup (inode_place sup number) (part image (inode_place sup number) (layout_of sup.version).inode_len) in
    ap (λ ranges. record { at = inode_place sup number; len = (layout_of sup.version).inode_len } ∷ ranges)
    (visits_bind_quiet image (sound_inode sup inode) (λ x. Done inode) (λ _. refl) ∙ tests_look_nowhere image sup inode)

module _ (image : List ℕ) (sup : Super) (volume : ℕ) (names : List Named) (filed : Filed) (group : Group) (of : IsGroupOf names group) (read : result_of image (inode_at sup group.number) ≡ Ok group.inode) where
  -- the parts are left, and then the file with some paths
  abbrev left : List (List ℕ) → Inode → Ask Refusal Filed
  left paths inode =
      inode_parts sup filed.runs inode
      >>= (λ parted. Done (record { files = filed.files ++ file_of sup volume group.number inode paths parted.parts ∷ []; runs = parted.runs }))

  same_result : result_of image (number_file sup volume names filed group.number) ≡ result_of image (group_file sup volume filed group)
  unfolding number_file group_file
  same_result = result_bind_ok image (inode_at sup group.number) (left (paths_of names group.number)) group.inode read ∙ ap (λ paths. result_of image (left paths group.inode)) (sym of.paths)

  same_looks : visits image (number_file sup volume names filed group.number) ≡ visits image (group_file sup volume filed group)
  unfolding number_file group_file
  same_looks =
      visits_bind_ok image (inode_at sup group.number) (left (paths_of names group.number)) group.inode read
      ∙ ap (λ ranges. ranges ++ visits image (left (paths_of names group.number) group.inode)) (inode_looks image sup group.number)
      ∙ ap (λ paths. record { at = inode_place sup group.number; len = (layout_of sup.version).inode_len } ∷ visits image (left paths group.inode)) (sym of.paths)

as_number : (told : Option (List ℕ)) (sup : Super) (volume : ℕ) (names : List Named) (filed : Filed) (group : Group) (now looked : List Range) (result : Result Filed ReadFault) → IfSome told (AreStored sup names) → IsGroupOf names group
    → ReadsAs told (group_file sup volume filed group) now looked result → ReadsAs told (number_file sup volume names filed group.number) now looked result
as_number None sup volume names filed group now looked result stored of read = tt
as_number (Some image) sup volume names filed group now looked result stored of read =
    let known = stored_group sup names group image stored of in
    record {
      given = let P : Result Filed Refusal → Type 0 = λ gives. Answers result gives in subst P (sym (same_result image sup volume names filed group of known)) read.given;
      looks = let P : List Range → Type 0 = λ ranges. OnOk result (SameBytes looked (now ++ ranges)) in subst P (sym (same_looks image sup volume names filed group of known)) read.looks;
    }

-- ---- the loop

map_at : (groups : List Group) (i : ℕ) (d : Group) (n : ℕ) → i < length groups → get_or (map group_number groups) i n ≡ (get_or groups i d).number
map_at [] i d n inside = absurd (omega (arith, inside))
map_at (group ∷ groups) zero d n inside = refl
map_at (group ∷ groups) (suc i) d n inside = map_at groups i d n (omega (arith, inside))

pub pass_begins : (told : Option (List ℕ)) (sup : Super) (volume : ℕ) (names : List Named) (filed : Filed) (before : List Range) → filed ≡ record { files = []; runs = 0 }
    → IsCome told (named_files sup volume names) before (through (number_file sup volume names) filed (drop 0 (numbers_of names))) before
unfolding named_files
pass_begins told sup volume names filed before none =
    let P : Filed → Type 0 = λ f. IsCome told (named_files sup volume names) before (through (number_file sup volume names) f (numbers_of names)) before in
    subst P (sym none) (begins told (named_files sup volume names) before)

-- the next group is one of the names
pub of_group : (names : List Named) (groups yielded : List Group) (group : Group) → AreGroupsOf names groups → (length yielded < length groups) × (group ≡ get_or groups (length yielded) group) → IsGroupOf names group
of_group names groups yielded group are here = subst (IsGroupOf names) (sym here.1) (are.each (length yielded) group here.0)

module _ (told later : Option (List ℕ)) (sup : Super) (volume : ℕ) (names : List Named) (groups yielded : List Group) (filed : Filed) (group : Group) (before now : List Range)
    (same : later ≡ told) (stored : IfSome told (AreStored sup names)) (are : AreGroupsOf names groups) (here : (length yielded < length groups) × (group ≡ get_or groups (length yielded) group))
    (come : IsCome told (named_files sup volume names) before (through (number_file sup volume names) filed (drop (length yielded) (numbers_of names))) now) where
  of_names : IsGroupOf names group
  of_names = of_group names groups yielded group are here

  number_here : get_or (numbers_of names) (length yielded) 0 ≡ group.number
  number_here = ap (λ numbers. get_or numbers (length yielded) 0) (sym are.numbers) ∙ map_at groups (length yielded) group 0 here.0 ∙ ap group_number (sym here.1)

  inside : length yielded < length (numbers_of names)
  inside = let long = sym (length-map groups group_number) ∙ ap length are.numbers in omega (arith, here.0, long)

  read_here : (looked : List Range) (result : Result Filed ReadFault) → ReadsAs later (group_file sup volume filed group) now looked result
      → ReadsAs told (number_file sup volume names filed (get_or (numbers_of names) (length yielded) 0)) now looked result
  read_here looked result read =
      let P : Option (List ℕ) → Type 0 = λ found. ReadsAs found (group_file sup volume filed group) now looked result in
      let Q : ℕ → Type 0 = λ n. ReadsAs told (number_file sup volume names filed n) now looked result in
      subst Q (sym number_here) (as_number told sup volume names filed group now looked result stored of_names (subst P same read))

  pub pass_goes_on : (after : Filed) (looked : List Range) → ReadsAs later (group_file sup volume filed group) now looked (Ok after)
      → IsCome told (named_files sup volume names) before (through (number_file sup volume names) after (drop (length (yielded ++ group ∷ [])) (numbers_of names))) looked
  pass_goes_on after looked read =
      let P : ℕ → Type 0 = λ n. IsCome told (named_files sup volume names) before (through (number_file sup volume names) after (drop n (numbers_of names))) looked in
      subst P (sym (length-append yielded (group ∷ [])))
      (through_value told (named_files sup volume names) before (number_file sup volume names) (numbers_of names) (length yielded) 0 filed now come told after looked inside refl (read_here looked (Ok after) read))

  pub pass_stops : (fault : ReadFault) (looked last : List Range) (result : Result Filed ReadFault) → IsErr result → IsErrAnd result (λ other. other ≡ fault) → ReadsAs later (group_file sup volume filed group) now looked (Err fault)
      → ReadsAs told (named_files sup volume names) before last result
  pass_stops fault looked last result is passed read =
      ends_with told (named_files sup volume names) before last result fault is passed
      (through_fault told (named_files sup volume names) before (number_file sup volume names) (numbers_of names) (length yielded) 0 filed now come told fault looked last inside refl (read_here looked (Err fault) read))

pub pass_ends : (told : Option (List ℕ)) (sup : Super) (volume : ℕ) (names : List Named) (groups yielded : List Group) (filed : Filed) (before looked : List Range) → AreGroupsOf names groups → length yielded ≡ length groups
    → IsCome told (named_files sup volume names) before (through (number_file sup volume names) filed (drop (length yielded) (numbers_of names))) looked
    → ReadsAs told (named_files sup volume names) before looked (Ok filed)
pass_ends told sup volume names groups yielded filed before looked are all come =
    let long : length (numbers_of names) ≤ length yielded = let same = sym (length-map groups group_number) ∙ ap length are.numbers in omega (arith, same, all) in
    comes_done told (named_files sup volume names) before filed looked
    (through_ends told (named_files sup volume names) before (number_file sup volume names) (numbers_of names) (length yielded) 0 filed looked come long)
