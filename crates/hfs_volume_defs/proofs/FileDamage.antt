-- What refuses a header or a tree file is a clause of it that is false at its place, and none is false of one that passes.
use Rattle.std.specs.Prelude.{◌≡◌, ℕ, Bool, true, false, Option, Some, None, Result, Ok, Err, List, refl}
use Rattle.std.proofs.Common.{ap, sym, ◌∙◌, subst, ⊎_elim}
use Rattle.std.proofs.lemmas.Bool.{true≢false}
use Rattle.image_defs.specs.Ask.{result_of, given, ◌>>=◌}
use Rattle.image_defs.proofs.Looks.{bind_gives, bind_refuses}
use Rattle.image_defs.specs.Results.{each_result}
use Rattle.image_defs.proofs.Results.{result_given}
use Rattle.piece_defs.specs.Places.{bytes_through}
use Rattle.hfs_defs.specs.Forks.{fork_fault, FoundFork, found_or, found_fork}
use Rattle.hfs_defs.specs.Damage.{IsDamage}
use Rattle.hfs_defs.specs.ForkDamage.{IsFalseInFork}
use Rattle.hfs_defs.specs.Leaves.{TreeFile, Leaf, LeafList, tree_file, leaves_of}
use Rattle.hfs_defs.specs.Chain.{IsChain, IsFalseInTree}
use Rattle.hfs_defs.specs.Overflow.{each_leaf}
use Rattle.hfs_defs.specs.TreeFiles.{fork_leaves}
use Rattle.hfs_defs.proofs.ForkDamage.{fork_damage_law}
use Rattle.hfs_defs.proofs.LeafLaws.{leaves_law}
use Rattle.hfs_defs.proofs.TreeFiles.{fork_leaves_found, fork_leaves_refused}
use Rattle.hfs_volume_defs.specs.Damage.{IsFalseInFile, OfFork, OfTree, OfRecord}
use Rattle.hfs_volume_defs.proofs.Footprint.{found_gives}
use Rattle.hfs_volume_defs.proofs.Results.{same_error, same_value, not_both, each_refuses, each_gives_item, stop_refuses, stop_gives}
use Rattle.fault_defs.specs.declared.Refusal.{Refusal}
use Rattle.fault_defs.specs.declared.Refusal.TheVariants.{Damaged}
use Rattle.fault_defs.specs.declared.Sort.{Sort}
use Rattle.hfs_defs.specs.declared.forks.Fork.{Fork}
use Rattle.hfs_defs.specs.declared.forks.OverflowRecord.{OverflowRecord}
use Rattle.hfs_defs.specs.declared.header.Header.{Header}

-- a damage of a part is one of the whole
pub damage_map : (P Q : Sort → ℕ → Type 0) (fault : Refusal) → ((sort : Sort) (place : ℕ) → P sort place → Q sort place) → IsDamage P fault → IsDamage Q fault
damage_map P Q (Damaged sort place) into is = into sort place is
damage_map P Q other into is = is

-- ---- forks

pub fork_refused : (header : Header) (records : List OverflowRecord) (fork : Fork) (place : ℕ) (fault : Refusal) → found_fork header records fork place ≡ Err fault → IsDamage (IsFalseInFork header records fork place) fault
unfolding found_fork
fork_refused header records fork place fault is = either (fork_fault header records fork place) refl is
  where
    either : (found : Option Refusal) → fork_fault header records fork place ≡ found → found_or header records fork found ≡ Err fault → IsDamage (IsFalseInFork header records fork place) fault
    either (Some e) there same = (fork_damage_law header records fork place).stops fault (there ∙ ap Some (same_error {X = FoundFork} e fault same))
    either None there same = absurd cc

-- ---- tree files

leaves_refused : (image : List ℕ) (header : Header) (records : List OverflowRecord) (fork : Fork) (place : ℕ) (fault : Refusal) → result_of image (fork_leaves header records fork place) ≡ Err fault → found_fork header records fork place ≡ Err fault
leaves_refused image header records fork place fault is = either (found_fork header records fork place) refl
  where
    either : (found : Result FoundFork Refusal) → found_fork header records fork place ≡ found → found ≡ Err fault
    either (Ok found) there = absurd (not_both _ fault (result_of image (fork_leaves header records fork place)) (fork_leaves_found image header records fork place found there) is)
    either (Err e) there = ap Err (same_error {X = LeafList} e fault (sym (fork_leaves_refused image header records fork place e there) ∙ is))

-- the leaf records that were read of a fork
pub record AreLeaves (image : List ℕ) (header : Header) (records : List OverflowRecord) (fork : Fork) (place : ℕ) (leaves : LeafList) : Type 0 where
  pub found : FoundFork
  pub is : found_fork header records fork place ≡ Ok found
  pub same : leaves ≡ leaves_of (tree_file (bytes_through image found.pieces) found.pieces place)

leaves_given : (image : List ℕ) (header : Header) (records : List OverflowRecord) (fork : Fork) (place : ℕ) (leaves : LeafList) → result_of image (fork_leaves header records fork place) ≡ Ok leaves → AreLeaves image header records fork place leaves
leaves_given image header records fork place leaves is = either (found_fork header records fork place) refl
  where
    either : (found : Result FoundFork Refusal) → found_fork header records fork place ≡ found → AreLeaves image header records fork place leaves
    either (Ok found) there = record { found = found; is = there; same = same_value leaves _ (sym is ∙ fork_leaves_found image header records fork place found there) }
    either (Err e) there = absurd (not_both leaves e (result_of image (fork_leaves header records fork place)) is (fork_leaves_refused image header records fork place e there))

-- a value of leaf records refuses those that don't pass a test, and no others
pub record Tests {X : Type 0} (value : Leaf → Result X Refusal) (is_record : List ℕ → Bool) (bad : Sort) : Type 0 where
  pub stops : (leaf : Leaf) (fault : Refusal) → value leaf ≡ Err fault → (is_record leaf.bytes ≡ false) × (Damaged bad leaf.at ≡ fault)
  pub passes : (leaf : Leaf) (x : X) → value leaf ≡ Ok x → is_record leaf.bytes ≡ true

module _ {X : Type 0} (value : Leaf → Result X Refusal) (is_record : List ℕ → Bool) (bad : Sort) (tests : Tests value is_record bad)
    (image : List ℕ) (header : Header) (records : List OverflowRecord) (fork : Fork) (place : ℕ) where
  abbrev IsFalse : Sort → ℕ → Type 0
  IsFalse = IsFalseInFile image header records fork place is_record bad

  leaf_refused : (leaves : LeafList) (fault : Refusal) → result_of image (fork_leaves header records fork place) ≡ Ok leaves → each_leaf value leaves ≡ Err fault → IsDamage IsFalse fault
  leaf_refused leaves fault are is =
      ⊎_elim
      (λ refused.
      let found = each_refuses value leaves.records fault refused in
      let told = tests.stops found.item fault found.is in
      subst (IsDamage IsFalse) told.1 (OfRecord bad leaves found.front found.item found.behind refl are found.whole told.0))
      (λ stopped.
      let of = leaves_given image header records fork place leaves are in
      let file : TreeFile = tree_file (bytes_through image of.found.pieces) of.found.pieces place in
      damage_map (IsFalseInTree file) IsFalse fault (λ sort at false'. OfTree of.found sort at of.is false') ((leaves_law file).stops fault (ap (λ list. list.stop) (sym of.same) ∙ stopped)))
      (stop_refuses leaves.stop (each_result value leaves.records) fault is)

  pub file_refused : (fault : Refusal) → result_of image (fork_leaves header records fork place >>= (λ leaves. given (each_leaf value leaves))) ≡ Err fault → IsDamage IsFalse fault
  file_refused fault is =
      ⊎_elim
      (λ first. damage_map (IsFalseInFork header records fork place) IsFalse fault (λ sort at false'. OfFork sort at false') (fork_refused header records fork place fault (leaves_refused image header records fork place fault first)))
      (λ later. leaf_refused later.0 fault later.1 (sym (result_given image (each_leaf value later.0)) ∙ later.2))
      (bind_refuses image (fork_leaves header records fork place) (λ leaves. given (each_leaf value leaves)) fault is)

  pub file_passes : (xs : List X) (sort : Sort) (at : ℕ) → result_of image (fork_leaves header records fork place >>= (λ leaves. given (each_leaf value leaves))) ≡ Ok xs → IsFalse sort at → ⊥
  file_passes xs sort at is false' =
      let read = bind_gives image (fork_leaves header records fork place) (λ leaves. given (each_leaf value leaves)) xs is in
      let leaves : LeafList = read.0 in
      let of = leaves_given image header records fork place leaves read.1 in
      let all = stop_gives leaves.stop (each_result value leaves.records) xs (sym (result_given image (each_leaf value leaves)) ∙ read.2) in
      none leaves of all.0 all.1 read.1 false'
    where
      none : (leaves : LeafList) (of : AreLeaves image header records fork place leaves) → each_result value leaves.records ≡ Ok xs → leaves.stop ≡ None
          → result_of image (fork_leaves header records fork place) ≡ Ok leaves → IsFalse sort at → ⊥
      none leaves of all stop are (OfFork sort at wrong) = (fork_damage_law header records fork place).passes_all sort at (found_gives header records fork place of.found of.is).0 wrong
      none leaves of all stop are (OfTree found sort at there wrong) =
          let file : FoundFork → TreeFile = λ f. tree_file (bytes_through image f.pieces) f.pieces place in
          let P : FoundFork → Type 0 = λ f. IsFalseInTree (file f) sort at in
          let chain : IsChain (file of.found) (leaves_of (file of.found)).records = (leaves_law (file of.found)).are_chain (ap (λ list. list.stop) (sym of.same) ∙ stop) in
          (leaves_law (file of.found)).ends (leaves_of (file of.found)).records sort at chain (subst P (same_value found of.found (sym there ∙ of.is)) wrong)
      none leaves of all stop are (OfRecord kind others front leaf behind same_sort these whole wrong) =
          let same : others.records ≡ leaves.records = ap (λ list. list.records) (same_value others leaves (sym these ∙ are)) in
          let P : List Leaf → Type 0 = λ list. each_result value list ≡ Ok xs in
          let passed = each_gives_item value front leaf behind xs (subst P (sym same ∙ whole) all) in
          absurd (true≢false (sym (tests.passes leaf passed.0 passed.1) ∙ wrong))
