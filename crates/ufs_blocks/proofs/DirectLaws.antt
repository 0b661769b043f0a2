-- What a pointer to a block maps, at each exit of the reader.
use Rattle.std.specs.Prelude.{◌≡◌, ℕ, ◌+◌, ◌<◌, ◌≤◌, true, false, nat_le, IfOk, IsErr, IsErrAnd, Option, Some, None, Result, Ok, Err, refl}
use Rattle.std.proofs.Common.{arith, ap, sym, ◌∙◌, subst}
use Rattle.std.proofs.lemmas.Bool.{lt-leb, le-leb}
use Rattle.image_defs.specs.Ask.{Ask, Done}
use Rattle.rx_store.specs.Answers.{Answers}
use Rattle.rx_store.specs.declared.read_fault.ReadFault.{ReadFault}
use Rattle.rx_store.specs.declared.read_fault.ReadFault.TheVariants.{Device, NoMemory, NotThis, Damaged, Unsupported, Limit}
use Rattle.fault_defs.specs.declared.Refusal.{Refusal}
use Rattle.fault_defs.specs.declared.Refusal.TheVariants as refusal
use Rattle.ufs_inode_defs.specs.Superblock.{wrong_field}
use Rattle.ufs_inode_defs.specs.Stream.{Pointer, block_count, allocated_len}
use Rattle.ufs_inode_defs.specs.Blocks.{Laid, runs_of, most_runs, with_hole, with_block, counted_runs, mapped_blocks, led}
use Rattle.ufs_inode_defs.specs.declared.superblock.Super.{Super}
use Rattle.ufs_blocks.specs.UnderWay.{IsUnderWay, Settles, led_to}
use Rattle.ufs_blocks.proofs.WayLaws.{hole_way, block_way, settles_as, is_led}

-- a fault that is handed on
pub fault_settles : {X : Type 0} (result : Result X ReadFault) (fault : ReadFault) (program : Ask Refusal X) → IsErr result → IsErrAnd result (λ other. other ≡ fault)
    → (let stops : Result X ReadFault = Err fault in Settles stops program) → Settles result program
fault_settles (Ok x) fault program is passed settles = absurd cc
fault_settles {X = X} (Err other) fault program is passed settles = let P : ReadFault → Type 0 = λ f. (let stops : Result X ReadFault = Err f in Settles stops program) in subst P (sym passed) settles

-- a refusal of a pointer
pub led_faults : (sup : Super) (pointer : Pointer) (len : ℕ) (hole : Ask Refusal Laid) (there : ℕ → Ask Refusal Laid) (fault : ReadFault)
    → (let found : Result (Option ℕ) ReadFault = Err fault in Answers found (led_to sup pointer len)) → (let stops : Result Laid ReadFault = Err fault in Settles stops (led sup pointer len hole there))
led_faults sup pointer len hole there Device answers = tt
led_faults sup pointer len hole there NoMemory answers = tt
led_faults sup pointer len hole there NotThis answers = (is_led sup pointer len hole there pointer.at pointer.value).2 refusal.NotThis answers
led_faults sup pointer len hole there (Damaged sort place) answers = (is_led sup pointer len hole there pointer.at pointer.value).2 (refusal.Damaged sort place) answers
led_faults sup pointer len hole there (Unsupported what place) answers = (is_led sup pointer len hole there pointer.at pointer.value).2 (refusal.Unsupported what place) answers
led_faults sup pointer len hole there (Limit bound number) answers = (is_led sup pointer len hole there pointer.at pointer.value).2 (refusal.Limit bound number) answers

module _ (sup : Super) (size : ℕ) (laid : Laid) (pointer : Pointer) (count : ℕ) (is : count ≡ block_count sup size) where
  pub direct_past : count ≤ laid.block → mapped_blocks 0 sup size laid pointer ≡ Done laid
  unfolding mapped_blocks
  direct_past past = let all : nat_le (block_count sup size) laid.block ≡ true = le-leb (block_count sup size) laid.block (omega (arith, is, past)) in rw all refl

  module _ (on : laid.block < count) (len : ℕ) (same : len ≡ allocated_len sup size laid.block) where
    direct_on : mapped_blocks 0 sup size laid pointer ≡ led sup pointer len (counted_runs (with_hole sup size 1 laid)) (λ place. counted_runs (with_block sup size place laid))
    unfolding mapped_blocks
    direct_on =
        let some : nat_le (block_count sup size) laid.block ≡ false = lt-leb (block_count sup size) laid.block (omega (arith, is, on)) in
        rw (some, same) refl

    pub direct_fault : (result : Result Laid ReadFault) (fault : ReadFault) → IsErr result → IsErrAnd result (λ other. other ≡ fault)
        → (let found : Result (Option ℕ) ReadFault = Err fault in Answers found (led_to sup pointer len)) → Settles result (mapped_blocks 0 sup size laid pointer)
    direct_fault result fault fails passed answers =
        settles_as result _ _ direct_on
        (fault_settles result fault _ fails passed (led_faults sup pointer len (counted_runs (with_hole sup size 1 laid)) (λ place. counted_runs (with_block sup size place laid)) fault answers))

    pub direct_hole : (result : Result Laid ReadFault) (found : Option ℕ) (after : Laid) → found ≡ None → led_to sup pointer len ≡ Ok found → after ≡ with_hole sup size 1 laid → Settles result (counted_runs after)
        → Settles result (mapped_blocks 0 sup size laid pointer)
    direct_hole result found after none leads is_after settles =
        settles_as result _ _
        (direct_on ∙ (is_led sup pointer len (counted_runs (with_hole sup size 1 laid)) (λ place. counted_runs (with_block sup size place laid)) pointer.at pointer.value).0 (leads ∙ ap Ok none) ∙ ap counted_runs (sym is_after))
        settles

    pub direct_there : (result : Result Laid ReadFault) (found : Option ℕ) (place : ℕ) (after : Laid) → found ≡ Some place → led_to sup pointer len ≡ Ok found → after ≡ with_block sup size place laid
        → Settles result (counted_runs after) → Settles result (mapped_blocks 0 sup size laid pointer)
    direct_there result found place after some leads is_after settles =
        settles_as result _ _
        (direct_on ∙ (is_led sup pointer len (counted_runs (with_hole sup size 1 laid)) (λ place. counted_runs (with_block sup size place laid)) pointer.at pointer.value).1 place (leads ∙ ap Ok some) ∙ ap counted_runs (sym is_after))
        settles

-- ---- what was found is under way again

module _ (sup : Super) (size : ℕ) (laid : Laid) (sound : wrong_field sup ≡ None) (way : IsUnderWay sup size laid) (count : ℕ) (is : count ≡ block_count sup size) (on : laid.block < count) (result : Result Laid ReadFault) (after : Laid)
    (kept : IfOk result (λ found. found ≡ after)) (few : IfOk result (λ found. runs_of found ≤ most_runs)) where
  way_as : (next : Laid) → after ≡ next → (runs_of next ≤ most_runs → IsUnderWay sup size next) → IfOk result (IsUnderWay sup size)
  way_as next same goes = by_result result kept few
    where
      by_result : (answer : Result Laid ReadFault) → IfOk answer (λ found. found ≡ after) → IfOk answer (λ found. runs_of found ≤ most_runs) → IfOk answer (IsUnderWay sup size)
      by_result (Err fault) kept few = tt
      by_result (Ok found) kept few =
          let whole : found ≡ next = kept ∙ same in
          let runs : runs_of found ≡ runs_of next = ap (λ one. runs_of one) whole in
          subst (IsUnderWay sup size) (sym whole) (goes (omega (arith, runs, few)))

  pub hole_way_after : (blocks : ℕ) → 0 < blocks → after ≡ with_hole sup size blocks laid → IfOk result (IsUnderWay sup size)
  hole_way_after blocks some same = way_as (with_hole sup size blocks laid) same (λ runs. hole_way sup size laid sound way (omega (arith, is, on)) blocks some runs)

  pub block_way_after : (at : ℕ) → at + allocated_len sup size laid.block ≤ sup.at + sup.len → after ≡ with_block sup size at laid → IfOk result (IsUnderWay sup size)
  block_way_after at stands same = way_as (with_block sup size at laid) same (λ runs. block_way sup size laid sound way (omega (arith, is, on)) at stands runs)
