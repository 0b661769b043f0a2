-- The names that the blocks of a directory give, in the order of a read: the places of all, and then block by block its names.
use Rattle.std.specs.Prelude.{◌≡◌, ℕ, ◌+◌, ◌<◌, ◌≤◌, IsErr, IsErrAnd, Option, Result, Ok, Err, List, ◌∷◌, refl}
use Rattle.std.proofs.Common.{ap, sym, ◌∙◌}
use Rattle.range_defs.specs.declared.Range.{Range}
use Rattle.rx_ranges.specs.declared.pieces.Piece.{Piece}
use Rattle.image_defs.specs.Ask.{Ask, given, ◌>>=◌}
use Rattle.image_defs.specs.Results.{in_front_of}
use Rattle.image_defs.specs.Through.{through}
use Rattle.image_reads.specs.Steps.{ReadsAs}
use Rattle.image_reads.proofs.Coming.{IsCome}
use Rattle.image_reads.proofs.Steps.{begins, comes_to, comes_value, comes_fault, comes_done, ends_with}
use Rattle.fault_defs.specs.declared.Refusal.{Refusal}
use Rattle.rx_store.specs.Answers.{Answers}
use Rattle.rx_store.specs.declared.read_fault.ReadFault.{ReadFault}
use Rattle.ufs_inode_defs.specs.Stream.{block_count}
use Rattle.ufs_inode_defs.specs.declared.superblock.Super.{Super}
use Rattle.ufs_volume_defs.specs.Names.{Named, Walk, Block, directory_blocks, block_names}
use Rattle.ufs_names.specs.Walked.{blocks_names}
use Rattle.ufs_names.proofs.BlockLaws.{given_reads}
use Rattle.ufs_names.proofs.PlaceLaws.{block_at, blocks_from, tested, tested_front, blocks_all, blocks_next, blocks_end}

-- ---- programs

-- a value may be tested before it is used
test_first : {X Y : Type 0} (found : Result X Refusal) (next : X → Ask Refusal Y) → (given found >>= next) ≡ (given (tested found) >>= (λ done. given found >>= next))
test_first (Ok x) next = refl
test_first (Err e) next = refl

-- values are given one after the other
front_first : {X Y : Type 0} (first : Result X Refusal) (rest : Result (List X) Refusal) (next : List X → Ask Refusal Y)
    → (given (in_front_of first rest) >>= next) ≡ (given first >>= (λ x. given rest >>= (λ xs. next (x ∷ xs))))
front_first (Ok x) (Ok xs) next = refl
front_first (Ok x) (Err e) next = refl
front_first (Err e) rest next = refl

-- where the others have places, the first block's names may come before them
names_first : (step : Walk → Block → Ask Refusal Walk) (first : Ask Refusal Walk) (rest : Result (List Block) Refusal) → tested rest ≡ Ok tt
    → (given rest >>= (λ blocks. first >>= (λ after. through step after blocks))) ≡ (first >>= (λ after. given rest >>= through step after))
names_first step first (Ok blocks) placed = refl
names_first step first (Err e) placed = absurd cc

-- ---- the walk

module _ (told : Option (List ℕ)) (sup : Super) (directory : Named) (pieces : List Piece) (start : Walk) (before : List Range) where
  abbrev whole : Ask Refusal Walk
  whole = blocks_names sup directory start pieces

  abbrev step : Walk → Block → Ask Refusal Walk
  step = block_names sup directory

  abbrev blocks_on : ℕ → Result (List Block) Refusal
  blocks_on index = blocks_from sup directory.inode pieces index

  -- the names of the blocks from a number on
  abbrev names_on : ℕ → Walk → Ask Refusal Walk
  names_on index walk = given (blocks_on index) >>= through step walk

  -- the names of the blocks so far were found, and each of the blocks from a number on has a place
  pub record AreLeft (index : ℕ) (walk : Walk) (looked : List Range) : Type 0 where
    pub placed : tested (blocks_on index) ≡ Ok tt
    pub come : IsCome told whole before (names_on index walk) looked

  pub all_left : tested (directory_blocks sup directory.inode pieces) ≡ Ok tt → AreLeft 0 start before
  all_left placed = record {
    placed = ap tested (sym (blocks_all sup directory.inode pieces)) ∙ placed;
    come = comes_to told whole before whole (names_on 0 start) before (ap (λ blocks. given blocks >>= through step start) (blocks_all sup directory.inode pieces)) (begins told whole before);
  }

  -- a block is a hole
  pub test_stops : (looked : List Range) (result : Result Walk ReadFault) (fault : ReadFault) → IsErr result → IsErrAnd result (λ other. other ≡ fault)
      → (let failed : Result (Unit {0}) ReadFault = Err fault in Answers failed (tested (directory_blocks sup directory.inode pieces))) → ReadsAs told whole before looked result
  test_stops looked result fault is passed says =
      let blocks = directory_blocks sup directory.inode pieces in
      ends_with told whole before looked result fault is passed
      (comes_fault told whole before told (given (tested blocks)) (λ done. whole) before refl
      (comes_to told whole before whole (given (tested blocks) >>= (λ done. whole)) before (test_first blocks (through step start)) (begins told whole before))
      fault before looked (given_reads told before (tested blocks) (Err fault) says))

  module _ (index : ℕ) (walk : Walk) (looked : List Range) (left : AreLeft index walk looked) where
    -- no block is left
    pub none_left : block_count sup directory.inode.size ≤ index → ReadsAs told whole before looked (Ok walk)
    none_left past =
        comes_done told whole before walk looked
        (comes_to told whole before (names_on index walk) _ looked (ap (λ blocks. given blocks >>= through step walk) (blocks_end sup directory.inode pieces index past)) left.come)

    module _ (inside : index < block_count sup directory.inode.size) where
      -- the next block
      abbrev next : Result Block Refusal
      next = block_at sup directory.inode pieces index

      -- its names, and behind them those of the others
      abbrev names_with : Block → Ask Refusal Walk
      names_with block = given (blocks_on (index + 1)) >>= (λ blocks. through step walk (block ∷ blocks))

      comes_block : IsCome told whole before (given next >>= names_with) looked
      comes_block =
          comes_to told whole before (names_on index walk) (given next >>= names_with) looked
          (ap (λ blocks. given blocks >>= through step walk) (blocks_next sup directory.inode pieces index inside) ∙ front_first next (blocks_on (index + 1)) (through step walk)) left.come

      -- it is a hole
      pub block_fails : (last : List Range) (result : Result Walk ReadFault) (fault : ReadFault) → IsErr result → IsErrAnd result (λ other. other ≡ fault)
          → (let failed : Result Block ReadFault = Err fault in Answers failed next) → ReadsAs told whole before last result
      block_fails last result fault is passed says =
          ends_with told whole before last result fault is passed
          (comes_fault told whole before told (given next) names_with looked refl comes_block fault looked last (given_reads told looked next (Err fault) says))

      module _ (block : Block) (is : next ≡ Ok block) where
        -- the others have places
        rest_placed : tested (blocks_on (index + 1)) ≡ Ok tt
        rest_placed =
            sym (tested_front block (blocks_on (index + 1)))
            ∙ ap (λ first. tested (in_front_of first (blocks_on (index + 1)))) (sym is)
            ∙ ap tested (sym (blocks_next sup directory.inode pieces index inside))
            ∙ left.placed

        comes_names : IsCome told whole before (step walk block >>= (λ after. names_on (index + 1) after)) looked
        comes_names =
            comes_to told whole before (names_with block) _ looked (names_first step (step walk block) (blocks_on (index + 1)) rest_placed)
            (comes_value told whole before told (given next) names_with looked refl comes_block block looked (given_reads told looked next (Ok block) is))

        module _ (later : Option (List ℕ)) (last : List Range) (same : later ≡ told) where
          -- its names aren't found
          pub names_fail : (result : Result Walk ReadFault) (fault : ReadFault) → IsErr result → IsErrAnd result (λ other. other ≡ fault)
              → ReadsAs later (block_names sup directory walk block) looked last (Err fault) → ReadsAs told whole before last result
          names_fail result fault is passed read =
              ends_with told whole before last result fault is passed (comes_fault told whole before later (step walk block) (λ after. names_on (index + 1) after) looked same comes_names fault last last read)

          -- they were found
          pub next_left : (after : Walk) → ReadsAs later (block_names sup directory walk block) looked last (Ok after) → AreLeft (index + 1) after last
          next_left after read = record {
            placed = rest_placed;
            come = comes_value told whole before later (step walk block) (λ after. names_on (index + 1) after) looked same comes_names after last read;
          }
