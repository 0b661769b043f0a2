-- The blocks of a directory, one after the other, and the pieces that are passed.
use Rattle.std.specs.Prelude.{◌≡◌, ℕ, suc, ◌+◌, ◌-◌, ◌*◌, ◌<◌, ◌≤◌, Result, Ok, Err, IsErr, IsErrAnd, List, [], ◌∷◌, refl}
use Rattle.std.proofs.Common.{arith, ap, sym, subst, ◌∙◌}
use Rattle.image_defs.specs.Results.{with_value, in_front_of, each_result}
use Rattle.rx_ranges.specs.declared.pieces.Piece.{Piece}
use Rattle.piece_defs.specs.Places.{place_through}
use Rattle.fault_defs.specs.declared.Refusal.{Refusal}
use Rattle.rx_store.specs.Answers.{Answers}
use Rattle.rx_store.specs.declared.read_fault.ReadFault.{ReadFault}
use Rattle.image_reads.proofs.Steps.{fault_says}
use Rattle.ufs_inode_defs.specs.Numbers.{numbers_from}
use Rattle.ufs_inode_defs.specs.Superblock.{block_size}
use Rattle.ufs_inode_defs.specs.Stream.{block_count}
use Rattle.ufs_inode_defs.specs.declared.superblock.Super.{Super}
use Rattle.ufs_inode_defs.specs.declared.inode.Inode.{Inode}
use Rattle.ufs_volume_defs.specs.Names.{Block, placed_block, directory_blocks}
use Rattle.ufs_names.specs.Passed.{HasPassed}

-- ---- pieces

pub passed_none : (pieces : List Piece) (byte : ℕ) → HasPassed pieces 0 byte
passed_none pieces byte = record { same = λ later from. refl }

pub passed_later : (pieces : List Piece) (passed byte later : ℕ) → byte ≤ later → HasPassed pieces passed byte → HasPassed pieces passed later
passed_later pieces passed byte later from has = record { same = λ last more. has.same last (omega arith) }

-- ---- blocks

-- a block of the directory
abbrev pub block_at : Super → Inode → List Piece → ℕ → Result Block Refusal
block_at sup inode pieces index = placed_block sup inode index (place_through pieces (index * block_size sup))

-- the blocks from a number on
abbrev pub blocks_from : Super → Inode → List Piece → ℕ → Result (List Block) Refusal
blocks_from sup inode pieces index = each_result (block_at sup inode pieces) (numbers_from index (block_count sup inode.size - index))

-- whether there is a value, or why there is none
abbrev pub tested : {X : Type 0} → Result X Refusal → Result (Unit {0}) Refusal
tested result = with_value (λ x. tt) result

-- the next number is in front of the others
next_number : (index count : ℕ) → index < count → numbers_from index (count - index) ≡ index ∷ numbers_from (index + 1) (count - (index + 1))
next_number index count inside =
    let some : count - index ≡ suc (count - (index + 1)) = omega arith in
    let one : suc index ≡ index + 1 = omega arith in
    ap (numbers_from index) some ∙ ap (λ n. index ∷ numbers_from n (count - (index + 1))) one

-- each block in front of a number has a place
pub record AreTested (sup : Super) (inode : Inode) (pieces : List Piece) (index : ℕ) : Type 0 where
  pub same : tested (directory_blocks sup inode pieces) ≡ tested (blocks_from sup inode pieces index)

pub tested_front : (block : Block) (rest : Result (List Block) Refusal) → tested (in_front_of (Ok block) rest) ≡ tested rest
tested_front block (Ok blocks) = refl
tested_front block (Err e) = refl

-- a refusal of the first block is one of all
fault_first : (fault : ReadFault) (first : Result Block Refusal) (rest : Result (List Block) Refusal) → (let one : Result Block ReadFault = Err fault in Answers one first)
    → (let all : Result (Unit {0}) ReadFault = Err fault in Answers all (tested (in_front_of first rest)))
fault_first fault first rest says = fault_says fault first (tested (in_front_of first rest)) (λ e stops. ap (λ one. tested (in_front_of one rest)) stops) says

module _ (sup : Super) (inode : Inode) (pieces : List Piece) where
  pub blocks_all : directory_blocks sup inode pieces ≡ blocks_from sup inode pieces 0
  unfolding directory_blocks
  blocks_all =
      let all : block_count sup inode.size ≡ block_count sup inode.size - 0 = omega arith in
      ap (λ count. each_result (block_at sup inode pieces) (numbers_from 0 count)) all

  pub blocks_next : (index : ℕ) → index < block_count sup inode.size
      → blocks_from sup inode pieces index ≡ in_front_of (block_at sup inode pieces index) (blocks_from sup inode pieces (index + 1))
  blocks_next index inside = ap (λ numbers. each_result (block_at sup inode pieces) numbers) (next_number index (block_count sup inode.size) inside)

  pub blocks_end : (index : ℕ) → block_count sup inode.size ≤ index → blocks_from sup inode pieces index ≡ Ok []
  blocks_end index past =
      let none : block_count sup inode.size - index ≡ 0 = omega arith in
      ap (λ count. each_result (block_at sup inode pieces) (numbers_from index count)) none

  pub tested_none : AreTested sup inode pieces 0
  tested_none = record { same = ap tested blocks_all }

  module _ (index : ℕ) (are : AreTested sup inode pieces index) where
    pub tested_end : block_count sup inode.size ≤ index → tested (directory_blocks sup inode pieces) ≡ Ok tt
    tested_end past = are.same ∙ ap tested (blocks_end index past)

    module _ (inside : index < block_count sup inode.size) where
      pub tested_next : (block : Block) → block_at sup inode pieces index ≡ Ok block → AreTested sup inode pieces (index + 1)
      tested_next block is = record {
        same =
            are.same
            ∙ ap tested (blocks_next index inside)
            ∙ ap (λ first. tested (in_front_of first (blocks_from sup inode pieces (index + 1)))) is
            ∙ tested_front block (blocks_from sup inode pieces (index + 1));
      }

      -- a block is a hole
      pub tested_hole : (result : Result (Unit {0}) ReadFault) (fault : ReadFault) → IsErr result → IsErrAnd result (λ other. other ≡ fault)
          → (let failed : Result Block ReadFault = Err fault in Answers failed (block_at sup inode pieces index))
          → Answers result (tested (directory_blocks sup inode pieces))
      tested_hole (Ok done) fault is passed says = absurd cc
      tested_hole (Err other) fault is passed says =
          let P : ReadFault → Type 0 = λ one. (let failed : Result (Unit {0}) ReadFault = Err one in Answers failed (tested (directory_blocks sup inode pieces))) in
          let Q : Result (Unit {0}) Refusal → Type 0 = λ gives. (let failed : Result (Unit {0}) ReadFault = Err fault in Answers failed gives) in
          subst P (sym passed)
          (subst Q (sym (are.same ∙ ap tested (blocks_next index inside)))
          (fault_first fault (block_at sup inode pieces index) (blocks_from sup inode pieces (index + 1)) says))
