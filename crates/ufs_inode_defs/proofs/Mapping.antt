-- Which blocks the pointers of a stream map.
use Rattle.std.specs.Prelude.{◌≡◌, ℕ, suc, ◌+◌, ◌-◌, ◌*◌, ◌%◌, ◌<◌, ◌≤◌, pos, true, false, nat_lt, List, refl}
use Rattle.std.proofs.Common.{ap, ◌∙◌, arith}
use Rattle.std.proofs.Math.Nat.{mul-le-mul_right}
use Rattle.std.proofs.lemmas.Bool.Decides.{nat_tests}
use Rattle.std.proofs.lemmas.Nat.{div-mul-add, mod-mul-add}
use Rattle.ufs_inode_defs.specs.Stream.{Stream, span}
use Rattle.ufs_inode_defs.specs.Blocks.{fragment_place}
use Rattle.ufs_inode_defs.specs.BlockPlace.{pointer_at, mapped_pointer, value_of, block_pointer}
use Rattle.ufs_inode_defs.specs.declared.superblock.Super.{Super}
use Rattle.ufs_inode_defs.proofs.BlockSteps.{AreMapped}

module _ (image : List ℕ) (sup : Super) (stream : Stream) where
  -- a direct pointer maps its block
  pub direct_maps : (block : ℕ) → block < 12 → AreMapped 0 image sup stream block (value_of stream.direct block)
  unfolding block_pointer
  direct_maps block below = λ number first.
      let same : block + number ≡ block = omega (arith, first) in
      let is : nat_lt block 12 ≡ true = grind (arith, nat_tests) in
      ap (λ n. block_pointer image sup stream n) same ∙ rw is refl

  -- the pointers behind them map the blocks behind those that the ones in front of them map
  pub maps_1 : AreMapped 1 image sup stream 12 (value_of stream.indirect 0)
  unfolding block_pointer
  maps_1 = λ number below.
      let first : nat_lt (12 + number) 12 ≡ false = grind (arith, nat_tests) in
      let second : nat_lt (12 + number) (12 + span sup 1) ≡ true = grind (arith, nat_tests) in
      let same : 12 + number - 12 ≡ number = omega arith in
      rw (first, second, same) refl

  pub maps_2 : AreMapped 2 image sup stream (12 + span sup 1) (value_of stream.indirect 1)
  unfolding block_pointer
  maps_2 = λ number below.
      let first : nat_lt (12 + span sup 1 + number) 12 ≡ false = grind (arith, nat_tests) in
      let second : nat_lt (12 + span sup 1 + number) (12 + span sup 1) ≡ false = grind (arith, nat_tests) in
      let third : nat_lt (12 + span sup 1 + number) (12 + span sup 1 + span sup 2) ≡ true = grind (arith, nat_tests) in
      let same : 12 + span sup 1 + number - (12 + span sup 1) ≡ number = omega arith in
      rw (first, second, third, same) refl

  pub maps_3 : AreMapped 3 image sup stream (12 + span sup 1 + span sup 2) (value_of stream.indirect 2)
  unfolding block_pointer
  maps_3 = λ number below.
      let first : nat_lt (12 + span sup 1 + span sup 2 + number) 12 ≡ false = grind (arith, nat_tests) in
      let second : nat_lt (12 + span sup 1 + span sup 2 + number) (12 + span sup 1) ≡ false = grind (arith, nat_tests) in
      let third : nat_lt (12 + span sup 1 + span sup 2 + number) (12 + span sup 1 + span sup 2) ≡ false = grind (arith, nat_tests) in
      let same : 12 + span sup 1 + span sup 2 + number - (12 + span sup 1 + span sup 2) ≡ number = omega arith in
      rw (first, second, third, same) refl

  -- the blocks that a pointer of a block of pointers maps
  pub child_maps : (level first fragment number : ℕ) → number < sup.nindir → AreMapped (suc level) image sup stream first (pos (suc fragment))
      → AreMapped level image sup stream (first + number * span sup level) (pointer_at image sup (fragment_place sup (suc fragment)) number)
  child_maps level first fragment number below maps = λ other inside.
      let width : ℕ = span sup level in
      let place : ℕ = fragment_place sup (suc fragment) in
      let whole : first + number * width + other ≡ first + (number * width + other) = omega arith in
      let next : suc number * width ≤ sup.nindir * width = mul-le-mul_right width below in
      ap (λ block. block_pointer image sup stream block) whole
      ∙ maps (number * width + other) (omega (arith, next, inside))
      ∙ ap (λ n. mapped_pointer level image sup (pointer_at image sup place n) ((number * width + other) % width)) (div-mul-add number width other inside)
      ∙ ap (λ n. mapped_pointer level image sup (pointer_at image sup place number) n) (mod-mul-add number width other inside)
