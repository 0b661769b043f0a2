-- What a pointer of a stream that is used maps.
use Rattle.std.specs.Prelude.{◌≡◌, ℕ, zero, suc, ◌+◌, ◌<◌, ◌≤◌, ℤ, List, [], ◌∷◌, length}
use Rattle.std.proofs.Common.{ap, sym, subst, arith}
use Rattle.ufs_inode_defs.specs.Stream.{Pointer, Stream, span}
use Rattle.ufs_inode_defs.specs.BlockPlace.{value_of}
use Rattle.ufs_inode_defs.specs.declared.superblock.Super.{Super}
use Rattle.ufs_inode_defs.proofs.BlockSteps.{AreMapped}
use Rattle.ufs_inode_defs.proofs.Mapping.{direct_maps, maps_1, maps_2, maps_3, child_maps}
use Rattle.ufs_damage_defs.specs.StreamDamage.{StandsAt, first_mapped, IsUsed, Direct, Rising, Below}

-- no more than twelve direct pointers, and behind twelve up to three of rising levels
pub record HasShape (stream : Stream) : Type 0 where
  pub few : length stream.direct ≤ 12
  pub three : length stream.indirect ≤ 3
  pub full : 0 < length stream.indirect → length stream.direct ≡ 12

stands_value : (pointers : List Pointer) (number : ℕ) (pointer : Pointer) → StandsAt pointers number pointer → (number < length pointers) × (value_of pointers number ≡ pointer.value)
stands_value [] number pointer stands = absurd stands
stands_value (first ∷ rest) zero pointer stands = (omega arith, ap (λ p. p.value) stands)
stands_value (first ∷ rest) (suc number) pointer stands = let more = stands_value rest number pointer stands in let below = more.0 in (omega (arith, below), more.1)

module _ (image : List ℕ) (sup : Super) (stream : Stream) where
  rising_maps : length stream.direct ≡ 12 → (number : ℕ) → number < 3 → AreMapped (suc number) image sup stream (first_mapped sup stream number) (value_of stream.indirect number)
  rising_maps twelve zero below = let M : ℕ → Type 0 = λ n. AreMapped 1 image sup stream n (value_of stream.indirect 0) in subst M (sym twelve) (maps_1 image sup stream)
  rising_maps twelve (suc zero) below = let M : ℕ → Type 0 = λ n. AreMapped 2 image sup stream (n + span sup 1) (value_of stream.indirect 1) in subst M (sym twelve) (maps_2 image sup stream)
  rising_maps twelve (suc (suc zero)) below = let M : ℕ → Type 0 = λ n. AreMapped 3 image sup stream (n + span sup 1 + span sup 2) (value_of stream.indirect 2) in subst M (sym twelve) (maps_3 image sup stream)
  rising_maps twelve (suc (suc (suc number))) below = absurd (omega (arith, below))

  pub used_maps : HasShape stream → (level first : ℕ) (pointer : Pointer) → IsUsed image sup stream level first pointer → AreMapped level image sup stream first pointer.value
  used_maps shape level first pointer (Direct block p stands below) =
      let is = stands_value stream.direct block pointer stands in
      let inside = is.0 in
      let few = shape.few in
      let V : ℤ → Type 0 = λ value. AreMapped 0 image sup stream block value in
      subst V is.1 (direct_maps image sup stream block (omega (arith, inside, few)))
  used_maps shape level first pointer (Rising number p stands below) =
      let is = stands_value stream.indirect number pointer stands in
      let inside = is.0 in
      let three = shape.three in
      let V : ℤ → Type 0 = λ value. AreMapped (suc number) image sup stream (first_mapped sup stream number) value in
      subst V is.1 (rising_maps (shape.full (omega (arith, inside))) number (omega (arith, inside, three)))
  used_maps shape level first pointer (Below l f number fragment above used leads within inside below) =
      let V : ℤ → Type 0 = λ value. AreMapped (suc l) image sup stream f value in
      child_maps image sup stream l f fragment number inside (subst V leads (used_maps shape (suc l) f above used))
