-- What a superblock in which nothing is wrong says of its inodes.
use Rattle.std.specs.Prelude.{◌≡◌, ℕ, ◌*◌, ◌/◌, ◌%◌, ◌<◌, ◌≤◌, Bool, true, false, not, ◌==◌, nat_le, if◌then◌else◌, None}
use Rattle.std.proofs.Common.{arith, subst, sym}
use Rattle.std.proofs.lemmas.Bool.{leb-true}
use Rattle.std.proofs.lemmas.Bool.Decides.{Decides-eqb}
use Rattle.std.proofs.Math.Nat.{le-div_iff_mul-le, mul-div-le}
use Rattle.ufs_inode_defs.specs.Layout.{Layout, layout_1, layout_2, layout_of}
use Rattle.ufs_inode_defs.specs.Superblock.{block_size, wrong_parts, wrong_field, is_inode_count}
use Rattle.ufs_inode_defs.specs.declared.superblock.Super.{Super}
use Rattle.ufs_inode_defs.proofs.SoundSuper.{NoneApplies, none_applies, it_holds, both_hold, is_sound}

some_inodes : (inodes in_block : ℕ) → not (is_inode_count inodes in_block) ≡ false → 1 ≤ inodes
unfolding is_inode_count
some_inodes inodes in_block none = leb-true 1 inodes (both_hold (nat_le 1 inodes) (inodes % in_block == 0) (it_holds (is_inode_count inodes in_block) none)).0

-- an inode has at most 256 bytes, and at least one
inode_bytes : (first : Bool) → (let layout : Layout = if first then layout_1 else layout_2 in (0 < layout.inode_len) × (layout.inode_len ≤ 256))
inode_bytes true = (omega arith, omega arith)
inode_bytes false = (omega arith, omega arith)

-- a group has some inodes, and so has a block of them, in which they lie
pub record HasInodes (sup : Super) : Type 0 where
  pub in_group : 0 < sup.ipg
  pub in_block : 0 < sup.inopb
  pub whole : (layout_of sup.version).inode_len * sup.inopb ≤ block_size sup

pub has_inodes : (sup : Super) → wrong_field sup ≡ None → HasInodes sup
unfolding wrong_field NoneApplies
has_inodes sup none =
    let parts = none_applies (wrong_parts sup) none in
    let sound = is_sound sup none in
    let inodes = some_inodes sup.ipg sup.inopb parts.1.1.1.1.1.0 in
    let bytes = inode_bytes (sup.version == 1) in
    let is : sup.inopb ≡ block_size sup / (layout_of sup.version).inode_len = (Decides-eqb sup.inopb (block_size sup / (layout_of sup.version).inode_len)).0 (it_holds (sup.inopb == block_size sup / (layout_of sup.version).inode_len) parts.1.1.1.1.0) in
    let one : 1 ≤ block_size sup / (layout_of sup.version).inode_len = (le-div_iff_mul-le bytes.0).1 (omega (arith, sound.block, bytes.1)) in
    let few = mul-div-le (block_size sup) (layout_of sup.version).inode_len in
    record { in_group = omega (arith, inodes); in_block = omega (arith, is, one); whole = subst (λ n. (layout_of sup.version).inode_len * n ≤ block_size sup) (sym is) few }
