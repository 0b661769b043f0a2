-- The sizes of a volume whose superblock has no wrong field.
use Rattle.std.specs.Prelude.{◌≡◌, ℕ, zero, suc, ◌+◌, ◌*◌, ◌<◌, ◌≤◌, Bool, true, false, ◌==◌, if◌then◌else◌, None}
use Rattle.std.specs.Int.{div_ceil}
use Rattle.std.proofs.Common.{arith, ap}
use Rattle.std.proofs.lemmas.Grind.{div_ceil_times}
use Rattle.std.proofs.Math.Nat.{mul-le-mul_right, mul-le-mul_left, div-mul-le_self}
use Rattle.bytes_defs.specs.Numbers.{bytes_of_width}
use Rattle.ufs_inode_defs.specs.Layout.{Layout, layout_1, layout_2, pointer_len}
use Rattle.ufs_inode_defs.specs.Numbers.{non_negative}
use Rattle.ufs_inode_defs.specs.Superblock.{wrong_field, block_size, fragment_size}
use Rattle.ufs_inode_defs.specs.Stream.{content_len}
use Rattle.ufs_inode_defs.specs.declared.superblock.Super.{Super}
use Rattle.ufs_inode_defs.proofs.SoundSuper.{is_sound}

pub block_bounds : (sup : Super) → wrong_field sup ≡ None → (4096 ≤ block_size sup) × (block_size sup ≤ 65536)
block_bounds sup none = let sound = is_sound sup none in (sound.block, sound.most)

-- a block has some fragments, so one of them isn't longer
some_of : (count fragment block : ℕ) → 0 < block → count * fragment ≡ block → fragment ≤ block
some_of zero fragment block some is = absurd (omega (arith, some, is))
some_of (suc count) fragment block some is = let whole : suc count * fragment ≡ fragment + count * fragment = omega arith in omega (arith, whole, is)

pub fragment_bounds : (sup : Super) → wrong_field sup ≡ None → (512 ≤ fragment_size sup) × (fragment_size sup ≤ 65536)
fragment_bounds sup none =
    let sound = is_sound sup none in
    let bounds = block_bounds sup none in
    (sound.fragment, let short = some_of (non_negative sup.frag) (fragment_size sup) (block_size sup) (omega (arith, bounds.0)) sound.fragments in omega (arith, short, bounds.1))

-- ---- blocks of pointers

pointer_bytes : (first : Bool) → (let layout : Layout = if first then layout_1 else layout_2 in 4 ≤ bytes_of_width layout.pointer)
pointer_bytes true = omega arith
pointer_bytes false = omega arith

pub few_pointers : (sup : Super) → wrong_field sup ≡ None → sup.nindir ≤ 16384
few_pointers sup none =
    let bounds = block_bounds sup none in
    let bytes : 4 ≤ pointer_len sup.version = pointer_bytes (sup.version == 1) in
    let is = (is_sound sup none).pointers in
    let whole : sup.nindir * pointer_len sup.version ≤ block_size sup = let all = div-mul-le_self (block_size sup) (pointer_len sup.version) in omega (arith, ap (λ n. n * pointer_len sup.version) is, all) in
    let four : sup.nindir * 4 ≤ sup.nindir * pointer_len sup.version = mul-le-mul_left sup.nindir bytes in
    omega (arith, bounds.1, whole, four)

-- so the spans stay within a number
record AreSpans (n : ℕ) : Type 0 where
  pub two : n * n ≤ 268435456
  pub three : n * (n * n) ≤ 4398046511104

spans : (n : ℕ) → n ≤ 16384 → AreSpans n
spans n few =
    let two : n * n ≤ 16384 * 16384 = let a : n * n ≤ n * 16384 = mul-le-mul_left n few in let b : n * 16384 ≤ 16384 * 16384 = mul-le-mul_right 16384 few in omega (arith, a, b) in
    let three : n * (n * n) ≤ 16384 * 268435456 = let a : n * (n * n) ≤ n * 268435456 = mul-le-mul_left n two in let b : n * 268435456 ≤ 16384 * 268435456 = mul-le-mul_right 268435456 few in omega (arith, a, b) in
    record { two = two; three = three }

pub span_bounds : (sup : Super) → wrong_field sup ≡ None → (sup.nindir ≤ 16384) × (sup.nindir * sup.nindir ≤ 268435456) × (sup.nindir * (sup.nindir * sup.nindir) ≤ 4398046511104)
span_bounds sup none = let all = spans sup.nindir (few_pointers sup none) in (few_pointers sup none, all.two, all.three)

-- ---- the fragments of a block

pub allocated_fits : (sup : Super) (size block : ℕ) → wrong_field sup ≡ None → div_ceil (content_len sup size block) (fragment_size sup) * fragment_size sup ≤ 131072
allocated_fits sup size block none =
    let fragment = fragment_bounds sup none in
    let block_most = (is_sound sup none).most in
    let times = div_ceil_times (content_len sup size block) (fragment_size sup) (omega (arith, fragment.0)) in
    omega (arith, times.1, fragment.1, block_most)
