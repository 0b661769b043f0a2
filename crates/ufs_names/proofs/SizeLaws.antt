-- The content of a directory comes in whole pieces of 512 bytes.
use Rattle.std.specs.Prelude.{◌≡◌, ℕ, ◌+◌, ◌-◌, ◌*◌, ◌/◌, ◌%◌, ◌≤◌, ◌≢◌, min, None}
use Rattle.std.specs.Int.RustNames.{count_ones}
use Rattle.std.proofs.lemmas.Nat.{ones_cat, zero_from_ones}
use Rattle.std.proofs.lemmas.Bool.Decides.{Decides-eqb}
use Rattle.std.proofs.Common.{arith, ap, sym, ◌∙◌}
use Rattle.ufs_inode_defs.specs.Superblock.{wrong_field, block_size}
use Rattle.ufs_inode_defs.specs.Stream.{content_len}
use Rattle.ufs_inode_defs.specs.declared.superblock.Super.{Super}
use Rattle.ufs_inode_defs.proofs.SoundSuper.{is_sound}

power_whole : (n : ℕ) → count_ones n ≡ 1 → 512 ≤ n → n % 512 ≡ 0
power_whole n one large =
    let high : ℕ = n / 512 in
    let low : ℕ = n % 512 in
    let split : high * 512 + low ≡ n = omega arith in
    let sum : count_ones n ≡ count_ones high + count_ones low = ap count_ones (sym split) ∙ ones_cat 9 high low (omega arith) in
    let some : count_ones high ≢ 0 = λ none. let zero_high = zero_from_ones high none in omega (arith, zero_high) in
    zero_from_ones low (omega (arith, sum, one, some))

pub block_whole : (sup : Super) → wrong_field sup ≡ None → block_size sup % 512 ≡ 0
block_whole sup none =
    let sound = is_sound sup none in
    power_whole (block_size sup) ((Decides-eqb (count_ones (block_size sup)) 1).0 sound.power) (omega (arith, sound.block))

whole_content : (unit size index : ℕ) → unit % 512 ≡ 0 → size % 512 ≡ 0 → min unit (size - index * unit) % 512 ≡ 0
whole_content unit size index units sizes =
    let quarters : ℕ = unit / 512 in
    let all : quarters * 512 ≡ unit = omega arith in
    let product : ℕ = index * quarters in
    let passed : index * unit ≡ product * 512 = ap (λ n. index * n) (sym all) ∙ omega arith in
    let parts : ℕ = size / 512 in
    let size_is : parts * 512 ≡ size = omega arith in
    omega (arith, all, passed, size_is)

pub content_whole : (sup : Super) (size index : ℕ) → wrong_field sup ≡ None → size % 512 ≡ 0 → content_len sup size index % 512 ≡ 0
content_whole sup size index none whole = whole_content (block_size sup) size index (block_whole sup none) whole
