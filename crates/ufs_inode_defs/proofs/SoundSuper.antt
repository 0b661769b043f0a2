-- What holds of a superblock in which nothing is wrong.
use Rattle.std.specs.Prelude.{◌≡◌, ℕ, suc, ◌*◌, ◌/◌, ◌≤◌, ◌<◌, Bool, true, false, not, ◌&&◌, ◌==◌, nat_le, if◌then◌else◌, Some, None, List, [], ◌∷◌, refl}
use Rattle.std.specs.Int.{is_power_of_two, div_ceil}
use Rattle.std.specs.List.{list_any}
use Rattle.std.proofs.Common.{arith, ap, ⊎_elim}
use Rattle.std.proofs.lemmas.Bool.{leb-true, cases_lt}
use Rattle.std.proofs.lemmas.Bool.Decides.{Decides-eqb}
use Rattle.bytes_defs.specs.Numbers.{bytes_of_width}
use Rattle.std.proofs.lemmas.Grind.{div_ceil_times}
use Rattle.std.proofs.Math.Nat.{mul-le-mul_right, le-div_iff_mul-le, div-mul-le_self}
use Rattle.ufs_inode_defs.specs.Layout.{Layout, layout_1, layout_2, pointer_len}
use Rattle.ufs_inode_defs.specs.Numbers.{non_negative}
use Rattle.ufs_inode_defs.specs.Superblock.{first_applying, wrong_parts, wrong_field, block_size, fragment_size, is_block_size, is_fragment_size, is_fragment_count}
use Rattle.ufs_inode_defs.proofs.BlockSteps.{HasPointers}
use Rattle.ufs_inode_defs.specs.declared.superblock.Super.{Super}

-- no part of the list applies
unfoldable pub NoneApplies : List (Bool × ℕ) → Type 0
NoneApplies [] = Unit {0}
NoneApplies (part ∷ parts) = (part.0 ≡ false) × NoneApplies parts

pub none_applies : (parts : List (Bool × ℕ)) → first_applying parts ≡ None → NoneApplies parts
unfolding NoneApplies
none_applies [] none = tt
none_applies (part ∷ parts) none = first_or_later part.0 (λ later. none_applies parts later) none
  where
    first_or_later : (applies : Bool) → (first_applying parts ≡ None → NoneApplies parts) → (if applies then Some part.1 else first_applying parts) ≡ None → (applies ≡ false) × NoneApplies parts
    first_or_later true later none = absurd cc
    first_or_later false later none = (refl, later none)

pub it_holds : (test : Bool) → not test ≡ false → test ≡ true
it_holds true holds = refl
it_holds false holds = absurd cc

pub both_hold : (first second : Bool) → (first && second) ≡ true → (first ≡ true) × (second ≡ true)
both_hold true second both = (refl, both)
both_hold false second both = absurd cc

-- a size that blocks have is a power of two, and within its bounds
record IsBlockSize (size : ℕ) : Type 0 where
  pub power : is_power_of_two size ≡ true
  pub least : 4096 ≤ size
  pub most : size ≤ 65536

block_of_size : (size : ℕ) → not (is_block_size size) ≡ false → IsBlockSize size
unfolding is_block_size
block_of_size size none =
    let all = both_hold (is_power_of_two size) (nat_le 4096 size && nat_le size 65536) (it_holds (is_block_size size) none) in
    let bounds = both_hold (nat_le 4096 size) (nat_le size 65536) all.1 in
    record { power = all.0; least = leb-true 4096 size bounds.0; most = leb-true size 65536 bounds.1 }

least_fragment : (size : ℕ) → not (is_fragment_size size) ≡ false → 512 ≤ size
unfolding is_fragment_size
least_fragment size none = leb-true 512 size (both_hold (is_power_of_two size) (nat_le 512 size) (it_holds (is_fragment_size size) none)).1

fragment_counts : (count fragment block : ℕ) → not (is_fragment_count count fragment block) ≡ false → count * fragment ≡ block
unfolding is_fragment_count
fragment_counts count fragment block none =
    (Decides-eqb (count * fragment) block).0
    (both_hold (list_any (λ n. count == n) (1 ∷ 2 ∷ 4 ∷ 8 ∷ [])) (count * fragment == block) (it_holds (is_fragment_count count fragment block) none)).1

equal : (a b : ℕ) → not (a == b) ≡ false → a ≡ b
equal a b none = (Decides-eqb a b).0 (it_holds (a == b) none)

-- the sizes within their bounds, and as many pointers in a block as it has place for
pub record IsSound (sup : Super) : Type 0 where
  pub block : 4096 ≤ block_size sup
  pub most : block_size sup ≤ 65536
  pub power : is_power_of_two (block_size sup) ≡ true
  pub fragment : 512 ≤ fragment_size sup
  pub fragments : non_negative sup.frag * fragment_size sup ≡ block_size sup
  pub pointers : sup.nindir ≡ block_size sup / pointer_len sup.version

pub is_sound : (sup : Super) → wrong_field sup ≡ None → IsSound sup
unfolding wrong_field NoneApplies
is_sound sup none =
    let parts = none_applies (wrong_parts sup) none in
    let block = block_of_size (block_size sup) parts.0 in
    record {
      block = block.least;
      most = block.most;
      power = block.power;
      fragment = least_fragment (fragment_size sup) parts.1.0;
      fragments = fragment_counts (non_negative sup.frag) (fragment_size sup) (block_size sup) parts.1.1.0;
      pointers = equal sup.nindir (block_size sup / pointer_len sup.version) parts.1.1.1.0;
    }

-- so many units are whole
whole_units : (count unit size : ℕ) → 0 < unit → count * unit ≡ size → div_ceil size unit * unit ≡ size
whole_units count unit size some is =
    let times = div_ceil_times size unit some in
    ⊎_elim
    (λ more. let next : suc count * unit ≤ div_ceil size unit * unit = mul-le-mul_right unit more in absurd (omega (arith, next, times.1, is)))
    (λ enough. let most : div_ceil size unit * unit ≤ count * unit = mul-le-mul_right unit enough in omega (arith, most, times.0, is))
    (cases_lt count (div_ceil size unit))

-- a pointer has some bytes
pointer_bytes : (first : Bool) → (let layout : Layout = if first then layout_1 else layout_2 in (0 < bytes_of_width layout.pointer) × (bytes_of_width layout.pointer ≤ 8))
pointer_bytes true = (omega arith, omega arith)
pointer_bytes false = (omega arith, omega arith)

-- so its blocks have pointers
pub has_pointers : (sup : Super) → IsSound sup → HasPointers sup
has_pointers sup sound =
    let all = by_len (pointer_len sup.version) (pointer_bytes (sup.version == 1)) sound.pointers in
    record { some_bytes = all.0; some_pointers = all.1; whole = all.2; full = whole_units (non_negative sup.frag) (fragment_size sup) (block_size sup) (let some = sound.fragment in omega (arith, some)) sound.fragments }
  where
    by_len : (len : ℕ) → (0 < len) × (len ≤ 8) → sup.nindir ≡ block_size sup / len → (0 < block_size sup) × (0 < sup.nindir) × (sup.nindir * len ≤ block_size sup)
    by_len len some is =
        let one : 1 ≤ block_size sup / len = (le-div_iff_mul-le some.0).1 (omega (arith, sound.block, some.1)) in
        let whole : sup.nindir * len ≤ block_size sup = let all = div-mul-le_self (block_size sup) len in omega (arith, ap (λ n. n * len) is, all) in
        (omega (arith, sound.block), omega (arith, is, one), whole)
