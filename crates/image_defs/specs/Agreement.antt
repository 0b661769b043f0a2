-- Images that agree where a program looks, and the law that the program then gives the same.
use Rattle.std.specs.Prelude.{◌≡◌, ℕ, IsTrue, List, length, slice_get}
use Rattle.range_defs.specs.declared.Range.{Range}
use Rattle.range_defs.specs.Places.{covers}
use Rattle.image_defs.specs.Ask.{Ask, result_of, visits}

-- two images have equal lengths, and equal bytes at each place that the ranges cover
pub record AgreeOn (ranges : List Range) (a b : List ℕ) : Type 0 where
  pub same_length : length a ≡ length b
  pub same_bytes : (byte : ℕ) → IsTrue (covers ranges byte) → slice_get a byte ≡ slice_get b byte

-- the law, for all programs with these faults and values
abbrev pub FootprintLaw : Type 0 → Type 0 → Type 0
FootprintLaw E X = (ask : Ask E X) (a b : List ℕ) → AgreeOn (visits a ask) a b → (result_of b ask ≡ result_of a ask) × (visits b ask ≡ visits a ask)
