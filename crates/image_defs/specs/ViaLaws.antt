-- A program on bytes that stand elsewhere gives on the image what it gives on those bytes, and looks at their places alone.
use Rattle.std.specs.Prelude.{◌≡◌, ℕ, ◌+◌, ◌<◌, ◌≤◌, Bool, IsTrue, Option, Some, List, length, slice_get}
use Rattle.range_defs.specs.declared.Range.{Range}
use Rattle.range_defs.specs.Places.{covers}
use Rattle.image_defs.specs.Ask.{Ask, result_of, visits}
use Rattle.image_defs.specs.Looks.{LooksAt}
use Rattle.image_defs.specs.Via.{seen, via}

-- each byte of a range passes a test
abbrev pub LiesIn : (ℕ → Type 0) → Range → Type 0
LiesIn Q range = (byte : ℕ) → range.at ≤ byte → byte < range.at + range.len → Q byte

-- images that agree on a set of bytes outside of which a program doesn't look: the program gives the same on them, and
-- looks at the same ranges
abbrev pub SetLaw : Type 0 → Type 0 → Type 0
SetLaw E X =
    (test : ℕ → Bool) (ask : Ask E X) (a b : List ℕ) → length a ≡ length b → ((byte : ℕ) → IsTrue (test byte) → slice_get a byte ≡ slice_get b byte)
    → LooksAt (LiesIn (λ byte. IsTrue (test byte))) a ask → (result_of b ask ≡ result_of a ask) × (visits b ask ≡ visits a ask)

-- it gives what the program gives on the bytes
abbrev pub ViaLaw : Type 0 → Type 0 → Type 0
ViaLaw E X = (image : List ℕ) (place : ℕ → Option ℕ) (size : ℕ) (ask : Ask E X) → result_of image (via place size ask) ≡ result_of (seen image place size) ask

-- a byte of an image is the place of one of the bytes that a program looks at
abbrev pub IsPlaceOfLooked : {E X : Type 0} → List ℕ → (ℕ → Option ℕ) → ℕ → Ask E X → ℕ → Type 0
IsPlaceOfLooked image place size ask byte = (i : ℕ) × (i < size) × (place i ≡ Some byte) × IsTrue (covers (visits (seen image place size) ask) i)

-- it looks at no byte but the places of those at which the program looks
abbrev pub ViaLooksLaw : Type 0 → Type 0 → Type 0
ViaLooksLaw E X =
    (image : List ℕ) (place : ℕ → Option ℕ) (size : ℕ) (ask : Ask E X) (byte : ℕ) → IsTrue (covers (visits image (via place size ask)) byte) → IsPlaceOfLooked image place size ask byte
