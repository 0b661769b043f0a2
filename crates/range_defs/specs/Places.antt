-- Sets of places. A set of places is told by a list of ranges, and one list is its canonical one.
use Rattle.std.specs.Prelude.{◌≡◌, ℕ, zero, suc, ◌+◌, ◌<◌, ◌≤◌, Bool, true, false, ◌&&◌, ◌||◌, if◌then◌else◌, ◌==◌, nat_le, nat_lt, Option, Some, None, List, [], ◌∷◌}
use Rattle.range_defs.specs.declared.Range.{Range}
use Rattle.range_defs.specs.declared.TheConstants.{REACH}

-- whether a byte lies in a range
abbrev pub in_range : Range → ℕ → Bool
in_range range byte = nat_le range.at byte && nat_lt byte (range.at + range.len)

-- whether a byte lies in one of the ranges
abbrev pub covers : List Range → ℕ → Bool
covers [] byte = false
covers (range ∷ ranges) byte = in_range range byte || covers ranges byte

-- the next range begins behind this byte
abbrev pub BeginsBehind : ℕ → List Range → Type 0
BeginsBehind byte [] = Unit {0}
BeginsBehind byte (range ∷ ranges) = byte < range.at

-- the canonical list of a set: sorted, none empty, and no two touch
abbrev pub IsRangeList : List Range → Type 0
IsRangeList [] = Unit {0}
IsRangeList (range ∷ ranges) = (0 < range.len) × BeginsBehind (range.at + range.len) ranges × IsRangeList ranges

-- a range ends in reach
abbrev pub EndsInReach : Range → Type 0
EndsInReach range = range.at + range.len ≤ REACH

-- a byte is put in front of the ranges of the bytes behind it: it joins the first of them where that begins
-- right behind it
abbrev pub in_front : ℕ → List Range → List Range
in_front byte [] = record { at = byte; len = 1 } ∷ []
in_front byte (range ∷ ranges) =
    if range.at == suc byte
    then record { at = byte; len = suc range.len } ∷ ranges
    else (record { at = byte; len = 1 } ∷ range ∷ ranges)

-- the longest ranges of the bytes that pass a test, of `count` bytes from `from` on
unfoldable pub longest_ranges : (ℕ → Bool) → ℕ → ℕ → List Range
longest_ranges test from zero = []
longest_ranges test from (suc count) =
    if test from then in_front from (longest_ranges test (suc from) count) else longest_ranges test (suc from) count

-- the answer is the least byte that passes a test; it is None where no byte passes
abbrev pub IsLeast : (ℕ → Bool) → Option ℕ → Type 0
IsLeast test None = (byte : ℕ) → test byte ≡ false
IsLeast test (Some least) = (test least ≡ true) × ((byte : ℕ) → byte < least → test byte ≡ false)

-- an answer, and where there is none another one
abbrev pub otherwise : Option ℕ → Option ℕ → Option ℕ
otherwise (Some answer) other = Some answer
otherwise None other = other

-- the least byte below a number that passes a test
unfoldable pub least_below : (ℕ → Bool) → ℕ → Option ℕ
least_below test zero = None
least_below test (suc last) = otherwise (least_below test last) (if test last then Some last else None)
