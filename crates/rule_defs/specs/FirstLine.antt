-- The parts of a rule text in the first form.
use Rattle.std.specs.Prelude.{◌≢◌, ℕ, ◌-◌, nat_eq, if◌then◌else◌, List, [], ◌∷◌, length, take, drop}
use Rattle.std.specs.Cmp.Lexicographic.{pointwise}
use Rattle.rule_defs.specs.Reads.{first_line}

-- a text without the line feed that may end it
abbrev pub without_end : List ℕ → List ℕ
without_end text =
    if pointwise nat_eq (drop (length text - 1) text) (10 ∷ []) then take (length text - 1) text else text

-- the line has no name and two digits in the places where the first form has them
abbrev pub IsOtherLine : List ℕ → Type 0
IsOtherLine line = (name : List ℕ) (high low : ℕ) → line ≢ first_line name high low
