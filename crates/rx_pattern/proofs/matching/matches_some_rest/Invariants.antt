use Rattle.std.proofs.Common.{◌≡◌, ◌+◌, ◌*◌, ◌≤◌, length}
use denote.Text.{Utf8}
use denote.Shadow.{shadow}
use Rattle.std.specs.Str.{chars}
use Rattle.rx_pattern.specs.MatchTest.{is_match, some_rest}
use Rattle.rx_pattern.proofs.Tries.{IsTried}
use Rattle.rx_pattern.proofs.matching.matches_some_rest.Given as goal

-- the answer is whether the items behind the last star match some rest of the text that is tried, and the try has come
-- from those items and that text to what is left
abbrev pub invariant-loop-later : goal.invariant-loop-later
invariant-loop-later l =
    shadow (Utf8 l.tried) × shadow (Utf8 l.rest) × (length l.star ≤ length l.fn.items) × (length l.left ≤ length l.fn.items) × (length l.rest ≤ length l.tried)
    × (some_rest (is_match l.fn.items) (chars l.fn.text) ≡ some_rest (is_match l.star) (chars l.tried))
    × IsTried l.star (chars l.tried) l.left (chars l.rest)

-- with each step back a character less is left to try, and with each other step an item less
abbrev pub decreases-loop-later : goal.decreases-loop-later
decreases-loop-later l = length l.tried * (length l.fn.items + 1) + length l.left
