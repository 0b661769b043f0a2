use Rattle.std.proofs.Common.{◌≡◌, length}
use denote.Text.{Utf8}
use denote.Shadow.{shadow}
use Rattle.std.specs.Str.{chars}
use Rattle.rx_pattern.specs.MatchTest.{is_match}
use Rattle.rx_pattern.proofs.matching.matches_whole.Given as goal

-- what is left of the text matches what is left of the items exactly where the whole text matches all of them
abbrev pub invariant-loop-later : goal.invariant-loop-later
invariant-loop-later l = shadow (Utf8 l.rest) × (is_match l.fn.items (chars l.fn.text) ≡ is_match l.left (chars l.rest))

abbrev pub decreases-loop-later : goal.decreases-loop-later
decreases-loop-later l = length l.rest
