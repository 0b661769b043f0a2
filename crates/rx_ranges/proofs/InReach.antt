-- Sets in reach, told by what they leave free and by what they share.
use Rattle.std.proofs.Common.{◌≡◌, ℕ, ◌||◌, ◌&&◌, not, nat_lt, List, arith}
use Rattle.std.specs.List.{All}
use Rattle.std.proofs.lemmas.Bool.Decides.{nat_tests}
use Rattle.range_defs.specs.declared.Range.{Range}
use Rattle.range_defs.specs.declared.TheConstants.{REACH}
use Rattle.range_defs.specs.Places.{covers, EndsInReach}
use Rattle.range_defs.proofs.RangeLaws.{covers-past}

pub lacks-other : (a b : List Range) (byte : ℕ) → All EndsInReach a
    → (covers a byte && (nat_lt byte REACH && not (covers b byte))) ≡ (covers a byte && not (covers b byte))
lacks-other a b byte reach = grind (arith, nat_tests, covers-past REACH byte a reach)

pub in-either : (a b : List Range) (byte : ℕ) → All EndsInReach a → All EndsInReach b
    → (nat_lt byte REACH && not ((nat_lt byte REACH && not (covers a byte)) && (nat_lt byte REACH && not (covers b byte)))) ≡ (covers a byte || covers b byte)
in-either a b byte reach_a reach_b = grind (arith, nat_tests, covers-past REACH byte a reach_a, covers-past REACH byte b reach_b)
