use Rattle.std.proofs.Common.{◌≡◌, ℕ, ◌&&◌, false, is_some, take}
use Rattle.range_defs.specs.Claims.{painted}
use Rattle.range_defs.specs.Places.{covers}
use Rattle.rx_plan.proofs.listing.any_meets.Given as goal

-- no byte of the ranges so far is filled
abbrev pub invariant-loop-range : goal.invariant-loop-range
invariant-loop-range l = (byte : ℕ) → (is_some (painted l.fills byte) && covers (take l.range-index l.ranges) byte) ≡ false
