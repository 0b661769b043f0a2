use Rattle.std.proofs.Common.{◌+◌, ◌-◌, length}
use Rattle.rx_ranges.proofs.Sharing.{SharedSoFar}
use Rattle.rx_ranges.proofs.ranges.sets.shared.Given as goal

abbrev pub invariant-loop-left : goal.invariant-loop-left
invariant-loop-left l = SharedSoFar l.a l.b l.out.items l.left l.right

abbrev pub decreases-loop-left : goal.decreases-loop-left
decreases-loop-left l = (length l.a - l.left) + (length l.b - l.right)
