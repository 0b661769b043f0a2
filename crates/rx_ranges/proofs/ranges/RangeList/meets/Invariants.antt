use Rattle.std.proofs.Common.{◌+◌, ◌-◌, length}
use Rattle.rx_ranges.proofs.Meeting.{Left}
use Rattle.rx_ranges.proofs.ranges.RangeList.meets.Given as goal

-- what both sets share lies in the ranges that are left
abbrev pub invariant-loop-left : goal.invariant-loop-left
invariant-loop-left l = Left l.ours l.others l.left l.right

abbrev pub decreases-loop-left : goal.decreases-loop-left
decreases-loop-left l = (length l.ours - l.left) + (length l.others - l.right)
