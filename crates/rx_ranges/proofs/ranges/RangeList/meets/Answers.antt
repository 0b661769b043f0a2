use Rattle.std.proofs.Common.{arith}
use Rattle.rx_ranges.proofs.Meeting.{left-skips, right-skips, found}
use Rattle.rx_ranges.proofs.ranges.RangeList.meets.Goals as goal

pub loop-left-preserved-then-at-mine : goal.loop-left-preserved-then-at-mine
loop-left-preserved-then-at-mine c =
    left-skips c.items-ours.result.now c.items-others.result.now c.loop-left.left c.loop-left.right (record { at = 0; len = 0 })
    c.loop-left.invariant (omega arith, omega arith) (omega arith)

pub loop-left-preserved : goal.loop-left-preserved
loop-left-preserved c =
    right-skips c.items-ours.result.now c.items-others.result.now c.loop-left.left c.loop-left.right (record { at = 0; len = 0 })
    c.loop-left.invariant (omega arith, omega arith) (omega arith)

pub returns-else-at-theirs : goal.returns-else-at-theirs
returns-else-at-theirs c =
    rw (← c.items-ours.ensures.items, ← c.items-others.ensures.items, c.max-at.ensures)
    (found c.items-ours.result.now c.items-others.result.now c.loop-left.left c.loop-left.right (record { at = 0; len = 0 })
    c.loop-left.invariant (omega arith, omega arith) (omega arith) (omega arith))
