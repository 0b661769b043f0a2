use Rattle.rx_ranges.proofs.LeftFree.{FreeSoFar}
use Rattle.rx_ranges.proofs.ranges.sets.gaps.Given as goal

abbrev pub invariant-loop-range : goal.invariant-loop-range
invariant-loop-range l = FreeSoFar l.ranges l.out.items l.from l.range-index
