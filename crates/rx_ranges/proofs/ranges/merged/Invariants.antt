use Rattle.rx_ranges.proofs.Merging.{merged_to, SoFar}
use Rattle.rx_ranges.proofs.ranges.merged.Given as goal

-- what is written, and what is still to be written, are the ranges merged
abbrev pub invariant-loop-next : goal.invariant-loop-next
invariant-loop-next l = SoFar (merged_to l.initial.last l.sorted) l.sorted l.out.items l.last l.next-index
