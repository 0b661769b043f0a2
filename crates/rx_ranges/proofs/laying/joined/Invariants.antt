use Rattle.rx_ranges.proofs.Joining.{joined_to}
use Rattle.rx_ranges.proofs.JoiningSteps.{SoFar}
use Rattle.rx_ranges.proofs.laying.joined.Given as goal

-- what is written, and what is still to be written, are the claims joined
abbrev pub invariant-loop-next : goal.invariant-loop-next
invariant-loop-next l = SoFar (joined_to l.initial.last l.others) l.others l.out.items l.last l.next-index
