use Rattle.rx_ranges.proofs.Overlay.{laid_over}
use Rattle.rx_ranges.proofs.OverlaySteps.{SoFar}
use Rattle.rx_ranges.proofs.laying.with_claim.Given as goal

-- what is written, and what is still to be written, are the claim laid over the claims
abbrev pub invariant-loop-next : goal.invariant-loop-next
invariant-loop-next l = SoFar (laid_over l.fn.claim l.laid) l.laid l.out.items l.rest l.next-index
