use Rattle.rx_ranges.proofs.Filling.{Laid}
use Rattle.rx_ranges.proofs.fills.FillMap.first_wins.Given as goal

-- the claims that are laid give each byte what those that were taken give it
abbrev pub invariant-loop-claim : goal.invariant-loop-claim
invariant-loop-claim l = Laid l.claim-items l.laid.items l.claim-index
