use Rattle.std.proofs.Common.{◌≡◌, sum_by, take}
use Rattle.rx_ranges.specs.PlanChecks.{listed_len}
use Rattle.journal_format.proofs.piece.listing_len.Given as goal

abbrev pub invariant-loop-line : goal.invariant-loop-line
invariant-loop-line l = l.total ≡ sum_by listed_len (take l.line-index l.lines)
