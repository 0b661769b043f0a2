use Rattle.std.proofs.Common.{◌≡◌, ◌≤◌, ◌*◌, sum_by, take}
use Rattle.rx_report.proofs.lines.planned_bytes.Given as goal

abbrev pub invariant-loop-claim : goal.invariant-loop-claim
invariant-loop-claim l = record {
  so_far : l.total ≡ sum_by (λ claim. claim.range.len) (take l.claim-index l.claims);
  in_range : l.total ≤ l.claim-index * 18446744073709551616;
}
