use Rattle.std.proofs.Common.{◌∙◌}
use Rattle.disk_defs.proofs.StreamLaws.{on_err}
use Rattle.text_defs.specs.Report.{range_line}
use Rattle.rx_report.proofs.PageLaws.{line-then, line-stops}
use Rattle.rx_report.proofs.put_ranges.Goals as goal

pub returns-in_err-put-clause-prefix : goal.returns-in_err-put-clause-prefix
returns-in_err-put-clause-prefix g c =
    on_err _ (line-stops range_line c.args.claims.now c.loop-claim.claim-index _ _ c.args.page.now.bytes c.loop-claim-test.true
    (c.as_str.ensures.value ∙ c.range_line.ensures) c.loop-claim.invariant.taken c.in_err-put.ensures.prefix)

pub loop-claim-preserved : goal.loop-claim-preserved
loop-claim-preserved g c = record {
  taken = line-then range_line c.args.claims.now c.loop-claim.claim-index _ c.args.page.now.bytes c.loop-claim-test.true
      (c.as_str.ensures.value ∙ c.range_line.ensures) c.loop-claim.invariant.taken c.in_ok-put.ensures.taken;
  calm = c.in_ok-put.ensures.counted ∙ c.loop-claim.invariant.calm;
}
