use Rattle.std.proofs.Common.{◌∙◌, ap}
use Rattle.disk_defs.proofs.StreamLaws.{on_err}
use Rattle.text_defs.specs.Report.{listed_line}
use Rattle.rx_report.proofs.PageLaws.{line-then, line-stops}
use Rattle.rx_report.proofs.put_listing.Goals as goal

pub returns-in_err-put_listed-clause-prefix : goal.returns-in_err-put_listed-clause-prefix
returns-in_err-put_listed-clause-prefix g c =
    on_err _ (line-stops listed_line c.args.lines.now c.loop-listed.listed-index c.listed-item.result _ c.args.page.now.bytes c.loop-listed-test.true
    (ap listed_line c.listed-item.is) c.loop-listed.invariant.taken c.in_err-put_listed.ensures.prefix)

pub loop-listed-preserved : goal.loop-listed-preserved
loop-listed-preserved g c = record {
  taken = line-then listed_line c.args.lines.now c.loop-listed.listed-index c.listed-item.result c.args.page.now.bytes c.loop-listed-test.true
      (ap listed_line c.listed-item.is) c.loop-listed.invariant.taken c.in_ok-put_listed.ensures.taken;
  calm = c.in_ok-put_listed.ensures.counted ∙ c.loop-listed.invariant.calm;
}
