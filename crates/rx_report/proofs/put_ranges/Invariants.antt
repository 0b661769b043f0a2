use Rattle.std.proofs.Common.{◌≡◌, ◌++◌, take}
use Rattle.std.specs.List.{flat_map}
use Rattle.text_defs.specs.Report.{range_line}
use Rattle.rx_report.specs.Pages.{TookAllBut}
use Rattle.rx_report.proofs.put_ranges.Given as goal

-- the lines so far
abbrev pub invariant-loop-claim : goal.invariant-loop-claim
invariant-loop-claim g l = record {
  taken : TookAllBut (g.K.Sink.taken l.fn.sink) (g.K.Sink.taken l.sink) l.page.bytes (l.fn.page.bytes ++ flat_map range_line (take l.claim-index l.claims));
  calm : g.K.Sink.faults l.sink ≡ g.K.Sink.faults l.fn.sink;
}
