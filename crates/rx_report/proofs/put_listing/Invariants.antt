use Rattle.std.proofs.Common.{◌≡◌, ◌++◌, take}
use Rattle.std.specs.List.{flat_map}
use Rattle.text_defs.specs.Report.{listed_line}
use Rattle.rx_report.specs.Pages.{TookAllBut}
use Rattle.rx_report.proofs.put_listing.Given as goal

-- the lines so far
abbrev pub invariant-loop-listed : goal.invariant-loop-listed
invariant-loop-listed g l = record {
  taken : TookAllBut (g.K.Sink.taken l.fn.sink) (g.K.Sink.taken l.sink) l.page.bytes (l.fn.page.bytes ++ flat_map listed_line (take l.listed-index l.lines));
  calm : g.K.Sink.faults l.sink ≡ g.K.Sink.faults l.fn.sink;
}
