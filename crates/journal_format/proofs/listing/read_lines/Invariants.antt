use Rattle.std.proofs.Common.{◌≡◌, ◌≤◌}
use Rattle.disk_defs.specs.Disk.{size_of, told_of}
use Rattle.disk_defs.specs.declared.Area.TheVariants.{Journal}
use Rattle.journal_format.specs.Parts.{IsPart, IsWindow}
use Rattle.journal_format.proofs.Steps.{LinesLeft}
use Rattle.journal_format.proofs.listing.read_lines.Given as goal

abbrev pub invariant-loop : goal.invariant-loop
invariant-loop g l = record {
  inside : l.at ≤ l.end;
  read : IsPart (told_of Journal (g.S.Store.state l.fn.store)) l.begin l.at (λ whole. LinesLeft whole l.end l.begin l.count l.counter l.at l.lines.items);
  window : IsWindow (told_of Journal (g.S.Store.state l.fn.store)) (size_of Journal (g.S.Store.state l.fn.store)) l.window;
  same : g.S.Store.state l.store ≡ g.S.Store.state l.fn.store;
  calm : g.S.Store.faults l.store ≡ g.S.Store.faults l.fn.store;
}
