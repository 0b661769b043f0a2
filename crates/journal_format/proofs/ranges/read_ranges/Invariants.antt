use Rattle.std.proofs.Common.{◌≡◌, ◌+◌, ◌*◌}
use Rattle.disk_defs.specs.Disk.{size_of, told_of}
use Rattle.disk_defs.specs.declared.Area.TheVariants.{Journal}
use Rattle.journal_defs.specs.Reading.{image_len_in}
use Rattle.journal_format.specs.Parts.{IsPart, IsWindow}
use Rattle.journal_format.proofs.Steps.{RangesLeft}
use Rattle.journal_format.proofs.ranges.read_ranges.Given as goal

abbrev pub invariant-loop-i : goal.invariant-loop-i
invariant-loop-i g l = record {
  read : IsPart (told_of Journal (g.S.Store.state l.fn.store)) 40 (40 + 24 * l.i) (λ whole. l.image_len ≡ image_len_in whole → RangesLeft whole l.count l.i l.last_end l.last_rule l.claims.items);
  window : IsWindow (told_of Journal (g.S.Store.state l.fn.store)) (size_of Journal (g.S.Store.state l.fn.store)) l.window;
  same : g.S.Store.state l.store ≡ g.S.Store.state l.fn.store;
  calm : g.S.Store.faults l.store ≡ g.S.Store.faults l.fn.store;
}
