use Rattle.std.proofs.Common.{◌≡◌, ◌-◌, ◌≤◌, length}
use Rattle.disk_defs.proofs.Stream.{ReadSoFar}
use Rattle.rx_store.proofs.whole.read_to_end.Given as goal

-- the text so far stands before what is still to come, and no read failed
abbrev pub invariant-reading : goal.invariant-reading
invariant-reading g l = record {
  block : length l.block ≡ 4096;
  within : length l.text.items ≤ l.limit;
  so_far : ReadSoFar (g.R.Source.rest l.fn.source) (g.R.Source.rest l.source) l.text.items;
  calm : g.R.Source.faults l.source ≡ g.R.Source.faults l.fn.source;
}

abbrev pub decreases-reading : goal.decreases-reading
decreases-reading g l = l.limit - length l.text.items
