use Rattle.std.proofs.Common.{◌≡◌, ◌-◌, ◌≤◌, length, take}
use Rattle.disk_defs.specs.Stream.{taken_with}
use Rattle.rx_store.proofs.sink.write_all.Given as goal

-- the sink took what is done, and no write failed so far
abbrev pub invariant-loop-done : goal.invariant-loop-done
invariant-loop-done g l = record {
  within : l.done ≤ length l.bytes;
  taken : g.K.Sink.taken l.sink ≡ taken_with (g.K.Sink.taken l.fn.sink) (take l.done l.bytes);
  calm : g.K.Sink.faults l.sink ≡ g.K.Sink.faults l.fn.sink;
}

abbrev pub decreases-loop-done : goal.decreases-loop-done
decreases-loop-done g l = length l.bytes - l.done
