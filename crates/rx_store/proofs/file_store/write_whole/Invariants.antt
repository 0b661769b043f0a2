use Rattle.std.proofs.Common.{◌≡◌, true, ◌+◌, ◌-◌, ◌≤◌, length, is_none}
use Rattle.rx_store.specs.Outside.{Moved}
use Rattle.rx_store.proofs.file_store.write_whole.Given as goal

-- no call failed so far, and as many bytes moved as are done
abbrev pub invariant-loop-done : goal.invariant-loop-done
invariant-loop-done g l = record {
  within : l.done ≤ length l.bytes;
  same : is_none l.file.device ≡ is_none l.fn.file.device;
  calm : l.file.faults ≡ l.fn.file.faults;
  moved : Moved g.F.WritesTo.written true l.fn.file l.done l.file;
}

abbrev pub decreases-loop-done : goal.decreases-loop-done
decreases-loop-done g l = (length l.bytes - l.done) + l.file.patience
