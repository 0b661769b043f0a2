use Rattle.std.proofs.Common.{◌≡◌, length, nat_lt}
use Rattle.rx_store.specs.Outside.{Moved}
use Rattle.rx_store.proofs.std_sink.write_answered.Given as goal

-- each call so far was interrupted
abbrev pub invariant-again : goal.invariant-again
invariant-again g l = record {
  calm : l.writer.faults ≡ l.fn.writer.faults;
  moved : Moved g.W.Writes.answered (nat_lt 0 (length l.bytes)) l.fn.writer 0 l.writer;
}

abbrev pub decreases-again : goal.decreases-again
decreases-again g l = l.writer.patience
