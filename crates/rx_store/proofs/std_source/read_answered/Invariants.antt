use Rattle.std.proofs.Common.{◌≡◌, false, is_none}
use Rattle.rx_store.specs.Outside.{Moved}
use Rattle.rx_store.proofs.std_source.read_answered.Given as goal

-- each call so far was interrupted
abbrev pub invariant-again : goal.invariant-again
invariant-again g l = record {
  same : is_none l.reader.device ≡ is_none l.fn.reader.device;
  calm : l.reader.faults ≡ l.fn.reader.faults;
  moved : Moved g.R.Reads.answered false l.fn.reader 0 l.reader;
}

abbrev pub decreases-again : goal.decreases-again
decreases-again g l = l.reader.patience
