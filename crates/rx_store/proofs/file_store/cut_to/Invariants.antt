use Rattle.std.proofs.Common.{◌≡◌, false, is_none}
use Rattle.rx_store.specs.Outside.{Moved}
use Rattle.rx_store.proofs.file_store.cut_to.Given as goal

-- each call so far was interrupted
abbrev pub invariant-again : goal.invariant-again
invariant-again g l = record {
  same : is_none l.file.device ≡ is_none l.fn.file.device;
  calm : l.file.faults ≡ l.fn.file.faults;
  moved : Moved g.F.WritesTo.cut false l.fn.file 0 l.file;
}

abbrev pub decreases-again : goal.decreases-again
decreases-again g l = l.file.patience
