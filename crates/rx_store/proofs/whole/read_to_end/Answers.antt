use Rattle.rx_store.proofs.Read.{ReadSoFar-more, IsPartlyRead-so_far}
use Rattle.rx_store.proofs.whole.read_to_end.Goals as goal

pub returns-then-count-limit-clause-left : goal.returns-then-count-limit-clause-left
returns-then-count-limit-clause-left g c = IsPartlyRead-so_far _ _ _ (ReadSoFar-more _ _ _ _ _ _ c.reading.invariant.so_far c.in_ok-count.ensures.given c.in_ok-count.ensures.rest)

pub returns-in_err-extend_from_slice-clause-left : goal.returns-in_err-extend_from_slice-clause-left
returns-in_err-extend_from_slice-clause-left g c = IsPartlyRead-so_far _ _ _ (ReadSoFar-more _ _ _ _ _ _ c.reading.invariant.so_far c.in_ok-count.ensures.given c.in_ok-count.ensures.rest)
