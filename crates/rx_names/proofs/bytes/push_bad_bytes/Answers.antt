use Rattle.rx_names.proofs.Walks.{escape_turn}
use Rattle.rx_names.proofs.bytes.push_bad_bytes.Goals as goal

pub loop-byte-preserved : goal.loop-byte-preserved
loop-byte-preserved c = escape_turn _ _ _ _ c.loop-byte.byte-index c.loop-byte-test.true c.loop-byte.invariant c.in_ok-push_byte_escape.ensures
