use Rattle.std.proofs.Common.{arith}
use Rattle.journal_defs.proofs.Journals.{length_header_rest}
use Rattle.journal_format.proofs.Fills.{fills_in_front}
use Rattle.journal_format.proofs.piece.put_front.Goals as goal

pub returns-else-at-lt-HEADER_LEN : goal.returns-else-at-lt-HEADER_LEN
returns-else-at-lt-HEADER_LEN c = fills_in_front c.args.piece.now _ c.args.at 0 (omega (arith, length_header_rest c.args.plan.now, c.if-at-lt-HEADER_LEN.false))
