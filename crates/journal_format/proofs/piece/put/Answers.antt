use Rattle.std.proofs.Common.{refl}
use Rattle.journal_format.proofs.Fills.{put_fills, put_nothing}
use Rattle.journal_format.proofs.piece.put.Goals as goal

pub returns-then-begin-end : goal.returns-then-begin-end
returns-then-begin-end c = put_fills c.args.piece.now _ c.args.bytes.now _ c.args.at c.args.place _ _ c.max-begin.ensures c.min-end.ensures c.if-begin-end.true c.copy_to.auto.piece refl c.copy_to.ensures.inside c.copy_to.ensures.front

pub returns-else-begin-end : goal.returns-else-begin-end
returns-else-begin-end c = put_nothing c.args.piece.now c.args.bytes.now c.args.at c.args.place _ _ c.max-begin.ensures c.min-end.ensures c.if-begin-end.false
