use Rattle.std.proofs.Common.{arith, ◌∙◌, length-take}
use Rattle.disk_defs.specs.declared.Area.TheVariants.{Journal}
use Rattle.session_defs.specs.declared.Turn.TheVariants.{Wrote}
use Rattle.redo_session.proofs.StepLaws.{body_bytes, made_write}
use Rattle.redo_session.proofs.call.write_body.Goals as goal

pub returns-clause-made : goal.returns-clause-made
returns-clause-made g c =
    made_write c.write_at.result Wrote Journal c.args.at c.journal_piece_from.new.buf _ _ _ (c.journal_piece_from.ensures.filled ∙ body_bytes c.args.plan.now c.args.at c.args.len _ c.requires.len
    (omega (arith, c.piece_len.ensures, c.requires.buffer, length-take c.piece_len.result c.args.buffer.now)))
    c.write_at.ensures.done c.write_at.ensures.failed
