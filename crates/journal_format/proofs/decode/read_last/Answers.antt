use Rattle.std.proofs.Common.{◌∙◌, ap, arith, slice_index, sym}
use Rattle.disk_defs.specs.Disk.{told_of}
use Rattle.disk_defs.specs.declared.Area.TheVariants.{Journal}
use Rattle.journal_defs.specs.Form.{is_set}
use Rattle.journal_defs.proofs.Passing.{nothing_fails}
use Rattle.journal_format.proofs.PartLaws.{part_read, window_tells}
use Rattle.journal_format.proofs.Steps.{byte_in}
use Rattle.journal_format.proofs.decode.read_last.Goals as goal

pub returns-clause-read : goal.returns-clause-read
returns-clause-read g c =
    let told = told_of Journal (g.S.Store.state c.args.store.now) in
    part_read told c.args.at 1 _ c.bytes_at.result.now c.bytes_at.ensures.fit c.bytes_at.ensures.long
    (window_tells told _ c.args.at 1 _ _ c.in_ok-reach.ensures.window c.in_ok-reach.ensures.has c.bytes_at.ensures.is)
    (λ whole there given. (nothing_fails, c.is_set.ensures ∙ ap (λ bytes. is_set (slice_index bytes 0)) (sym there) ∙ ap is_set (byte_in whole c.args.at 1 0 (omega arith)) ∙ ap (λ at. is_set (slice_index whole at)) (omega arith)))
