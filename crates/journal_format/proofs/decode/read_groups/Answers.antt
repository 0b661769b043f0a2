use Rattle.std.proofs.Common.{◌∙◌, ap, map, sym}
use Rattle.disk_defs.specs.Disk.{told_of}
use Rattle.disk_defs.specs.declared.Area.TheVariants.{Journal}
use Rattle.journal_defs.specs.Form.{is_set}
use Rattle.journal_defs.proofs.Passing.{nothing_fails}
use Rattle.journal_format.proofs.PartLaws.{part_read, window_tells}
use Rattle.journal_format.proofs.decode.read_groups.Goals as goal

pub returns-clause-read : goal.returns-clause-read
returns-clause-read g c =
    let told = told_of Journal (g.S.Store.state c.args.store.now) in
    part_read told c.args.at c.args.groups _ c.bytes_at.result.now c.bytes_at.ensures.fit c.bytes_at.ensures.long
    (window_tells told _ c.args.at c.args.groups _ _ c.in_ok-reach.ensures.window c.in_ok-reach.ensures.has c.bytes_at.ensures.is)
    (λ whole there given. (nothing_fails, c.from_vec.ensures ∙ c.in_ok-marks.ensures ∙ ap (map is_set) (sym there)))
