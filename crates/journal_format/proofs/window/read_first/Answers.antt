use Rattle.std.proofs.Common.{arith}
use Rattle.std.proofs.lemmas.List.{length-take-le}
use Rattle.std.proofs.lemmas.Result.{on_ok_weaker}
use Rattle.disk_defs.specs.Disk.{told_of}
use Rattle.disk_defs.specs.declared.Area.TheVariants.{Journal}
use Rattle.journal_format.proofs.PartLaws.{first_read}
use Rattle.journal_format.proofs.window.read_first.Goals as goal

pub returns-clause-told : goal.returns-clause-told
returns-clause-told g c =
    on_ok_weaker c.read_at.result (first_read (told_of Journal (g.S.Store.state c.args.store.now)) c.read_at.new.buf _ c.args.at c.args.len (omega (arith, c.read_at.auto.buf, c.requires.room, length-take-le c.args.len c.args.room.now c.requires.room)))
    c.read_at.ensures.bytes
