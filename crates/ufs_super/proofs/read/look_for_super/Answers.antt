use Rattle.disk_defs.specs.Disk.{told_image}
use Rattle.ufs_super.proofs.Looks.{keeps_looks}
use Rattle.ufs_super.proofs.read.look_for_super.Goals as goal

pub returns-clause-reads : goal.returns-clause-reads
returns-clause-reads g c =
    keeps_looks (told_image (g.S.Store.state c.args.store.now)) c.args.at c.args.len c.in_ok-sup.sup c.args.looked.now.items c.keep_looks.new.looked.items
    c.in_ok-sup.ensures.told c.in_ok-sup.ensures.whole c.in_ok-keep_looks.ensures.kept
