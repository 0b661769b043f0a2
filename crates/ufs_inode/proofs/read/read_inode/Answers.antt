use Rattle.std.proofs.Common.{refl}
use Rattle.disk_defs.specs.Disk.{told_image}
use Rattle.ufs_inode.proofs.Steps.{refused, named_told}
use Rattle.ufs_inode.proofs.read.read_inode.Goals as goal

pub returns-in_default-clause-told : goal.returns-in_default-clause-told
returns-in_default-clause-told g c = refused (told_image (g.S.Store.state c.args.store.now)) c.args.sup.now c.args.number c.args.entry (c.in_default.ensures.none refl)

pub returns-clause-told : goal.returns-clause-told
returns-clause-told g c =
    named_told (told_image (g.S.Store.state c.args.store.now)) c.args.sup.now c.args.number c.args.entry _ c.in_ok-inode.inode c.tested.result (c.in-Some.ensures.has refl) c.in-Some.ensures.place
    c.in_ok-inode.ensures.told c.tested.ensures.answer
