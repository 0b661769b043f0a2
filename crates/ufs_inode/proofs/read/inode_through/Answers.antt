use Rattle.std.proofs.Common.{refl, ap, subst}
use Rattle.ufs_inode.specs.Block.{IsBlockOf}
use Rattle.disk_defs.specs.Disk.{told_image}
use Rattle.ufs_inode.proofs.Steps.{refused, named_told}
use Rattle.ufs_inode.proofs.KeptLaws.{held_is, nothing_known}
use Rattle.ufs_inode.proofs.read.inode_through.Goals as goal

pub returns-in_default-clause-told : goal.returns-in_default-clause-told
returns-in_default-clause-told g c = refused (told_image (g.S.Store.state c.args.store.now)) c.args.sup.now c.args.number c.args.entry (c.in_default.ensures.none refl)

pub returns-in_err-hold_inode-clause-told : goal.returns-in_err-hold_inode-clause-told
returns-in_err-hold_inode-clause-told g c =
    nothing_known (told_image (g.S.Store.state c.args.store.now)) c.args.sup.now c.args.number c.args.entry c.from_residual.result c.in_err-hold_inode.field-0.0
    c.from_residual.ensures.0 c.from_residual.ensures.1 c.in_err-hold_inode.ensures.calm

pub returns-clause-told : goal.returns-clause-told
returns-clause-told g c =
    named_told (told_image (g.S.Store.state c.args.store.now)) c.args.sup.now c.args.number c.args.entry _ c.held_inode.result c.tested.result (c.in-Some.ensures.has refl) c.in-Some.ensures.place
    (held_is (told_image (g.S.Store.state c.args.store.now)) c.args.sup.now c.hold_inode.new.block c.in-Some.at c.held_inode.result
    (subst (λ told. IsBlockOf told c.hold_inode.new.block) (ap told_image c.in_ok-hold_inode.ensures.same) c.in_ok-hold_inode.ensures.block) c.in_ok-hold_inode.ensures.holds c.held_inode.ensures.is) c.tested.ensures.answer
