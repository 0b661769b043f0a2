use Rattle.std.proofs.Common.{sym, ◌∙◌}
use Rattle.disk_defs.specs.Disk.{told_image}
use Rattle.ufs_names.proofs.RootLaws.{root_stops, root_other, root_found}
use Rattle.ufs_names.proofs.root.root_inode.Goals as goal

pub returns-in_err-inode-clause-reads : goal.returns-in_err-inode-clause-reads
returns-in_err-inode-clause-reads g c =
    root_stops (told_image (g.S.Store.state c.args.store.now)) c.args.sup.now c.args.seen.now.looked.items c.look_at_inode.new.looked.items c.super_place.result c.from_residual.result c.in_err-inode.field-0.0
    c.from_residual.ensures.0 c.from_residual.ensures.1 c.super_place.ensures c.in_err-inode.ensures.reads

pub returns-then-not-is_directory-clause-reads : goal.returns-then-not-is_directory-clause-reads
returns-then-not-is_directory-clause-reads g c =
    root_other (told_image (g.S.Store.state c.args.store.now)) c.args.sup.now c.args.seen.now.looked.items c.look_at_inode.new.looked.items c.super_place.result c.in_ok-inode.inode
    (sym c.is_directory.ensures ∙ c.if-not-is_directory.true) c.super_place.ensures c.in_ok-inode.ensures.reads

pub returns-clause-reads : goal.returns-clause-reads
returns-clause-reads g c =
    root_found (told_image (g.S.Store.state c.args.store.now)) c.args.sup.now c.args.seen.now.looked.items c.look_at_inode.new.looked.items c.super_place.result c.in_ok-inode.inode
    (sym c.is_directory.ensures ∙ c.if-not-is_directory.false) c.super_place.ensures c.in_ok-inode.ensures.reads
