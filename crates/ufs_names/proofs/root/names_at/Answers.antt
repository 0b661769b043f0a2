use Rattle.std.proofs.Common.{◌+◌, ap}
use Rattle.disk_defs.specs.Disk.{told_image}
use Rattle.ufs_names.proofs.WalkLaws.{kept_then}
use Rattle.ufs_names.proofs.RootLaws.{names_stop, names_go}
use Rattle.ufs_names.proofs.root.names_at.Goals as goal

pub returns-in_err-inode-clause-reads : goal.returns-in_err-inode-clause-reads
returns-in_err-inode-clause-reads g c =
    names_stop (told_image (g.S.Store.state c.args.store.now)) c.args.sup.now c.args.seen.now.looked.items c.root_inode.new.seen.looked.items c.from_residual.result c.in_err-inode.field-0.0
    c.from_residual.ensures.0 c.from_residual.ensures.1 c.in_err-inode.ensures.reads

pub returns-clause-reads : goal.returns-clause-reads
returns-clause-reads g c =
    names_go (told_image (g.S.Store.state c.args.store.now)) c.args.sup.now c.args.seen.now.looked.items c.root_inode.new.seen.looked.items (told_image (g.S.Store.state c.root_inode.new.store)) c.in_ok-inode.inode
    c.names_from.new.seen.looked.items c.names_from.result (ap told_image c.in_ok-inode.ensures.same) c.in_ok-inode.ensures.reads c.names_from.ensures.reads

pub returns-clause-kept : goal.returns-clause-kept
returns-clause-kept g c =
    kept_then c.names_from.result (c.args.sup.now.at + c.args.sup.now.len) c.args.seen.now.looked.items c.root_inode.new.seen.looked.items c.names_from.new.seen.looked.items c.in_ok-inode.ensures.kept c.names_from.ensures.kept
