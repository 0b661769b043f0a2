use Rattle.std.proofs.Common.{[], ◌∷◌, ◌++◌, ◌∙◌, subst}
use Rattle.disk_defs.specs.Disk.{told_image}
use Rattle.image_reads.specs.Steps.{SameBytes}
use Rattle.ufs_inode.proofs.Steps.{keeps_inode}
use Rattle.ufs_inode.proofs.read.look_at_inode.Goals as goal

pub returns-clause-reads : goal.returns-clause-reads
returns-clause-reads g c =
    keeps_inode (told_image (g.S.Store.state c.args.store.now)) c.args.sup.now c.args.number c.args.entry c.in_ok-inode.inode c.args.looked.now.items c.keep.new.looked.items
    c.in_ok-inode.ensures.within c.in_ok-inode.ensures.place c.in_ok-inode.ensures.told
    (subst (λ len. SameBytes c.keep.new.looked.items (c.args.looked.now.items ++ record { at = c.in_ok-inode.inode.at; len = len } ∷ [])) (c.from.ensures ∙ c.inode_len.ensures) c.in_ok-keep.ensures.bytes)
