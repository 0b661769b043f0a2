use Rattle.ufs_inode.proofs.Sound.{has_inodes}
use Rattle.ufs_inode.proofs.place.inode_place.Goals as goal

pub nonzero_div-number : goal.nonzero_div-number
nonzero_div-number c = (has_inodes c.args.sup.now c.requires.sound).in_group

pub nonzero_rem-number : goal.nonzero_rem-number
nonzero_rem-number c = (has_inodes c.args.sup.now c.requires.sound).in_group

pub nonzero_div-number-2 : goal.nonzero_div-number-2
nonzero_div-number-2 c = (has_inodes c.args.sup.now c.requires.sound).in_block
