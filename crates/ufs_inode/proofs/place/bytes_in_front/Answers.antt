use Rattle.ufs_inode.proofs.Sound.{has_inodes}
use Rattle.ufs_inode.proofs.place.bytes_in_front.Goals as goal

pub nonzero_rem-number : goal.nonzero_rem-number
nonzero_rem-number c = (has_inodes c.args.sup.now c.requires).in_block
