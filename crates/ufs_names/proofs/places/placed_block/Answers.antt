use Rattle.std.proofs.Common.{◌*◌, ◌<◌, ap, arith}
use Rattle.ufs_inode_defs.specs.Superblock.{block_size}
use Rattle.ufs_inode_defs.proofs.BlockSteps.{block_begins}
use Rattle.ufs_names.proofs.places.placed_block.Goals as goal

pub overflow_mul-byte : goal.overflow_mul-byte
overflow_mul-byte c =
    let unit = c.block_size.ensures.value in
    let begins : c.args.index * block_size c.args.sup.now < c.args.inode.now.size = block_begins c.args.inode.now.size (block_size c.args.sup.now) c.args.index (omega (arith, unit)) c.requires.begins in
    omega (arith, begins, ap (λ n. c.args.index * n) unit)
