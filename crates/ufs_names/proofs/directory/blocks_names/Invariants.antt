use Rattle.std.proofs.Common.{◌≡◌, ◌+◌, ◌*◌}
use Rattle.disk_defs.specs.Disk.{told_image}
use Rattle.image_reads.specs.Steps.{KeptWithin}
use Rattle.ufs_inode.specs.Block.{IsBlockOf}
use Rattle.ufs_inode_defs.specs.Superblock.{block_size}
use Rattle.ufs_names.specs.Passed.{HasPassed}
use Rattle.ufs_names.specs.Walked.{IsWalked}
use Rattle.ufs_names.proofs.BlocksLeft.{AreLeft}
use Rattle.ufs_names.proofs.directory.blocks_names.Given as goal

-- the names of the blocks so far were found, and those of the others are left
abbrev pub invariant-loop-index : goal.invariant-loop-index
invariant-loop-index g l = record {
  same : g.S.Store.state l.store ≡ g.S.Store.state l.fn.store;
  calm : g.S.Store.faults l.store ≡ g.S.Store.faults l.fn.store;
  walked : IsWalked l.sup l.walk;
  left : AreLeft (told_image (g.S.Store.state l.fn.store)) l.sup l.directory l.pieces l.fn.walk l.fn.seen.looked.items l.index l.walk l.seen.looked.items;
  passed : HasPassed l.pieces l.passed (l.index * block_size l.sup);
  kept : KeptWithin (l.sup.at + l.sup.len) l.fn.seen.looked.items l.seen.looked.items;
  inodes : IsBlockOf (told_image (g.S.Store.state l.store)) l.seen.inodes;
}
