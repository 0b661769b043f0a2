use Rattle.std.proofs.Common.{◌≡◌, ◌+◌, drop}
use Rattle.disk_defs.specs.Disk.{told_image}
use Rattle.image_reads.specs.Steps.{KeptWithin}
use Rattle.image_reads.proofs.Coming.{IsCome}
use Rattle.image_defs.specs.Through.{through}
use Rattle.ufs_volume_defs.specs.Names.{directory_names}
use Rattle.ufs_inode.specs.Block.{IsBlockOf}
use Rattle.ufs_names.specs.Walked.{IsWalked}
use Rattle.ufs_names.proofs.levels.level_names.Given as goal

-- the names of the directories so far were found, and those of the others are left
abbrev pub invariant-loop-directory : goal.invariant-loop-directory
invariant-loop-directory g l = record {
  same : g.S.Store.state l.store ≡ g.S.Store.state l.fn.store;
  calm : g.S.Store.faults l.store ≡ g.S.Store.faults l.fn.store;
  walked : IsWalked l.sup l.walk;
  come :
      IsCome (told_image (g.S.Store.state l.fn.store)) (through (directory_names l.sup) l.fn.walk l.directories) l.fn.seen.looked.items
      (through (directory_names l.sup) l.walk (drop l.directory-index l.directories)) l.seen.looked.items;
  kept : KeptWithin (l.sup.at + l.sup.len) l.fn.seen.looked.items l.seen.looked.items;
  inodes : IsBlockOf (told_image (g.S.Store.state l.store)) l.seen.inodes;
}
