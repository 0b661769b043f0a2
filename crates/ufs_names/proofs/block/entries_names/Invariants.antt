use Rattle.std.proofs.Common.{◌≡◌, ◌+◌, drop}
use Rattle.disk_defs.specs.Disk.{told_image}
use Rattle.image_reads.specs.Steps.{KeptWithin}
use Rattle.image_reads.proofs.Coming.{IsCome}
use Rattle.image_defs.specs.Through.{through}
use Rattle.ufs_volume_defs.specs.Names.{entry_name}
use Rattle.ufs_inode.specs.Block.{IsBlockOf}
use Rattle.ufs_names.specs.Walked.{IsWalked}
use Rattle.ufs_names.proofs.block.entries_names.Given as goal

-- the names of the entries so far were found, and those of the others are left
abbrev pub invariant-loop-entry : goal.invariant-loop-entry
invariant-loop-entry g l = record {
  same : g.S.Store.state l.store ≡ g.S.Store.state l.fn.store;
  calm : g.S.Store.faults l.store ≡ g.S.Store.faults l.fn.store;
  walked : IsWalked l.sup l.walk;
  come :
      IsCome (told_image (g.S.Store.state l.fn.store)) (through (entry_name l.sup l.place.directory.now l.place.block.now) l.fn.walk l.entries) l.fn.seen.looked.items
      (through (entry_name l.sup l.place.directory.now l.place.block.now) l.walk (drop l.entry-index l.entries)) l.seen.looked.items;
  kept : KeptWithin (l.sup.at + l.sup.len) l.fn.seen.looked.items l.seen.looked.items;
  inodes : IsBlockOf (told_image (g.S.Store.state l.store)) l.seen.inodes;
}
