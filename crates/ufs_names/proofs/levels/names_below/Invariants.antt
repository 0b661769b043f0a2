use Rattle.std.proofs.Common.{◌≡◌, ◌+◌, ◌-◌}
use Rattle.std.specs.List.{All}
use Rattle.disk_defs.specs.Disk.{told_image}
use Rattle.image_reads.specs.Steps.{KeptWithin}
use Rattle.image_reads.proofs.Coming.{IsCome}
use Rattle.ufs_volume_defs.specs.Names.{names_below}
use Rattle.ufs_inode.specs.Block.{IsBlockOf}
use Rattle.ufs_names.specs.Walked.{IsNamed, IsWalked}
use Rattle.ufs_names.proofs.levels.names_below.Given as goal

-- the names of the depths so far were found
abbrev pub invariant-loop-depth : goal.invariant-loop-depth
invariant-loop-depth g l = record {
  same : g.S.Store.state l.store ≡ g.S.Store.state l.fn.store;
  calm : g.S.Store.faults l.store ≡ g.S.Store.faults l.fn.store;
  walked : IsWalked l.sup l.walk;
  named : All (IsNamed l.sup) l.directories;
  come :
      IsCome (told_image (g.S.Store.state l.fn.store)) (names_below 1025 l.sup l.fn.walk l.fn.directories) l.fn.seen.looked.items
      (names_below (1025 - l._depth) l.sup l.walk l.directories) l.seen.looked.items;
  kept : KeptWithin (l.sup.at + l.sup.len) l.fn.seen.looked.items l.seen.looked.items;
  inodes : IsBlockOf (told_image (g.S.Store.state l.store)) l.seen.inodes;
}
