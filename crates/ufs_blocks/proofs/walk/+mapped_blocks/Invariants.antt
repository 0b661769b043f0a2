use Rattle.std.proofs.Common.{◌≡◌, ◌+◌, ◌-◌, ◌*◌, drop}
use Rattle.disk_defs.specs.Disk.{told_image}
use Rattle.image_reads.specs.Steps.{KeptWithin}
use Rattle.image_reads.proofs.Coming.{IsCome}
use Rattle.image_defs.specs.Through.{through}
use Rattle.ufs_inode_defs.specs.Blocks.{mapped_blocks, pointers_in}
use Rattle.ufs_inode_defs.specs.Stream.{span}
use Rattle.ufs_blocks.specs.UnderWay.{IsUnderWay, HasGone}
use Rattle.ufs_blocks.proofs.walk.+mapped_blocks.Given as goal

abbrev pub decreases-mapped_blocks : goal.decreases-mapped_blocks
decreases-mapped_blocks g l = l.level

abbrev pub invariant-loop-number : goal.invariant-loop-number
invariant-loop-number g l = record {
  same : g.S.Store.state l.store ≡ g.S.Store.state l.fn.store;
  counted : g.S.Store.faults l.store ≡ g.S.Store.faults l.fn.store;
  come :
      IsCome (told_image (g.S.Store.state l.fn.store)) (mapped_blocks l.level l.sup l.size l.fn.laid l.pointer) l.fn.looked.items
      (through (mapped_blocks (l.level - 1) l.sup l.size) l.laid (drop l.number (pointers_in l.sup l.place l.bytes.items))) l.looked.items;
  way : IsUnderWay l.sup l.size l.laid;
  gone : HasGone l.sup l.size (l.number * span l.sup (l.level - 1)) l.initial.laid l.laid;
  kept : KeptWithin (l.sup.at + l.sup.len) l.fn.looked.items l.looked.items;
}
