use Rattle.std.proofs.Common.{◌≡◌, drop}
use Rattle.image_defs.specs.Through.{through}
use Rattle.ufs_inode_defs.specs.Blocks.{mapped_blocks}
use Rattle.ufs_inode_defs.specs.Stream.{pointers_from}
use Rattle.ufs_blocks.specs.UnderWay.{IsUnderWay, HasGone}
use Rattle.ufs_blocks.proofs.streams.direct_blocks.Given as goal

abbrev pub invariant-loop-number : goal.invariant-loop-number
invariant-loop-number l = record {
  so_far : through (mapped_blocks 0 l.sup l.size) l.initial.laid (pointers_from l.at l.len l.values) ≡ through (mapped_blocks 0 l.sup l.size) l.laid (drop l.number (pointers_from l.at l.len l.values));
  way : IsUnderWay l.sup l.size l.laid;
  gone : HasGone l.sup l.size l.number l.initial.laid l.laid;
}
