use Rattle.std.proofs.Common.{◌*◌}
use Rattle.ufs_inode_defs.specs.Superblock.{block_size}
use Rattle.ufs_names.specs.Passed.{HasPassed}
use Rattle.ufs_names.proofs.PlaceLaws.{AreTested}
use Rattle.ufs_names.proofs.places.are_placed.Given as goal

-- the blocks in front of a number have places
abbrev pub invariant-loop-index : goal.invariant-loop-index
invariant-loop-index l = record {
  tested : AreTested l.sup l.inode l.pieces l.index;
  passed : HasPassed l.pieces l.passed (l.index * block_size l.sup);
}
