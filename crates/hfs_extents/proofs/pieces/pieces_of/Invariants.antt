use Rattle.std.proofs.Common.{◌≡◌, ◌+◌, ◌*◌, drop}
use Rattle.piece_defs.specs.Places.{AreWithin}
use Rattle.hfs_defs.specs.Forks.{blocks_in, pieces_from, pieces_of}
use Rattle.hfs_extents.proofs.PieceLaws.{puts}
use Rattle.hfs_extents.proofs.pieces.pieces_of.Given as goal

-- the pieces so far, with those that are left, are the content's
abbrev pub invariant-loop-extent : goal.invariant-loop-extent
invariant-loop-extent l = record {
  puts : puts l.pieces.items (pieces_from l.header l.size l.from (drop l.extent-index l.extents)) ≡ pieces_of l.header l.size l.extents;
  passed : l.from + blocks_in (drop l.extent-index l.extents) * l.header.block_size ≡ blocks_in l.extents * l.header.block_size;
  within : AreWithin (l.header.at + l.header.len) l.pieces.items;
}
