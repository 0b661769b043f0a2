use Rattle.std.proofs.Common.{◌≡◌, ◌+◌, ◌*◌, ◌++◌, drop}
use Rattle.std.specs.List.{All}
use Rattle.hfs_defs.specs.Forks.{blocks_in, rests_from}
use Rattle.hfs_extents.specs.Extents.{EndsBy}
use Rattle.hfs_extents.proofs.pieces.rests_of.Given as goal

-- the ranges so far, with those that are left, are all
abbrev pub invariant-loop-extent : goal.invariant-loop-extent
invariant-loop-extent l = record {
  whole : rests_from l.header l.size 0 l.extents ≡ l.rests.items ++ rests_from l.header l.size l.from (drop l.extent-index l.extents);
  passed : l.from + blocks_in (drop l.extent-index l.extents) * l.header.block_size ≡ blocks_in l.extents * l.header.block_size;
  within : All (EndsBy (l.header.at + l.header.len)) l.rests.items;
}
