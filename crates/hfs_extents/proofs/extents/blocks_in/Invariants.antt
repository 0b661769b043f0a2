use Rattle.std.proofs.Common.{◌≡◌, ◌+◌, ◌*◌, ◌≤◌, drop}
use Rattle.hfs_defs.specs.Forks.{blocks_in}
use Rattle.hfs_extents.proofs.extents.blocks_in.Given as goal

abbrev pub invariant-loop-extent : goal.invariant-loop-extent
invariant-loop-extent l = record {
  sum : blocks_in l.extents ≡ l.sum + blocks_in (drop l.extent-index l.extents);
  few : l.sum ≤ 4294967295 * l.extent-index;
}
