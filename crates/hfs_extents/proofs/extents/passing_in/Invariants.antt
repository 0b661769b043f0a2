use Rattle.std.proofs.Common.{◌≡◌, ◌+◌, ◌*◌, drop}
use Rattle.hfs_defs.specs.Forks.{first_passing, written_from}
use Rattle.hfs_extents.proofs.extents.passing_in.Given as goal

abbrev pub invariant-loop-extent : goal.invariant-loop-extent
invariant-loop-extent l = record {
  place : l.place ≡ l.at + 8 * l.extent-index;
  same : first_passing l.total (written_from l.at l.extents) ≡ first_passing l.total (written_from l.place (drop l.extent-index l.extents));
}
