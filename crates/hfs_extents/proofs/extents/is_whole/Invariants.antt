use Rattle.std.proofs.Common.{◌≡◌, ◌+◌, ◌<◌, ◌^◌, drop}
use Rattle.hfs_defs.specs.Forks.{blocks_in, follow_on, extents_with}
use Rattle.hfs_defs.specs.ForkDamage.{extents_in}
use Rattle.hfs_extents.proofs.extents.is_whole.Given as goal

abbrev pub invariant-loop-record : goal.invariant-loop-record
invariant-loop-record l = record {
  follow : follow_on (blocks_in l.fork.extents) l.records ≡ follow_on l.sum (drop l.record-index l.records);
  sum : blocks_in (extents_with l.records l.fork) ≡ l.sum + blocks_in (extents_in (drop l.record-index l.records));
  few : l.sum < 2 ^ 36;
}
