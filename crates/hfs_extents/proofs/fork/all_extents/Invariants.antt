use Rattle.std.proofs.Common.{◌≡◌, ◌++◌, drop}
use Rattle.hfs_defs.specs.Forks.{extents_with}
use Rattle.hfs_defs.specs.ForkDamage.{extents_in}
use Rattle.hfs_extents.proofs.fork.all_extents.Given as goal

abbrev pub invariant-loop-record : goal.invariant-loop-record
invariant-loop-record l = extents_with l.records l.fork ≡ l.extents.items ++ extents_in (drop l.record-index l.records)
