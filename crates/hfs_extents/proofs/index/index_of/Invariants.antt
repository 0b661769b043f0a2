use Rattle.std.proofs.Common.{◌≡◌, ◌++◌, drop}
use Rattle.hfs_extents.specs.Index.{entries_from}
use Rattle.hfs_extents.proofs.index.index_of.Given as goal

abbrev pub invariant-loop-number : goal.invariant-loop-number
invariant-loop-number l = entries_from 0 l.records ≡ l.entries.items ++ entries_from l.number (drop l.number l.records)
