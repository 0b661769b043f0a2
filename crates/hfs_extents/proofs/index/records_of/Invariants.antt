use Rattle.std.proofs.Common.{◌≡◌, ◌++◌, drop}
use Rattle.std.specs.List.{filter}
use Rattle.hfs_defs.specs.Forks.{is_of}
use Rattle.hfs_extents.proofs.IndexLaws.{left_of}
use Rattle.hfs_extents.proofs.index.records_of.Given as goal

-- the records so far, with those of the entries that are left, are the fork's
abbrev pub invariant-loop-entry : goal.invariant-loop-entry
invariant-loop-entry l = filter (is_of l.file l.fork_type) l.records ≡ l.found.items ++ left_of l.records l.fork_type (drop l.entry-index l.entry-items)
