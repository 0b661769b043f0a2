use Rattle.std.proofs.Common.{◌≡◌, ◌+◌, drop}
use Rattle.std.specs.List.{flat_map}
use Rattle.hfs_defs.specs.Forks.{first_passing, written_from, written_extents}
use Rattle.hfs_extents.proofs.extents.first_passing.Given as goal

abbrev pub invariant-loop-record : goal.invariant-loop-record
invariant-loop-record l =
    first_passing l.total (written_extents l.records l.fork l.place)
    ≡ first_passing l.total (flat_map (λ overflow. written_from (overflow.at + 12) overflow.extents) (drop l.record-index l.records))
