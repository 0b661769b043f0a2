use Rattle.std.proofs.Common.{length}
use Rattle.ufs_files.specs.Groups.{AreGroupsOf}
use Rattle.ufs_files.proofs.RestLaws.{IsRestOf, taken}
use Rattle.ufs_files.proofs.group.groups_of.Given as goal

-- the groups of the names so far
abbrev pub invariant-loop-name : goal.invariant-loop-name
invariant-loop-name l = record { rest : IsRestOf l.initial.rest l.rest; groups : AreGroupsOf (taken l.initial.rest l.rest) l.groups.items }

abbrev pub decreases-loop-name : goal.decreases-loop-name
decreases-loop-name l = length l.rest
