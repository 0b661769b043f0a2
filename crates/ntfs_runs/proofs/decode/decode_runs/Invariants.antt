use Rattle.std.proofs.Common.{◌-◌, length}
use Rattle.ntfs_runs.proofs.Walk.{IsWalked}
use Rattle.ntfs_runs.proofs.decode.decode_runs.Given as goal

-- the runs that are decoded, and those from the place on, are all
abbrev pub invariant-loop-runs : goal.invariant-loop-runs
invariant-loop-runs l = IsWalked l.fn.clusters l.bytes l.runs.items l.base l.total l.at

-- each run begins behind the one in front
abbrev pub decreases-loop-runs : goal.decreases-loop-runs
decreases-loop-runs l = length l.bytes - l.at
