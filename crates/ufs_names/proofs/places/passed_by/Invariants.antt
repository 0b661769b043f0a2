use Rattle.std.proofs.Common.{◌-◌, length}
use Rattle.ufs_names.specs.Passed.{HasPassed}
use Rattle.ufs_names.proofs.places.passed_by.Given as goal

abbrev pub invariant-loop-passed : goal.invariant-loop-passed
invariant-loop-passed l = HasPassed l.pieces l.passed l.byte

abbrev pub decreases-loop-passed : goal.decreases-loop-passed
decreases-loop-passed l = length l.pieces - l.passed
