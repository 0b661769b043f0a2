use Rattle.std.proofs.Common.{◌≡◌, ◌-◌, ◌≤◌, length}
use Rattle.redo_session.specs.Steps.{left_from_group}
use Rattle.redo_session.proofs.step.next_group.Given as goal

-- the groups that were passed over leave no call
abbrev pub invariant-loop-group : goal.invariant-loop-group
invariant-loop-group l = record {
  within : l.group ≤ length l.marks;
  left : left_from_group l.plan l.marks l.fn.first ≡ left_from_group l.plan l.marks l.group;
}

abbrev pub decreases-loop-group : goal.decreases-loop-group
decreases-loop-group l = length l.marks - l.group
