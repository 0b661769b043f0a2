use Rattle.std.proofs.Common.{sym, ◌∙◌, arith}
use Rattle.redo_session.proofs.StepLaws.{marked_group, unmarked_group, groups_end}
use Rattle.redo_session.proofs.step.next_group.Goals as goal

pub loop-group-preserved : goal.loop-group-preserved
loop-group-preserved c = record {
  within = omega (arith, c.loop-group-test.true);
  left = c.loop-group.invariant.left ∙ marked_group c.args.plan.now c.args.marks.now c.loop-group.group c.loop-group-test.true c.if-not-marks-group.false;
}

pub returns-then-not-marks-group-clause-left : goal.returns-then-not-marks-group-clause-left
returns-then-not-marks-group-clause-left c =
    c.next_range.ensures.left ∙ sym (unmarked_group c.args.plan.now c.args.marks.now c.loop-group.group c.loop-group-test.true c.if-not-marks-group.true) ∙ sym c.loop-group.invariant.left

pub returns-clause-left : goal.returns-clause-left
returns-clause-left c = sym (groups_end c.args.plan.now c.args.marks.now c.loop-group.group c.loop-group-test.false) ∙ sym c.loop-group.invariant.left
