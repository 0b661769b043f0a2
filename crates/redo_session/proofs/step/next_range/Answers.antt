use Rattle.std.proofs.Common.{arith}
use Rattle.redo_session.proofs.StepLaws.{range_first, ranges_have_bytes}
use Rattle.redo_session.proofs.step.next_range.Goals as goal

pub returns-clause-step : goal.returns-clause-step
returns-clause-step c =
    (c.requires.group, omega (arith, c.if-range-group_end.false, c.group_end.ensures), ranges_have_bytes c.args.plan.now.ranges c.args.range c.requires.plan.ranges (omega (arith, c.if-range-group_end.false, c.group_end.ensures)))

pub returns-clause-left : goal.returns-clause-left
returns-clause-left c = range_first c.args.plan.now c.args.marks.now c.args.group c.args.range (omega (arith, c.if-range-group_end.false, c.group_end.ensures))
