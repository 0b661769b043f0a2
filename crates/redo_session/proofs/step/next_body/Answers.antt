use Rattle.std.proofs.Common.{arith, ap, ◌∙◌, ◌∷◌}
use Rattle.redo_session.specs.Steps.{call_of}
use Rattle.redo_session.specs.declared.step.Step.TheVariants.{Body}
use Rattle.redo_session.proofs.StepLaws.{body_piece, body_end}
use Rattle.redo_session.proofs.step.next_body.Goals as goal

pub returns-then-len-at-clause-left : goal.returns-then-len-at-clause-left
returns-then-len-at-clause-left c =
    body_piece c.args.plan.now c.args.marks.now c.args.at c.requires.step.1
    ∙ ap (λ calls. call_of c.args.plan.now (Body c.args.at) ∷ calls)
    (body_end c.args.plan.now c.args.marks.now _ (omega (arith, c.if-len-at.true, c.requires.len, c.requires.step.1)))

pub returns-clause-left : goal.returns-clause-left
returns-clause-left c = body_piece c.args.plan.now c.args.marks.now c.args.at c.requires.step.1
