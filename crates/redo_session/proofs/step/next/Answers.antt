use Rattle.redo_session.proofs.StepLaws.{body_sizes}
use Rattle.redo_session.proofs.step.next.Goals as goal

pub returns-in-Body-clause-sizes : goal.returns-in-Body-clause-sizes
returns-in-Body-clause-sizes c =
    λ sizes here. body_sizes c.args.plan.now c.args.step c.in-Body.at _ sizes c.in-Body.is c.requires.step c.next_body.ensures.journal here
