use Rattle.std.proofs.Common.{◌≡◌, Bool, List, ◌∙◌, subst, sym}
use Rattle.redo_session.specs.Steps.{left, left_from_group}
use Rattle.redo_session.proofs.SessionLaws.{none_left, some_left}
use Rattle.redo_session.proofs.session.first_step.Goals as goal

pub returns-then-complete-clause-left : goal.returns-then-complete-clause-left
returns-then-complete-clause-left c = none_left c.args.state.now.plan c.args.state.now.groups c.args.state.now.last (sym c.complete.ensures ∙ c.if-complete.true)

pub returns-clause-left : goal.returns-clause-left
returns-clause-left c =
    let plan = c.args.state.now.plan in
    subst (λ (marks : List Bool). left plan marks c.next_group.result ≡ left_from_group plan marks 0) c.items.ensures c.next_group.ensures.left
    ∙ some_left plan c.args.state.now.groups c.args.state.now.last (sym c.complete.ensures ∙ c.if-complete.false)
