use Rattle.std.proofs.Common.{arith, ap, sym, ◌∙◌, ◌∷◌, List, slice_index_or}
use Rattle.redo_session.specs.Steps.{call_of, no_claim}
use Rattle.range_defs.specs.declared.Claim.{Claim}
use Rattle.redo_session.specs.declared.step.Step.TheVariants.{Fill}
use Rattle.redo_session.proofs.StepLaws.{fill_piece, last_piece}
use Rattle.redo_session.proofs.step.next_fill.Goals as goal

pub returns-then-claim-done-clause-left : goal.returns-then-claim-done-clause-left
returns-then-claim-done-clause-left c =
    last_piece c.args.plan.now c.args.marks.now c.args.group c.args.range c.args.done c.requires.step.2
    (omega (arith, c.if-claim-done.true, ap (λ (list : List Claim). (slice_index_or list c.args.range no_claim).range.len) c.items.ensures.items, c.requires.step.2))
    ∙ ap (λ calls. call_of c.args.plan.now (Fill c.args.group c.args.range c.args.done) ∷ calls) (sym c.next_range.ensures.left)

pub returns-clause-left : goal.returns-clause-left
returns-clause-left c = fill_piece c.args.plan.now c.args.marks.now c.args.group c.args.range c.args.done
    (omega (arith, c.if-claim-done.false, ap (λ (list : List Claim). (slice_index_or list c.args.range no_claim).range.len) c.items.ensures.items))
