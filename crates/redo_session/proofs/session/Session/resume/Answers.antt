use Rattle.std.proofs.Common.{◌≡◌, ap, ◌∙◌, List, Bool, Some, length, subst, sym}
use Rattle.session_defs.specs.Script.{rest_of}
use Rattle.redo_session.specs.Steps.{left}
use Rattle.redo_session.proofs.SessionLaws.{new_is}
use Rattle.redo_session.proofs.StepLaws.{late_cursor}
use Rattle.redo_session.proofs.session.Session.resume.Goals as goal

pub invariant_of-result : goal.invariant_of-result
invariant_of-result c =
    let marks = c.in_ok-marks.marks.items in
    new_is c.args.state.now.plan (Some c.args.state.now.last) marks c.journal_len.result c.first_step-step.result c.in_ok-room_for_piece.field-0.len c.first.result c.requires.plan
    (ap length (c.in_ok-marks.ensures.items ∙ c.items.ensures) ∙ c.requires.groups) c.journal_len.ensures c.first_step-step.ensures.step
    (subst (λ (marks : List Bool). left c.args.state.now.plan marks c.first_step-step.result ≡ rest_of c.args.state.now.plan marks c.args.state.now.last) (sym (c.in_ok-marks.ensures.items ∙ c.items.ensures)) c.first_step-step.ensures.left) c.in_ok-room_for_piece.ensures (late_cursor c.args.state.now.plan c.first_step-step.result c.first.result c.first_step-step.ensures.step c.first_step-step.ensures.journal)
