use Rattle.std.proofs.Common.{ap, ◌∙◌, None, false, replicate, length, refl}
use Rattle.std.proofs.lemmas.List.{length-replicate}
use Rattle.journal_defs.specs.Form.{groups_of}
use Rattle.redo_session.specs.declared.step.Step.TheVariants.{Clear}
use Rattle.redo_session.proofs.SessionLaws.{new_is, new_value, script_left}
use Rattle.redo_session.proofs.session.Session.begin.Goals as goal

pub invariant_of-result : goal.invariant_of-result
invariant_of-result c =
    let marks = c.in_ok-unset_marks.ensures ∙ ap (λ n. replicate n false) c.group_count.ensures in
    new_is c.args.plan.now None c.in_ok-unset_marks.field-0.items c.journal_len.result Clear c.in_ok-room_for_piece.field-0.len c.first.result c.requires
    (ap length marks ∙ length-replicate (groups_of c.args.plan.now) false) c.journal_len.ensures tt (script_left c.args.plan.now c.in_ok-unset_marks.field-0.items marks) c.in_ok-room_for_piece.ensures (c.first.ensures 1)

pub returns : goal.returns
returns c =
    let marks = c.in_ok-unset_marks.ensures ∙ ap (λ n. replicate n false) c.group_count.ensures in
    new_value c.args.plan.now None c.in_ok-unset_marks.field-0.items Clear None refl (script_left c.args.plan.now c.in_ok-unset_marks.field-0.items marks)
