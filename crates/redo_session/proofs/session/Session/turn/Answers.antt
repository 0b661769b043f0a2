use Rattle.std.proofs.Common.{◌≡◌, Bool, true, List, Option, Ok, Err, IfSome, ◌∷◌, refl, sym, subst, ap, ◌∙◌}
use Rattle.disk_defs.specs.declared.Fault.{Fault}
use Rattle.session_defs.specs.Script.{Call}
use Rattle.session_defs.specs.Session.{SessionValue, Ended, HasSizes, IsAnswer, IsMade, IsTurned, IsTurnCounted}
use Rattle.session_defs.specs.declared.Turn.{Turn}
use Rattle.session_defs.specs.declared.TurnFault.{TurnFault}
use Rattle.session_defs.specs.declared.TurnFault.TheVariants.{Device}
use Rattle.redo_session.specs.Steps.{call_of, left}
use Rattle.redo_session.specs.Sessions.{session_of}
use Rattle.redo_session.proofs.SessionLaws.{next_is, session_more, sizes_more, value_more, counted_ok, counted_err}
use Rattle.redo_session.proofs.session.Session.turn.Goals as goal

pub invariant_of-self-in-Ok : goal.invariant_of-self-in-Ok
invariant_of-self-in-Ok g c =
    let s = c.self.inside in
    session_more s.plan.now s.resumed s.marks.items s.len s.step c.next-after.result s.buffer.len s.cursor (call_of s.plan.now s.step) c.self.invariant
    (subst (λ (marks : List Bool). left s.plan.now marks s.step ≡ call_of s.plan.now s.step ∷ left s.plan.now marks c.next-after.result) c.deref.ensures.value c.next-after.ensures.left)
    c.make_call.new.cursor c.next-after.ensures.step (c.next-after.ensures.cursor s.cursor c.make_call.new.cursor c.self.invariant.has_cursor c.in-Ok.ensures.cursor)

pub returns-in-Ok : goal.returns-in-Ok
returns-in-Ok g c =
    let s = c.self.inside in
    let old = g.S.Store.state c.args.store.now in
    let new = g.S.Store.state c.make_call.new.store in
    let call = call_of s.plan.now s.step in
    let first = subst (λ (marks : List Bool). left s.plan.now marks s.step ≡ call ∷ left s.plan.now marks c.next-after.result) c.deref.ensures.value c.next-after.ensures.left in
    let view = subst (λ ended. session_of s.plan.now s.resumed s.marks.items s.step ended ≡ c.args.self.now) c.if-self.false c.self.view_is in
    let n = next_is s.plan.now s.resumed s.marks.items s.len s.step c.next-after.result s.buffer.len s.cursor call c.self.invariant first c.args.self.now view in
    let sizes : HasSizes c.args.self.now old = subst (λ (next : Option Call). IfSome next (λ _. HasSizes c.args.self.now old)) n c.requires in
    record {
      answer = subst (λ (next : Option Call). IsAnswer c.args.self.now next (Ok c.turn_of-turn.result)) (sym n) c.turn_of-turn.ensures;
      made = subst (λ (next : Option Call). IsMade {T = Turn} {E = TurnFault} next (Ok c.turn_of-turn.result) old new) (sym n) c.in-Ok.ensures.made;
      turned = subst (λ (next : Option Call). IsTurned {T = Turn} {E = TurnFault} next (Ok c.turn_of-turn.result) c.args.self.now (session_of s.plan.now s.resumed s.marks.items c.next-after.result s.has_ended)) (sym n)
          (ap (session_of s.plan.now s.resumed s.marks.items c.next-after.result) c.if-self.false
          ∙ value_more s.plan.now s.resumed s.marks.items s.len s.step c.next-after.result s.buffer.len s.cursor call c.self.invariant first c.args.self.now view);
      sizes = subst (λ (next : Option Call). IfSome next (λ _. HasSizes (session_of s.plan.now s.resumed s.marks.items c.next-after.result s.has_ended) new)) (sym n)
          (sizes_more s.plan.now s.resumed s.marks.items s.step c.next-after.result s.has_ended call.change c.args.self.now old new view sizes c.in-Ok.ensures.made c.next-after.ensures.sizes);
      counted = subst (λ (next : Option Call). IsTurnCounted {T = Turn} {E = TurnFault} next (Ok c.turn_of-turn.result) (g.S.Store.faults c.args.store.now) (g.S.Store.faults c.make_call.new.store)) (sym n)
          (counted_ok Fault TurnFault call.change c.in-Ok.field-0 c.turn_of-turn.result _ _ c.in-Ok.ensures.counted);
    }

pub returns-in-Err : goal.returns-in-Err
returns-in-Err g c =
    let s = c.self.inside in
    let old = g.S.Store.state c.args.store.now in
    let new = g.S.Store.state c.make_call.new.store in
    let call = call_of s.plan.now s.step in
    let first = subst (λ (marks : List Bool). left s.plan.now marks s.step ≡ call ∷ left s.plan.now marks c.next-after.result) c.deref.ensures.value c.next-after.ensures.left in
    let view = subst (λ ended. session_of s.plan.now s.resumed s.marks.items s.step ended ≡ c.args.self.now) c.if-self.false c.self.view_is in
    let n = next_is s.plan.now s.resumed s.marks.items s.len s.step c.next-after.result s.buffer.len s.cursor call c.self.invariant first c.args.self.now view in
    record {
      answer = subst (λ (next : Option Call). IsAnswer c.args.self.now next (Err Device)) (sym n) refl;
      made = subst (λ (next : Option Call). IsMade {T = Turn} {E = TurnFault} next (Err Device) old new) (sym n) c.in-Err.ensures.made;
      turned = subst (λ (next : Option Call). IsTurned {T = Turn} {E = TurnFault} next (Err Device) c.args.self.now (session_of s.plan.now s.resumed s.marks.items s.step true)) (sym n)
          (ap (λ (value : SessionValue). record value { stage = Ended }) c.self.view_is);
      sizes = subst (λ (next : Option Call). IfSome next (λ _. Unit {0})) (sym n) tt;
      counted = subst (λ (next : Option Call). IsTurnCounted {T = Turn} {E = TurnFault} next (Err Device) (g.S.Store.faults c.args.store.now) (g.S.Store.faults c.make_call.new.store)) (sym n)
          (counted_err (Unit {0}) Turn call.change c.in-Err.field-0 Device _ _ c.in-Err.ensures.counted);
    }
