use Rattle.std.proofs.Common.{refl, sym, ap, ◌∙◌}
use Rattle.session_defs.specs.Session.{next_call}
use Rattle.redo_session.specs.Sessions.{stage_of}
use Rattle.redo_session.proofs.TurnLaws.{goes_on, stops, calm_turn}
use Rattle.redo_session.proofs.whole.finish.Goals as goal

pub loop-session-preserved : goal.loop-session-preserved
loop-session-preserved g c =
    let running = sym c.is_over.ensures ∙ ap stage_of c.loop-session-test.true in
    let turn = c.in-Ok.ensures in
    record {
      under_way = goes_on c.args.session.now (g.S.Store.state c.args.store.now) c.loop-session.session (g.S.Store.state c.loop-session.store) c.loop-session.invariant.under_way running
          (next_call c.loop-session.session) c.in-Ok.field-0 c.turn.new.self (g.S.Store.state c.turn.new.store) refl turn.made turn.turned turn.sizes;
      calm = calm_turn (next_call c.loop-session.session) c.in-Ok.field-0 (g.S.Store.faults c.loop-session.store) (g.S.Store.faults c.turn.new.store) turn.counted ∙ c.loop-session.invariant.calm;
    }

pub returns-in-Err-clause-stopped : goal.returns-in-Err-clause-stopped
returns-in-Err-clause-stopped g c =
    let running = sym c.is_over.ensures ∙ ap stage_of c.loop-session-test.true in
    let turn = c.in-Err.ensures in
    stops c.args.session.now (g.S.Store.state c.args.store.now) c.loop-session.session (g.S.Store.state c.loop-session.store) c.loop-session.invariant.under_way running
    (next_call c.loop-session.session) c.in-Err.field-0 (g.S.Store.state c.turn.new.store) refl turn.made turn.answer
