use Rattle.std.proofs.Common.{◌≡◌}
use Rattle.redo_session.proofs.TurnLaws.{IsUnderWay, turns_left}
use Rattle.redo_session.proofs.whole.finish.Given as goal

-- the session is under way, and no call failed
abbrev pub invariant-loop-session : goal.invariant-loop-session
invariant-loop-session g l = record {
  under_way : IsUnderWay l.fn.session (g.S.Store.state l.fn.store) l.session (g.S.Store.state l.store);
  calm : g.S.Store.faults l.store ≡ g.S.Store.faults l.fn.store;
}

abbrev pub decreases-loop-session : goal.decreases-loop-session
decreases-loop-session g l = turns_left l.session
