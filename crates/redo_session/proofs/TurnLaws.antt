-- Laws of sessions, turn after turn.
use Rattle.std.proofs.Common.{◌≡◌, ℕ, suc, ◌+◌, ◌-◌, ◌≤◌, Option, None, Some, IfSome, Ok, Err, List, [], ◌∷◌, length, take, slice_get, sym, ◌∙◌, ap, subst, arith}
use Rattle.disk_defs.specs.Story.{Change, Write, Cut, Sync}
use Rattle.disk_defs.specs.Count.{Faults}
use Rattle.disk_defs.specs.declared.Area.TheVariants.{Image, Journal}
use Rattle.disk_defs.specs.Disk.{State, state_after, state_after_all}
use Rattle.session_defs.specs.Script.{Call, changes_of}
use Rattle.session_defs.specs.Session.{SessionValue, Stage, Running, Ended, HasSizes, IsMade, IsTurned, IsStopped, IsLeft, IsAnswer, IsTurnCounted, IsChangeCounted, idle_answer, calls_of, next_call, call_at_stage}
use Rattle.session_defs.specs.declared.Turn.{Turn}
use Rattle.session_defs.specs.declared.TurnFault.{TurnFault}

-- how many turns a session has left: one for each call, and the one that finishes it
abbrev pub turns_at : Stage → ℕ → ℕ
turns_at Running calls = calls + 1
turns_at Ended calls = 0

abbrev pub turns_left : SessionValue → ℕ
turns_left session = turns_at session.stage (length (calls_of session.plan session.start) - session.made)

-- A session under way, which began so with a store in this state: the calls that it has made are the first of its calls, and no
-- call is left where it is over.
pub record IsUnderWay (first : SessionValue) (entry : State) (session : SessionValue) (state : State) : Type 0 where
  pub plan : session.plan ≡ first.plan
  pub start : session.start ≡ first.start
  pub made : state ≡ state_after_all (take session.made (changes_of (calls_of first.plan first.start))) entry
  pub whole : session.stage ≡ Ended → length (calls_of first.plan first.start) ≤ session.made
  pub sizes : HasSizes session state

-- one more change of a list
one_more_change : (calls : List Call) (made : ℕ) (call : Call) (first : State) → slice_get calls made ≡ Some call
    → state_after_all (take (made + 1) (changes_of calls)) first ≡ state_after call.change (state_after_all (take made (changes_of calls)) first)
one_more_change [] made call first is = cc
one_more_change (one ∷ calls) Prim.Native.Nat.zero call first is =
    let same : one ≡ call = cc in
    ap (λ (call : Call). state_after call.change first) same
one_more_change (one ∷ calls) (suc made) call first is =
    ap (λ n. state_after_all (take n (changes_of (one ∷ calls))) first) (behind made) ∙ one_more_change calls made call (state_after one.change first) is
  where
    behind : (n : ℕ) → suc n + 1 ≡ suc (n + 1)
    behind n = omega arith

past_end : {X : Type 0} (xs : List X) (n : ℕ) → slice_get xs n ≡ None → length xs ≤ n
past_end [] n is = omega arith
past_end (x ∷ xs) Prim.Native.Nat.zero is = cc
past_end (x ∷ xs) (suc n) is = omega (arith, past_end xs n is)

change_at : (calls : List Call) (n : ℕ) (call : Call) → slice_get calls n ≡ Some call → slice_get (changes_of calls) n ≡ Some call.change
change_at [] n call is = cc
change_at (one ∷ calls) Prim.Native.Nat.zero call is =
    let same : one ≡ call = cc in
    ap (λ (call : Call). Some call.change) same
change_at (one ∷ calls) (suc n) call is = change_at calls n call is

module _ (first : SessionValue) (entry : State) (before : SessionValue) (old : State) (under_way : IsUnderWay first entry before old) (running : before.stage ≡ Running) where
  -- the call that comes next is that of the first session's calls
  next_is : (next : Option Call) → next_call before ≡ next → slice_get (calls_of first.plan first.start) before.made ≡ next
  next_is next is =
      ap (λ plan. slice_get (calls_of plan first.start) before.made) (sym under_way.plan) ∙ ap (λ start. slice_get (calls_of before.plan start) before.made) (sym under_way.start)
      ∙ ap (λ stage. call_at_stage stage (slice_get (calls_of before.plan before.start) before.made)) (sym running) ∙ is

  -- a turn that succeeds goes on
  pub goes_on : (next : Option Call) (turn : Turn) (after : SessionValue) (new : State) → next_call before ≡ next
      → IsMade {T = Turn} {E = TurnFault} next (Ok turn) old new → IsTurned {T = Turn} {E = TurnFault} next (Ok turn) before after → IfSome next (λ _. HasSizes after new) → IsUnderWay first entry after new
  goes_on None turn after new is made turned sizes =
      subst (λ (session : SessionValue). IsUnderWay first entry session new) (sym turned) (subst (λ (state : State). IsUnderWay first entry (record before { stage = Ended }) state) (sym made) (record {
        plan = under_way.plan;
        start = under_way.start;
        made = under_way.made;
        whole = λ ended. past_end (calls_of first.plan first.start) before.made (next_is None is);
        sizes = record { image = under_way.sizes.image; journal = under_way.sizes.journal };
      }))
  goes_on (Some call) turn after new is made turned sizes = record {
    plan = ap (λ (session : SessionValue). session.plan) turned ∙ under_way.plan;
    start = ap (λ (session : SessionValue). session.start) turned ∙ under_way.start;
    made = made ∙ ap (state_after call.change) under_way.made
        ∙ sym (one_more_change (calls_of first.plan first.start) before.made call entry (next_is (Some call) is))
        ∙ ap (λ n. state_after_all (take n (changes_of (calls_of first.plan first.start))) entry) (sym (ap (λ (session : SessionValue). session.made) turned));
    whole = λ ended.
        let stages : Running ≡ Ended = sym running ∙ sym (ap (λ (session : SessionValue). session.stage) turned) ∙ ended in
        cc;
    sizes = sizes;
  }

  -- a turn that fails stops it
  pub stops : (next : Option Call) (fault : TurnFault) (new : State) → next_call before ≡ next → IsMade {T = Turn} {E = TurnFault} next (Err fault) old new
      → IsAnswer before next (Err fault) → IsStopped (changes_of (calls_of first.plan first.start)) entry new
  stops None fault new is made answer = absurd (no_fault before.stage running fault answer)
    where
      no_fault : (stage : Stage) → stage ≡ Running → (fault : TurnFault) → Err fault ≡ idle_answer stage → ⊥
      no_fault Running is fault answer = cc
      no_fault Ended is fault answer = cc
  stops (Some call) fault new is made answer =
      (before.made, call.change, change_at (calls_of first.plan first.start) before.made call (next_is (Some call) is), subst (λ (state : State). IsLeft call.change state new) under_way.made made)

-- what a turn that succeeded counts
pub calm_turn : (next : Option Call) (turn : Turn) (before now : Faults) → IsTurnCounted {T = Turn} {E = TurnFault} next (Ok turn) before now → now ≡ before
calm_turn None turn before now counted = counted
calm_turn (Some call) turn before now counted = by_change call.change counted
  where
    by_change : (change : Change) → IsChangeCounted {T = Turn} {E = TurnFault} change (Ok turn) before now → now ≡ before
    by_change (Write Image at bytes) counted = counted
    by_change (Write Journal at bytes) counted = counted
    by_change (Cut len) counted = counted
    by_change Sync counted = counted
