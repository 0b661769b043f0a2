-- Laws of sessions: which call comes next, and what a session is behind it.
use Rattle.std.proofs.Common.{◌≡◌, ℕ, suc, ◌+◌, Bool, true, false, if◌then◌else◌, Option, Some, Ok, Err, List, [], ◌∷◌, ◌++◌, length, drop, slice_get, refl, sym, ◌∙◌, ap, subst, arith, length-drop, append_assoc}
use Rattle.std.proofs.lemmas.List.{drop-drop}
use Rattle.disk_defs.specs.Story.{Change, Write, Cut, Sync}
use Rattle.disk_defs.specs.Disk.{Sizes, State, sizes_after, state_after}
use Rattle.disk_defs.specs.Count.{Faults}
use Rattle.disk_defs.specs.declared.Area.TheVariants.{Image, Journal}
use Rattle.rx_ranges.specs.declared.plan.Plan.{Plan}
use Rattle.journal_defs.specs.Form.{is_complete, first_journal, groups_of, journal_len}
use Rattle.journal_defs.specs.declared.TheConstants.{OPEN_GATE}
use Rattle.rx_ranges.specs.PlanChecks.{IsPlan}
use Rattle.session_defs.specs.declared.TheConstants.{PIECE}
use Rattle.session_defs.specs.declared.Turn.TheVariants.{Cleared, Armed, Wrote, Opened}
use Rattle.session_defs.specs.Script.{Call, sync, byte_call, writes, journal_calls, unmarked_calls, closing_calls, unmarked, script, rest_of}
use Rattle.session_defs.specs.Session.{SessionValue, HasSizes, new_session, calls_of, next_call, IsChangeCounted}
use Rattle.journal_format.specs.declared.piece.Cursor.{Cursor}
use Rattle.redo_session.specs.Steps.{left, left_from_group, HasCursor, HasJournal, IsStep, journal_at}
use Rattle.redo_session.specs.Sessions.{IsSession, start_of, made_at, session_of}
use Rattle.redo_session.specs.declared.step.Step.{Step}
use Rattle.redo_session.specs.declared.step.Step.TheVariants.{Clear}

-- an item stands where the rest of a list begins with it
item_at : {X : Type 0} (xs : List X) (n : ℕ) (x : X) (rest : List X) → drop n xs ≡ x ∷ rest → slice_get xs n ≡ Some x
item_at [] Prim.Native.Nat.zero x rest is = cc
item_at [] (suc n) x rest is = cc
item_at (y ∷ xs) Prim.Native.Nat.zero x rest is = cc
item_at (y ∷ xs) (suc n) x rest is = item_at xs n x rest is

module _ (plan : Plan) (resumed : Option Bool) (marks : List Bool) (len : ℕ) (step next : Step) (room : ℕ) (cursor : Cursor) (call : Call)
    (session : IsSession plan resumed marks len step room cursor) (first : left plan marks step ≡ call ∷ left plan marks next) where
  calls : List Call
  calls = calls_of plan (start_of resumed marks)

  -- the call that comes next is the first of those that are left
  pub next_is : (before : SessionValue) → session_of plan resumed marks step false ≡ before → next_call before ≡ Some call
  next_is before is =
      ap next_call (sym is) ∙ item_at (calls_of plan (start_of resumed marks)) (made_at plan resumed marks step) call (left plan marks next) (session.calls ∙ first)

  -- one more call was made
  pub made_more : made_at plan resumed marks next ≡ made_at plan resumed marks step + 1
  made_more = omega (
    arith,
    ap length first,
    ap length session.calls,
    length-drop (made_at plan resumed marks step) (calls_of plan (start_of resumed marks)),
  )

  -- the session behind it
  pub session_more : (after : Cursor) → IsStep plan next → HasCursor plan next after → IsSession plan resumed marks len next room after
  session_more after is_step has_cursor = record {
    is_plan = session.is_plan;
    groups = session.groups;
    len_is = session.len_is;
    is_step = is_step;
    calls = ap (λ n. drop n (calls_of plan (start_of resumed marks))) made_more
        ∙ sym (drop-drop 1 (made_at plan resumed marks step) (calls_of plan (start_of resumed marks))) ∙ ap (drop 1) (session.calls ∙ first);
    has_room = session.has_room;
    has_cursor = has_cursor;
  }

  pub value_more : (before : SessionValue) → session_of plan resumed marks step false ≡ before
      → session_of plan resumed marks next false ≡ record before { made = before.made + 1; journal = journal_at plan next }
  value_more before is =
      ap (λ made. record (session_of plan resumed marks next false) { made = made }) made_more
      ∙ ap (λ (value : SessionValue). record value { made = value.made + 1; journal = journal_at plan next }) is

-- what a change counts, whatever it answers where it succeeds, and where it fails
pub counted_ok : {T U : Type 0} (E F : Type 0) (change : Change) (x : T) (y : U) (before now : Faults)
    → IsChangeCounted {T = T} {E = E} change (Ok x) before now → IsChangeCounted {T = U} {E = F} change (Ok y) before now
counted_ok E F (Write Image at bytes) x y before now counted = counted
counted_ok E F (Write Journal at bytes) x y before now counted = counted
counted_ok E F (Cut len) x y before now counted = counted
counted_ok E F Sync x y before now counted = counted

pub counted_err : {E F : Type 0} (T U : Type 0) (change : Change) (x : E) (y : F) (before now : Faults)
    → IsChangeCounted {T = T} {E = E} change (Err x) before now → IsChangeCounted {T = U} {E = F} change (Err y) before now
counted_err T U (Write Image at bytes) x y before now counted = counted
counted_err T U (Write Journal at bytes) x y before now counted = counted
counted_err T U (Cut len) x y before now counted = counted
counted_err T U Sync x y before now counted = counted

image_stays : (change : Change) (sizes : Sizes) → (sizes_after change sizes).image ≡ sizes.image
image_stays (Write Image at bytes) sizes = refl
image_stays (Write Journal at bytes) sizes = refl
image_stays (Cut len) sizes = refl
image_stays Sync sizes = refl

-- the sizes behind a call are those with which the session goes on
pub sizes_more : (plan : Plan) (resumed : Option Bool) (marks : List Bool) (step next : Step) (ended : Bool) (change : Change) (before : SessionValue) (old new : State)
    → session_of plan resumed marks step false ≡ before → HasSizes before old → new ≡ state_after change old
    → ((sizes : Sizes) → HasJournal plan step sizes → HasJournal plan next (sizes_after change sizes)) → HasSizes (session_of plan resumed marks next ended) new
sizes_more plan resumed marks step next ended change before old new is sizes made more =
    let here = subst (λ (value : SessionValue). HasSizes value old) (sym is) sizes in
    let same : new.sizes ≡ sizes_after change old.sizes = ap (λ (state : State). state.sizes) made in
    record {
      image = ap (λ (sizes : Sizes). sizes.image) same ∙ image_stays change old.sizes ∙ here.image;
      journal = subst (λ (sizes : Sizes). HasJournal plan next sizes) (sym same) (more old.sizes here.journal);
    }

-- ---- sessions before their first turn

-- no call was made where all are left
none_made : (plan : Plan) (resumed : Option Bool) (marks : List Bool) (step : Step) → left plan marks step ≡ calls_of plan (start_of resumed marks)
    → made_at plan resumed marks step ≡ 0
none_made plan resumed marks step all = omega (arith, ap length all)

pub new_is : (plan : Plan) (resumed : Option Bool) (marks : List Bool) (len : ℕ) (step : Step) (room : ℕ) (cursor : Cursor) → IsPlan plan → length marks ≡ groups_of plan → len ≡ journal_len plan
    → IsStep plan step → left plan marks step ≡ calls_of plan (start_of resumed marks) → room ≡ PIECE → HasCursor plan step cursor → IsSession plan resumed marks len step room cursor
new_is plan resumed marks len step room cursor is_plan groups len_is is_step all has_room has_cursor = record {
  is_plan = is_plan;
  groups = groups;
  len_is = len_is;
  is_step = is_step;
  calls = ap (λ n. drop n (calls_of plan (start_of resumed marks))) (none_made plan resumed marks step all) ∙ sym all;
  has_room = has_room;
  has_cursor = has_cursor;
}

pub new_value : (plan : Plan) (resumed : Option Bool) (marks : List Bool) (step : Step) (journal : Option ℕ) → journal_at plan step ≡ journal
    → left plan marks step ≡ calls_of plan (start_of resumed marks) → session_of plan resumed marks step false ≡ new_session plan (start_of resumed marks) journal
new_value plan resumed marks step journal len all =
    ap (λ made. record (session_of plan resumed marks step false) { made = made }) (none_made plan resumed marks step all)
    ∙ ap (new_session plan (start_of resumed marks)) len

-- before the first turn all calls of the plan are left
pub script_left : (plan : Plan) (marks : List Bool) → marks ≡ unmarked plan → left plan marks Clear ≡ script plan
unfolding journal_calls
script_left plan marks none =
    let body = writes Wrote Journal 1 (drop 1 (first_journal plan)) in
    ap (λ marks. left plan marks Clear) none
    ∙ ap (λ calls. record { turn = Cleared; change = Cut 0 } ∷ sync ∷ byte_call Armed 0 0 ∷ sync ∷ calls)
    (sym (append_assoc body (sync ∷ byte_call Opened 0 OPEN_GATE ∷ sync ∷ []) (unmarked_calls plan 0 (unmarked plan) ++ closing_calls plan))
    ∙ sym (append_assoc (body ++ sync ∷ byte_call Opened 0 OPEN_GATE ∷ sync ∷ []) (unmarked_calls plan 0 (unmarked plan)) (closing_calls plan)))

-- where all marks are set no call is left
pub none_left : (plan : Plan) (groups : List Bool) (last : Bool) → is_complete groups last ≡ true → [] ≡ rest_of plan groups last
none_left plan groups last complete = ap (λ (all : Bool). if all then [] else (unmarked_calls plan 0 groups ++ closing_calls plan)) (sym complete)

pub some_left : (plan : Plan) (groups : List Bool) (last : Bool) → is_complete groups last ≡ false → left_from_group plan groups 0 ≡ rest_of plan groups last
some_left plan groups last unset = ap (λ (all : Bool). if all then [] else (unmarked_calls plan 0 groups ++ closing_calls plan)) (sym unset)
