-- What is seen of a session, and what is so of each.
use Rattle.std.specs.Prelude.{◌≡◌, ℕ, ◌-◌, Bool, true, false, Option, None, Some, drop, List, length}
use Rattle.journal_defs.specs.Form.{groups_of, journal_len}
use Rattle.rx_ranges.specs.PlanChecks.{IsPlan}
use Rattle.rx_ranges.specs.declared.plan.Plan.{Plan}
use Rattle.session_defs.specs.Session.{Start, Begun, Resumed, Stage, Running, Ended, SessionValue, calls_of}
use Rattle.session_defs.specs.declared.TheConstants.{PIECE}
use Rattle.redo_session.specs.Steps.{left, HasCursor, IsStep, journal_at}
use Rattle.journal_format.specs.declared.piece.Cursor.{Cursor}
use Rattle.redo_session.specs.declared.step.Step.{Step}

-- how a session began: one that was resumed has a last mark
abbrev pub start_of : Option Bool → List Bool → Start
start_of None marks = Begun
start_of (Some last) marks = Resumed marks last

abbrev pub stage_of : Bool → Stage
stage_of true = Ended
stage_of false = Running

-- how many calls were made where these are left
abbrev pub made_at : Plan → Option Bool → List Bool → Step → ℕ
made_at plan resumed marks step = length (calls_of plan (start_of resumed marks)) - length (left plan marks step)

abbrev pub session_of : Plan → Option Bool → List Bool → Step → Bool → SessionValue
session_of plan resumed marks step has_ended = record {
  plan = plan;
  start = start_of resumed marks;
  made = made_at plan resumed marks step;
  stage = stage_of has_ended;
  journal = journal_at plan step;
}

-- a session of a plan, with a mark for each of its groups, the length of its journal, and room for a piece; the calls that are
-- left at its step are those that it hasn't made
pub record IsSession (plan : Plan) (resumed : Option Bool) (marks : List Bool) (len : ℕ) (step : Step) (room : ℕ) (cursor : Cursor) : Type 0 where
  pub is_plan : IsPlan plan
  pub groups : length marks ≡ groups_of plan
  pub len_is : len ≡ journal_len plan
  pub is_step : IsStep plan step
  pub calls : drop (made_at plan resumed marks step) (calls_of plan (start_of resumed marks)) ≡ left plan marks step
  pub has_room : room ≡ PIECE
  pub has_cursor : HasCursor plan step cursor
