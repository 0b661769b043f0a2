-- What contracts see of a session, and what a turn of it does.
use Rattle.std.specs.Prelude.{◌≡◌, ℕ, ◌+◌, Bool, Option, None, Some, IfSome, Result, Ok, Err, List, slice_get, ◌≤◌, ◌⊎◌, take}
use Rattle.disk_defs.specs.Story.{Change, Write, Cut, Sync}
use Rattle.disk_defs.specs.Disk.{State, state_after, state_after_all, IsAfterFailed}
use Rattle.disk_defs.specs.Count.{Faults, Rose, IsCountedIn, IsCountedInBoth}
use Rattle.disk_defs.specs.declared.Area.TheVariants.{Journal}
use Rattle.rx_ranges.specs.declared.plan.Plan.{Plan}
use Rattle.session_defs.specs.Script.{Call, script, rest_of}
use Rattle.session_defs.specs.declared.Turn.{Turn}
use Rattle.session_defs.specs.declared.Turn.TheVariants.{Finished}
use Rattle.session_defs.specs.declared.TurnFault.{TurnFault}
use Rattle.session_defs.specs.declared.TurnFault.TheVariants.{Device, Over}

-- how a session began: with the whole plan, or with an open journal that had these marks
pub data Start : Type 0 where
  Begun : Start
  Resumed : List Bool → Bool → Start

-- whether a session has turns to come, or has ended: it finished, or a call of it failed
pub data Stage : Type 0 where
  Running : Stage
  Ended : Stage

-- a session: its plan, how it began, how many calls it has made, whether it has ended, and the length that the journal has by its
-- calls; that is open before the first call of one that began with the whole plan
pub record SessionValue : Type 0 where
  pub plan : Plan
  pub start : Start
  pub made : ℕ
  pub stage : Stage
  pub journal : Option ℕ

-- all calls of a session
abbrev pub calls_of : Plan → Start → List Call
calls_of plan Begun = script plan
calls_of plan (Resumed groups last) = rest_of plan groups last

-- a session before its first turn
abbrev pub new_session : Plan → Start → Option ℕ → SessionValue
new_session plan start journal = record { plan = plan; start = start; made = 0; stage = Running; journal = journal }

-- the call that a turn makes, if it makes one
abbrev pub call_at_stage : Stage → Option Call → Option Call
call_at_stage Running call = call
call_at_stage Ended call = None

abbrev pub next_call : SessionValue → Option Call
next_call session = call_at_stage session.stage (slice_get (calls_of session.plan session.start) session.made)

-- a store has the sizes with which a session goes on: the image that of the plan, and the journal that which the calls left
pub record HasSizes (session : SessionValue) (state : State) : Type 0 where
  pub image : state.sizes.image ≡ session.plan.image_len
  pub journal : IfSome session.journal (λ len. state.sizes.journal ≡ len)

-- what a turn without a call answers: that the session is finished, and later that it was over before
abbrev pub idle_answer : Stage → Result Turn TurnFault
idle_answer Running = Ok Finished
idle_answer Ended = Err Over

-- What a turn answers: the name of the call that it makes, or Device.
abbrev pub IsAnswer : SessionValue → Option Call → Result Turn TurnFault → Type 0
IsAnswer session None result = result ≡ idle_answer session.stage
IsAnswer session (Some call) (Ok turn) = turn ≡ call.turn
IsAnswer session (Some call) (Err fault) = fault ≡ Device

-- a call that failed left this: a sync changes nothing
abbrev pub IsLeft : Change → State → State → Type 0
IsLeft (Write area at bytes) before now = IsAfterFailed (Write area at bytes) before now
IsLeft (Cut len) before now = IsAfterFailed (Cut len) before now
IsLeft Sync before now = now ≡ before

-- what a turn leaves of the store
abbrev pub IsMade : {T E : Type 0} → Option Call → Result T E → State → State → Type 0
IsMade None result before now = now ≡ before
IsMade (Some call) (Ok answer) before now = now ≡ state_after call.change before
IsMade (Some call) (Err fault) before now = IsLeft call.change before now

-- what a change that came out so counts
abbrev pub IsChangeCounted : {T E : Type 0} → Change → Result T E → Faults → Faults → Type 0
IsChangeCounted (Write area at bytes) result before now = IsCountedIn area result before now
IsChangeCounted (Cut len) result before now = IsCountedIn Journal result before now
IsChangeCounted Sync result before now = IsCountedInBoth result before now

-- what a turn counts
abbrev pub IsTurnCounted : {T E : Type 0} → Option Call → Result T E → Faults → Faults → Type 0
IsTurnCounted None result before now = now ≡ before
IsTurnCounted (Some call) result before now = IsChangeCounted call.change result before now

-- what a turn leaves of the session: one more call was made, or it has ended
abbrev pub IsTurned : {T E : Type 0} → Option Call → Result T E → SessionValue → SessionValue → Type 0
IsTurned None result before now = now ≡ record before { stage = Ended }
IsTurned (Some call) (Ok answer) before now = now ≡ record before { made = before.made + 1; journal = now.journal }
IsTurned (Some call) (Err fault) before now = now ≡ record before { stage = Ended }

-- Of changes that were made one after the other, one failed: those before it were made, and this is what it left.
abbrev pub IsStopped : List Change → State → State → Type 0
IsStopped changes before now =
    (made : ℕ) × (change : Change) × (slice_get changes made ≡ Some change) × IsLeft change (state_after_all (take made changes) before) now

-- the counts of a store before and after a session: one that reached its end counts no fault, and one that was stopped comes
-- only with one
abbrev pub IsSessionCounted : {T E : Type 0} → Result T E → Faults → Faults → Type 0
IsSessionCounted (Ok answer) before now = now ≡ before
IsSessionCounted (Err error) before now =
    (before.image ≤ now.image) × (before.journal ≤ now.journal) × (Rose before.image now.image ⊎ Rose before.journal now.journal)
