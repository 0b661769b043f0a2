-- The command `resume`: what each status says of what the store held, of what it left, and of what was written.
use Rattle.std.specs.Prelude.{◌≡◌, ◌≢◌, ◌⊎◌, ℕ, Bool, Some, List, length}
use Rattle.disk_defs.specs.Story.{Held}
use Rattle.disk_defs.specs.Disk.{State}
use Rattle.journal_defs.specs.Form.{IsOpen}
use Rattle.journal_defs.specs.Checks.{bad_at}
use Rattle.rx_ranges.specs.declared.plan.Plan.{Plan}
use Rattle.session_defs.specs.Script.{rest_of, changes_of}
use Rattle.session_defs.specs.Outcome.{filled, unmarked_ranges}
use Rattle.text_defs.specs.Report.{report}
use Rattle.text_defs.specs.declared.ReportState.TheVariants as state
use Rattle.cmd_defs.specs.JournalFacts.{HoldsPlan, IsUntouched, IsCarriedOut, IsCutShort}
use Rattle.cmd_defs.specs.declared.status.JournalRefusal.TheVariants.{NotOpen, Bad, OtherLength}
use Rattle.cmd_defs.specs.declared.status.Status.{Status}
use Rattle.cmd_defs.specs.declared.status.Status.TheVariants.{Done, JournalRefused, DeviceFault, SinkFault, NoMemory}

-- the journal holds this plan, of an image of the length of the one that is held
pub record IsResumed (held : Held) (plan : Plan) (groups : List Bool) (last : Bool) : Type 0 where
  pub holds : HoldsPlan held.journal plan groups last
  pub fits : plan.image_len ≡ length held.image

-- the journal's plan was carried out in what was left of it: the ranges of the groups that weren't marked are filled
abbrev pub IsFinished : Held → Plan → List Bool → Bool → State → State → Type 0
IsFinished held plan groups last before now =
    IsCarriedOut (changes_of (rest_of plan groups last)) plan (filled (unmarked_ranges plan 0 groups) held.image) before now

-- the plan of the journal was finished, and this holds of its report
abbrev pub HasFinished : Held → State → State → (List ℕ → Type 0) → Type 0
HasFinished held before now P =
    (plan : Plan) × (groups : List Bool) × (last : Bool) × IsResumed held plan groups last × IsFinished held plan groups last before now × P (report plan state.Done)

-- the journal holds a plan of an image of another length
abbrev pub HasOtherLength : ℕ → ℕ → Held → Type 0
HasOtherLength kept found held =
    (plan : Plan) × (groups : List Bool) × (last : Bool) × HoldsPlan held.journal plan groups last × (plan.image_len ≡ kept)
    × (length held.image ≡ found) × (kept ≢ found)

-- a session of the journal's plan was stopped by a call that failed
abbrev pub WasStopped : Held → State → State → Type 0
WasStopped held before now =
    (plan : Plan) × (groups : List Bool) × (last : Bool) × IsResumed held plan groups last × IsCutShort (changes_of (rest_of plan groups last)) before now

-- What a status of `resume` says, in the order of the refusals: of what was held, of the store before and now, and of what was
-- written. A refusal leaves the store as it was, but that it may have been synced.
abbrev pub ResumeSays : Status → Held → State → State → (List ℕ → Type 0) → (List ℕ → Type 0) → Type 0
ResumeSays (JournalRefused NotOpen) held before now Wrote BeganWith = ¬ (IsOpen held.journal)
ResumeSays (JournalRefused (Bad at)) held before now Wrote BeganWith = IsOpen held.journal × (bad_at held.journal ≡ Some at)
ResumeSays (JournalRefused (OtherLength kept found)) held before now Wrote BeganWith = HasOtherLength kept found held
ResumeSays DeviceFault held before now Wrote BeganWith = IsUntouched before now ⊎ WasStopped held before now
ResumeSays SinkFault held before now Wrote BeganWith = HasFinished held before now BeganWith
ResumeSays Done held before now Wrote BeganWith = HasFinished held before now Wrote
ResumeSays NoMemory held before now Wrote BeganWith = Unit {0}
ResumeSays _ held before now Wrote BeganWith = ⊥

-- the journal holds a plan of an image of this length
abbrev pub CanResume : Held → Type 0
CanResume held = (plan : Plan) × (groups : List Bool) × (last : Bool) × IsResumed held plan groups last

-- the answer of `resume` to what is held
abbrev pub ResumeAnswers : Status → Held → Type 0
ResumeAnswers (JournalRefused NotOpen) held = ¬ (IsOpen held.journal)
ResumeAnswers (JournalRefused (Bad at)) held = IsOpen held.journal × (bad_at held.journal ≡ Some at)
ResumeAnswers (JournalRefused (OtherLength kept found)) held = HasOtherLength kept found held
ResumeAnswers Done held = CanResume held
ResumeAnswers _ held = ⊥
