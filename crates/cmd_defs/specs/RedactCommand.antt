-- The command `redact`: what each status says of the rule text and of what the store held, of what it left, and of what was
-- written.
use Rattle.std.specs.Prelude.{◌≡◌, ◌⊎◌, ℕ, ◌≤◌, None, List, length}
use Rattle.disk_defs.specs.Story.{Held}
use Rattle.disk_defs.specs.Disk.{State}
use Rattle.fault_defs.specs.declared.Refusal.TheVariants as refusals
use Rattle.journal_defs.specs.Form.{IsOpen}
use Rattle.rule_defs.specs.declared.Rule.{Rule}
use Rattle.rx_ranges.specs.declared.plan.Plan.{Plan}
use Rattle.rx_tree.specs.TreeValue.{TreeValue}
use Rattle.plan_defs.specs.Plan.{plan_of, guarded_byte}
use Rattle.session_defs.specs.Script.{script, changes_of}
use Rattle.session_defs.specs.Outcome.{filled}
use Rattle.text_defs.specs.Report.{report}
use Rattle.text_defs.specs.declared.ReportState.TheVariants as state
use Rattle.cmd_defs.specs.JournalFacts.{IsUntouched, IsCarriedOut, IsCutShort}
use Rattle.cmd_defs.specs.PlanCommand.{MeetsForms, SaysRules, HasNoForm, RefusesImage, FillsGuard, PassesLimit}
use Rattle.rx_ranges.specs.declared.plan.TheConstants.{MAX_RANGES}
use Rattle.cmd_defs.specs.declared.status.PlanRefusal.TheVariants.{MeetsGuard}
use Rattle.cmd_defs.specs.declared.status.Status.{Status}
use Rattle.cmd_defs.specs.declared.status.Status.TheVariants.{Done, NotBuilt, NotRecognised, Damaged, Unsupported, JournalOpen, PlanRefused, DeviceFault, SourceFault, SinkFault, Limit, NoMemory}

-- the rule text and the image have a plan that fills no byte of the guard and has few enough ranges, and the journal doesn't stand open
pub record IsPlanned (text : List ℕ) (held : Held) (rules : List Rule) (tree : TreeValue) : Type 0 where
  pub forms : MeetsForms text held.image rules tree
  pub closed : ¬ (IsOpen held.journal)
  pub unguarded : guarded_byte tree rules ≡ None
  pub few_ranges : length (plan_of tree rules).ranges ≤ MAX_RANGES

-- a plan of an image was carried out from the start
abbrev pub IsRedacted : Held → Plan → State → State → Type 0
IsRedacted held plan before now = IsCarriedOut (changes_of (script plan)) plan (filled plan.ranges held.image) before now

-- the plan was carried out, and this holds of its report
abbrev pub HasRedacted : List ℕ → Held → State → State → (List ℕ → Type 0) → Type 0
HasRedacted text held before now P =
    (rules : List Rule) × (tree : TreeValue) × IsPlanned text held rules tree × IsRedacted held (plan_of tree rules) before now
    × P (report (plan_of tree rules) state.Done)

-- a session of the plan was stopped by a call that failed
abbrev pub WasStopped : List ℕ → Held → State → State → Type 0
WasStopped text held before now =
    (rules : List Rule) × (tree : TreeValue) × IsPlanned text held rules tree × IsCutShort (changes_of (script (plan_of tree rules))) before now

-- What a status of `redact` says, in the order of the refusals: of the rule text and what was held, of the store before and now,
-- and of what was written. A refusal leaves the store as it was, but that it may have been synced.
abbrev pub RedactSays : Status → List ℕ → Held → State → State → (List ℕ → Type 0) → (List ℕ → Type 0) → Type 0
RedactSays SourceFault text held before now Wrote BeganWith = Unit {0}
RedactSays DeviceFault text held before now Wrote BeganWith = SaysRules text × (IsUntouched before now ⊎ WasStopped text held before now)
RedactSays JournalOpen text held before now Wrote BeganWith = SaysRules text × IsOpen held.journal
RedactSays NotBuilt text held before now Wrote BeganWith = HasNoForm text held.image × (SaysRules text → ¬ (IsOpen held.journal))
RedactSays NotRecognised text held before now Wrote BeganWith = RefusesImage refusals.NotThis text held.image × ¬ (IsOpen held.journal)
RedactSays (Damaged sort place) text held before now Wrote BeganWith = RefusesImage (refusals.Damaged sort place) text held.image × ¬ (IsOpen held.journal)
RedactSays (Unsupported what place) text held before now Wrote BeganWith = RefusesImage (refusals.Unsupported what place) text held.image × ¬ (IsOpen held.journal)
RedactSays (PlanRefused (MeetsGuard byte number)) text held before now Wrote BeganWith = FillsGuard byte number text held.image × ¬ (IsOpen held.journal)
RedactSays (Limit bound number) text held before now Wrote BeganWith = PassesLimit bound number text held.image × ¬ (IsOpen held.journal)
RedactSays SinkFault text held before now Wrote BeganWith = HasRedacted text held before now BeganWith
RedactSays Done text held before now Wrote BeganWith = HasRedacted text held before now Wrote
RedactSays NoMemory text held before now Wrote BeganWith = Unit {0}
RedactSays _ text held before now Wrote BeganWith = ⊥

-- the rule text and the image have a plan that can be carried out
abbrev pub CanRedact : List ℕ → Held → Type 0
CanRedact text held = (rules : List Rule) × (tree : TreeValue) × IsPlanned text held rules tree

-- the answer of `redact` to a rule text and what is held
abbrev pub RedactAnswers : Status → List ℕ → Held → Type 0
RedactAnswers JournalOpen text held = SaysRules text × IsOpen held.journal
RedactAnswers NotBuilt text held = HasNoForm text held.image × (SaysRules text → ¬ (IsOpen held.journal))
RedactAnswers NotRecognised text held = RefusesImage refusals.NotThis text held.image × ¬ (IsOpen held.journal)
RedactAnswers (Damaged sort place) text held = RefusesImage (refusals.Damaged sort place) text held.image × ¬ (IsOpen held.journal)
RedactAnswers (Unsupported what place) text held = RefusesImage (refusals.Unsupported what place) text held.image × ¬ (IsOpen held.journal)
RedactAnswers (PlanRefused (MeetsGuard byte number)) text held = FillsGuard byte number text held.image × ¬ (IsOpen held.journal)
RedactAnswers (Limit bound number) text held = PassesLimit bound number text held.image × ¬ (IsOpen held.journal)
RedactAnswers Done text held = CanRedact text held
RedactAnswers _ text held = ⊥
