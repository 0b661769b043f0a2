-- The command `report`: what each status says of the journal, and of what was written.
use Rattle.std.specs.Prelude.{◌≡◌, ℕ, Bool, Some, List}
use Rattle.journal_defs.specs.Form.{IsOpen}
use Rattle.journal_defs.specs.Checks.{bad_at}
use Rattle.rx_ranges.specs.declared.plan.Plan.{Plan}
use Rattle.text_defs.specs.Report.{report}
use Rattle.cmd_defs.specs.JournalFacts.{HoldsPlan, progress}
use Rattle.cmd_defs.specs.declared.status.JournalRefusal.TheVariants.{NotOpen, Bad, OtherLength}
use Rattle.cmd_defs.specs.declared.status.Status.{Status}
use Rattle.cmd_defs.specs.declared.status.Status.TheVariants.{Done, JournalRefused, DeviceFault, SinkFault, NoMemory}

-- the journal stands open and holds a plan, and this holds of its report
abbrev pub HasJournalReport : List ℕ → (List ℕ → Type 0) → Type 0
HasJournalReport journal P =
    (plan : Plan) × (groups : List Bool) × (last : Bool) × HoldsPlan journal plan groups last × P (report plan (progress groups last))

-- What a status of `report` says of the journal, in the order of the refusals. The two facts are of what was written: this text,
-- and some first bytes of it. A status that `report` never gives says what can't be.
abbrev pub ReportSays : Status → List ℕ → (List ℕ → Type 0) → (List ℕ → Type 0) → Type 0
ReportSays (JournalRefused NotOpen) journal Wrote BeganWith = ¬ (IsOpen journal)
ReportSays (JournalRefused (Bad at)) journal Wrote BeganWith = IsOpen journal × (bad_at journal ≡ Some at)
ReportSays (JournalRefused (OtherLength kept found)) journal Wrote BeganWith = ⊥
ReportSays DeviceFault journal Wrote BeganWith = Unit {0}
ReportSays SinkFault journal Wrote BeganWith = HasJournalReport journal BeganWith
ReportSays Done journal Wrote BeganWith = HasJournalReport journal Wrote
ReportSays NoMemory journal Wrote BeganWith = Unit {0}
ReportSays _ journal Wrote BeganWith = ⊥

-- the answer of `report` to a journal
abbrev pub ReportAnswers : Status → List ℕ → Type 0
ReportAnswers (JournalRefused NotOpen) journal = ¬ (IsOpen journal)
ReportAnswers (JournalRefused (Bad at)) journal = IsOpen journal × (bad_at journal ≡ Some at)
ReportAnswers Done journal = (plan : Plan) × (groups : List Bool) × (last : Bool) × HoldsPlan journal plan groups last
ReportAnswers _ journal = ⊥
