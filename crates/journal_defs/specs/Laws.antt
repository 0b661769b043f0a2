-- What is promised of journals.
use Rattle.std.specs.Prelude.{◌≡◌, ◌↔◌, ℕ, ◌<◌, All, Bool, false, None, List, length, replicate, slice_set}
use Rattle.journal_defs.specs.Form.{IsOpen, IsJournal, first_journal, groups_of, journal_bytes, journal_len}
use Rattle.journal_defs.specs.Checks.{bad_at}
use Rattle.journal_defs.specs.declared.TheConstants.{OPEN_GATE}
use Rattle.rx_ranges.specs.PlanChecks.{IsPlan}
use Rattle.rx_ranges.specs.declared.plan.Plan.{Plan}

-- the open journal of some plan
pub record IsSomeJournal (bytes : List ℕ) : Type 0 where
  pub plan : Plan
  pub groups : List Bool
  pub last : Bool
  pub is_plan : IsPlan plan
  pub is_journal : IsJournal bytes plan groups last

-- an open journal passes all checks exactly where it is that of some plan
abbrev pub ChecksLaw : Type 0
ChecksLaw = (bytes : List ℕ) → All (λ byte. byte < 256) bytes → IsOpen bytes → (bad_at bytes ≡ None) ↔ IsSomeJournal bytes

-- a journal is that of one plan alone, with these marks alone
abbrev pub OneJournalLaw : Type 0
OneJournalLaw =
    (bytes : List ℕ) (plan other : Plan) (groups other_groups : List Bool) (last other_last : Bool) → IsPlan plan → IsPlan other
    → IsJournal bytes plan groups last → IsJournal bytes other other_groups other_last → (plan ≡ other) × (groups ≡ other_groups) × (last ≡ other_last)

-- each plan has a journal without a set mark: the one that is first written, once its gate is open
abbrev pub FirstJournalLaw : Type 0
FirstJournalLaw = (plan : Plan) → IsJournal (slice_set (first_journal plan) 0 OPEN_GATE) plan (replicate (groups_of plan) false) false

-- how long a journal is
abbrev pub LengthLaw : Type 0
LengthLaw = (gate last : ℕ) (plan : Plan) (marks : List ℕ) → length marks ≡ groups_of plan → length (journal_bytes gate plan marks last) ≡ journal_len plan
