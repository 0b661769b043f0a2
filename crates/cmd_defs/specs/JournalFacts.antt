-- What a journal says to a command, and what a command leaves of a store that carries out a plan.
use Rattle.std.specs.Prelude.{◌≡◌, ◌⊎◌, Bool, ℕ, Some, if◌then◌else◌, List}
use Rattle.disk_defs.specs.Story.{Change, Sync}
use Rattle.disk_defs.specs.Disk.{State, held, state_after, state_after_all}
use Rattle.journal_defs.specs.Form.{IsOpen, IsJournal, is_complete}
use Rattle.rx_ranges.specs.PlanChecks.{IsPlan}
use Rattle.rx_ranges.specs.declared.plan.Plan.{Plan}
use Rattle.session_defs.specs.Session.{IsStopped}
use Rattle.session_defs.specs.Outcome.{done_journal}
use Rattle.text_defs.specs.declared.ReportState.{ReportState}
use Rattle.text_defs.specs.declared.ReportState.TheVariants.{Pending, Done}

-- a journal stands open and holds this plan, with these marks of its groups and this last mark
pub record HoldsPlan (journal : List ℕ) (plan : Plan) (groups : List Bool) (last : Bool) : Type 0 where
  pub is_open : IsOpen journal
  pub is_plan : IsPlan plan
  pub is_journal : IsJournal journal plan groups last

-- how far the plan of a journal with these marks was carried out
abbrev pub progress : List Bool → Bool → ReportState
progress groups last = if is_complete groups last then Done else Pending

-- a store was left as it was, but that it may have been synced
abbrev pub IsUntouched : State → State → Type 0
IsUntouched before now = (now ≡ before) ⊎ (now ≡ state_after Sync before)

-- A store was synced, and then all these changes were made, of a plan whose filled image is this. Where it tells what it
-- holds, that is the filled image, and the journal of the plan with all marks.
pub record IsCarriedOut (changes : List Change) (plan : Plan) (filled : List ℕ) (before now : State) : Type 0 where
  pub changed : now ≡ state_after_all changes (state_after Sync before)
  pub holds : held now ≡ Some (record { image = filled; journal = done_journal plan })

-- a store was synced, and then some of these changes were made and the next one failed
abbrev pub IsCutShort : List Change → State → State → Type 0
IsCutShort changes before now = IsStopped changes (state_after Sync before) now
