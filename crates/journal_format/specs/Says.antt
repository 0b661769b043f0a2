-- What an answer says of a journal.
use Rattle.std.specs.Prelude.{◌≡◌, ℕ, Bool, true, false, None, Some, Result, Ok, Err, List, length}
use Rattle.disk_defs.specs.Count.{Faults, FailedIn}
use Rattle.disk_defs.specs.declared.Area.TheVariants.{Journal}
use Rattle.journal_defs.specs.Checks.{Check, first_failing, bad_at}
use Rattle.journal_defs.specs.Form.{IsOpen, IsJournal, groups_of, journal_len}
use Rattle.journal_format.specs.declared.fault.JournalFault.{JournalFault}
use Rattle.journal_format.specs.declared.fault.JournalFault.TheVariants.{NotOpen, Bad, OtherLength, Device, NoMemory}
use Rattle.journal_format.specs.declared.state.JournalState.{JournalState}
use Rattle.rx_ranges.specs.PlanChecks.{IsPlan}

-- A state is that of a journal which stands open, with its plan and its marks. It is answered NotOpen where it doesn't stand
-- open, and Bad with the place of the first check that fails. Another length is never answered.
abbrev pub Says : List ℕ → Result JournalState JournalFault → Type 0
Says bytes (Ok state) = IsOpen bytes × IsPlan state.plan × IsJournal bytes state.plan state.groups state.last
Says bytes (Err NotOpen) = IsOpen bytes → ⊥
Says bytes (Err (Bad at)) = IsOpen bytes × (bad_at bytes ≡ Some at)
Says bytes (Err (OtherLength kept found)) = ⊥
Says bytes (Err Device) = Unit {0}
Says bytes (Err NoMemory) = Unit {0}

-- a state of a journal of this size: its plan is one that a journal can hold, and has a mark for each group of its ranges
pub record IsState (size : ℕ) (state : JournalState) : Type 0 where
  pub is_plan : IsPlan state.plan
  pub each_group : length state.groups ≡ groups_of state.plan
  pub long : size ≡ journal_len state.plan

-- what a fault says of checks that were made in their order
abbrev pub FailsWith : List Check → JournalFault → Type 0
FailsWith checks NotOpen = ⊥
FailsWith checks (Bad at) = first_failing checks ≡ Some at
FailsWith checks (OtherLength kept found) = ⊥
FailsWith checks Device = Unit {0}
FailsWith checks NoMemory = Unit {0}

-- what an answer says of them
abbrev pub FailsAs : {X : Type 0} → List Check → Result X JournalFault → Type 0
FailsAs checks (Ok value) = first_failing checks ≡ None
FailsAs checks (Err fault) = FailsWith checks fault

-- a fault that comes without a call, and that reading a journal may answer
abbrev pub IsCalm : JournalFault → Type 0
IsCalm Device = ⊥
IsCalm (OtherLength kept found) = ⊥
IsCalm _ = Unit {0}

-- the counts of a store before and after calls on its journal that end with this fault: only a device's fault counts one, and
-- another length is never answered
abbrev pub IsFaultCounted : JournalFault → Faults → Faults → Type 0
IsFaultCounted Device before now = FailedIn Journal before now
IsFaultCounted (OtherLength kept found) before now = ⊥
IsFaultCounted _ before now = now ≡ before

-- The counts of a store before and after its journal was read: Device comes only where a call on the journal failed, and
-- else no call failed.
abbrev pub IsReadCounted : {X : Type 0} → Result X JournalFault → Faults → Faults → Type 0
IsReadCounted (Ok value) before now = now ≡ before
IsReadCounted (Err fault) before now = IsFaultCounted fault before now

-- whether a journal stands open
abbrev pub TellsIfOpen : Bool → List ℕ → Type 0
TellsIfOpen true bytes = IsOpen bytes
TellsIfOpen false bytes = ¬ (IsOpen bytes)
