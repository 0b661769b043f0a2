-- Calls on what std reads and writes: what one came to, and what is counted with it.
use Rattle.std.specs.Prelude.{◌≡◌, ℕ, ◌+◌, ◌<◌, ◌≤◌, Bool, cond, ◌&&◌, nat_eq, nat_lt, Option, None, Some, Result, Ok, Err}
use Rattle.std.specs.IoError.{error_kind}
use Rattle.std.specs.declared.io.Error.{Error}
use Rattle.std.specs.declared.io.ErrorKind.{ErrorKind}
use Rattle.std.specs.declared.io.ErrorKind.TheVariants.{Interrupted}
use Rattle.disk_defs.specs.Count.{one_more}
use Rattle.rx_store.specs.declared.outside.Outcome.{Outcome}
use Rattle.rx_store.specs.declared.outside.Outcome.TheVariants.{Bytes, Again, Failed}

-- a call that moved so many bytes: none is a fault where some are due
abbrev pub moved : Bool → ℕ → Outcome
moved due count = cond (due && nat_eq count 0) Failed (Bytes count)

-- a call that a signal interrupted is made again, and any other error is a fault
abbrev pub refused : ErrorKind → Outcome
refused Interrupted = Again
refused kind = Failed

-- what std's answer to one call comes to
abbrev pub judged : Bool → Result ℕ Error → Outcome
judged due (Ok count) = moved due count
judged due (Err error) = refused (error_kind error)

-- where no call is to be made again any more, an interrupted one is a fault
abbrev pub settled : Outcome → ℕ → Outcome
settled (Bytes count) patience = Bytes count
settled Again patience = cond (nat_lt 0 patience) Again Failed
settled Failed patience = Failed

-- what is seen of a file or a stream, or of none where it couldn't be opened: how many of its calls failed, and how many
-- may still be made again
pub record Calls (D : Type 0) : Type 0 where
  pub device : Option D
  pub faults : ℕ
  pub patience : ℕ

-- the counts before and after a call that came to this: each fault is counted, and nothing else is
abbrev pub IsNoted : {D : Type 0} → Outcome → Calls D → Calls D → Type 0
IsNoted (Bytes count) before now = (now.faults ≡ before.faults) × (now.patience ≡ before.patience)
IsNoted Again before now = (now.faults ≡ before.faults) × (now.patience + 1 ≡ before.patience)
IsNoted Failed before now = (now.faults ≡ one_more before.faults) × (before.faults ≤ now.faults) × (now.patience ≡ before.patience)

-- One call came to this: what the device answered to one call, judged. On what couldn't be opened each call is a fault.
abbrev pub CameOf : {D : Type 0} → (D → Result ℕ Error → D → Type 0) → Bool → ℕ → Option D → Option D → Outcome → Type 0
CameOf Answered due patience None now outcome = (now ≡ None) × (outcome ≡ Failed)
CameOf Answered due patience (Some before) None outcome = ⊥
CameOf Answered due patience (Some before) (Some now) outcome = (answer : Result ℕ Error) × Answered before answer now × (outcome ≡ settled (judged due answer) patience)

abbrev pub Came : {D : Type 0} → (D → Result ℕ Error → D → Type 0) → Bool → Calls D → Calls D → Outcome → Type 0
Came Answered due before now outcome = CameOf Answered due before.patience before.device now.device outcome

-- what holds of the count of bytes where some moved
abbrev pub IfBytes : Outcome → (ℕ → Type 0) → Type 0
IfBytes (Bytes count) Holds = Holds count
IfBytes Again Holds = Unit {0}
IfBytes Failed Holds = Unit {0}

-- Calls of a loop, one after the other, that moved so many bytes in all: each was interrupted, which moves none, or moved some.
pub data Moved {D : Type 0} (Answered : D → Result ℕ Error → D → Type 0) (due : Bool) (first : Calls D) : ℕ → Calls D → Type 0 where
  NoCall : Moved Answered due first 0 first
  Interruption : (count : ℕ) (before now : Calls D) → Moved Answered due first count before → Came Answered due before now Again → IsNoted Again before now → Moved Answered due first count now
  More : (count more : ℕ) (before now : Calls D) → Moved Answered due first count before → 0 < more → Came Answered due before now (Bytes more) → IsNoted (Bytes more) before now → Moved Answered due first (count + more) now

-- Such calls, and behind them a last one that came to this. Where they moved none, each of them was interrupted.
abbrev pub EndsIn : {D : Type 0} → (D → Result ℕ Error → D → Type 0) → Bool → Calls D → Calls D → ℕ → Outcome → Type 0
EndsIn {D} Answered due first now count outcome = (last : Calls D) × Moved Answered due first count last × Came Answered due last now outcome × IsNoted outcome last now
