-- Faults of reading: what a refusal of the definitions is to a reader, and what is counted with each.
use Rattle.std.specs.Prelude.{◌≡◌, ℕ, ◌≤◌, Result, Ok, Err}
use Rattle.disk_defs.specs.Count.{Faults, Rose, FailedIn}
use Rattle.disk_defs.specs.declared.Area.{Area}
use Rattle.fault_defs.specs.declared.Refusal.{Refusal}
use Rattle.fault_defs.specs.declared.Refusal.TheVariants as refusal
use Rattle.rx_store.specs.declared.read_fault.ReadFault.{ReadFault}
use Rattle.rx_store.specs.declared.read_fault.ReadFault.TheVariants as read
use Rattle.rx_store.specs.declared.whole.ReadError.{ReadError}
use Rattle.rx_store.specs.declared.whole.ReadError.TheVariants as text

-- the fault with which a reader hands on a refusal
abbrev pub fault_of : Refusal → ReadFault
fault_of refusal.NotThis = read.NotThis
fault_of (refusal.Damaged sort place) = read.Damaged sort place
fault_of (refusal.Unsupported what place) = read.Unsupported what place
fault_of (refusal.Limit bound number) = read.Limit bound number

-- the counts before and after calls on an area that end with this fault: only a device's fault counts one
abbrev pub IsFaultCounted : Area → ReadFault → Faults → Faults → Type 0
IsFaultCounted area read.Device before now = FailedIn area before now
IsFaultCounted area _ before now = now ≡ before

-- The counts of a store before and after a reader of one area that gave this result: it answers Device only where a call
-- on that area failed, and else no call failed.
abbrev pub IsReadCounted : {T : Type 0} → Area → Result T ReadFault → Faults → Faults → Type 0
IsReadCounted area (Ok answer) before now = now ≡ before
IsReadCounted area (Err fault) before now = IsFaultCounted area fault before now

-- the count of a source before and after a text was read whole, or couldn't be
abbrev pub IsTextCounted : {T : Type 0} → Result T ReadError → ℕ → ℕ → Type 0
IsTextCounted (Ok answer) before now = now ≡ before
IsTextCounted (Err text.Fault) before now = (before ≤ now) × Rose before now
IsTextCounted (Err text.NoMemory) before now = now ≡ before
