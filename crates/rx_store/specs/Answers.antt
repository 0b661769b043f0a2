-- What the result of a reading call says of what the definitions give.
use Rattle.std.specs.Prelude.{◌≡◌, Result, Ok, Err}
use Rattle.fault_defs.specs.declared.Refusal.{Refusal}
use Rattle.fault_defs.specs.declared.Refusal.TheVariants as refusal
use Rattle.rx_store.specs.declared.read_fault.ReadFault.{ReadFault}
use Rattle.rx_store.specs.declared.read_fault.ReadFault.TheVariants.{Device, NoMemory, NotThis, Damaged, Unsupported, Limit}

-- A value is the one that is given, and a refusal is the one with which the definitions stop. A device that failed and
-- memory that ran out say nothing.
abbrev pub Answers : {X : Type 0} → Result X ReadFault → Result X Refusal → Type 0
Answers (Ok x) given = given ≡ Ok x
Answers (Err Device) given = Unit {0}
Answers (Err NoMemory) given = Unit {0}
Answers (Err NotThis) given = given ≡ Err refusal.NotThis
Answers (Err (Damaged sort place)) given = given ≡ Err (refusal.Damaged sort place)
Answers (Err (Unsupported what place)) given = given ≡ Err (refusal.Unsupported what place)
Answers (Err (Limit bound number)) given = given ≡ Err (refusal.Limit bound number)
