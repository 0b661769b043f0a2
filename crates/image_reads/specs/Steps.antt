-- What a step of a reader answers. The reader keeps the bytes at which it looked, as a list of ranges.
use Rattle.std.specs.Prelude.{◌≡◌, ℕ, ◌+◌, ◌≤◌, All, Option, IfSome, OnOk, Result, List, ◌++◌}
use Rattle.range_defs.specs.Places.{covers}
use Rattle.range_defs.specs.declared.Range.{Range}
use Rattle.image_defs.specs.Ask.{Ask, result_of, visits}
use Rattle.fault_defs.specs.declared.Refusal.{Refusal}
use Rattle.rx_store.specs.declared.read_fault.ReadFault.{ReadFault}
use Rattle.rx_store.specs.declared.read_fault.ReadFault.TheVariants.{Device, NoMemory, NotThis, Damaged, Unsupported, Limit}
use Rattle.rx_store.specs.Answers.{Answers}

-- ranges that have the same bytes
abbrev pub SameBytes : List Range → List Range → Type 0
SameBytes one other = (byte : ℕ) → covers one byte ≡ covers other byte

-- A step answers what its program gives on the image; with a value, the bytes that were kept are those of before and those at
-- which the program looks.
pub record IsRead {X : Type 0} (image : List ℕ) (program : Ask Refusal X) (before looked : List Range) (result : Result X ReadFault) : Type 0 where
  pub given : Answers result (result_of image program)
  pub looks : OnOk result (SameBytes looked (before ++ visits image program))

-- the same of the image that a store tells, where it tells one
abbrev pub ReadsAs : {X : Type 0} → Option (List ℕ) → Ask Refusal X → List Range → List Range → Result X ReadFault → Type 0
ReadsAs told program before looked result = IfSome told (λ image. IsRead image program before looked result)

-- a fault that says nothing of the image: the device failed, or memory ran out
abbrev pub IsNoRefusal : ReadFault → Type 0
IsNoRefusal Device = Unit {0}
IsNoRefusal NoMemory = Unit {0}
IsNoRefusal NotThis = ⊥
IsNoRefusal (Damaged sort place) = ⊥
IsNoRefusal (Unsupported what place) = ⊥
IsNoRefusal (Limit bound number) = ⊥

-- ranges that end at most at a byte
abbrev pub EndBy : ℕ → List Range → Type 0
EndBy end ranges = All (λ range. range.at + range.len ≤ end) ranges

-- the ranges that are kept now end by each byte from `last` on by which those of before ended
abbrev pub KeptWithin : ℕ → List Range → List Range → Type 0
KeptWithin last before after = (end : ℕ) → last ≤ end → EndBy end before → EndBy end after
