-- How a command ended: what its statuses are about, and the premises of what is said of them.
use Rattle.std.specs.Prelude.{ℕ, Option, Some, None, List}
use Rattle.disk_defs.specs.Count.{Rose}
use Rattle.disk_defs.specs.Story.{Held}
use Rattle.cmd_defs.specs.declared.status.Status.{Status}
use Rattle.cmd_defs.specs.declared.status.Status.TheVariants.{Done, DeviceFault, SourceFault, SinkFault, NoMemory}

-- the statuses that tell of the words, the texts and the disk alone: no fault, and no want of memory
abbrev pub IsAnswer : Status → Type 0
IsAnswer DeviceFault = ⊥
IsAnswer SourceFault = ⊥
IsAnswer SinkFault = ⊥
IsAnswer NoMemory = ⊥
IsAnswer _ = Unit {0}

-- the statuses after which a store is as it was, but that it may have been synced: all but the three that come when a plan is being
-- carried out or was
abbrev pub IsRefusal : Status → Type 0
IsRefusal Done = ⊥
IsRefusal DeviceFault = ⊥
IsRefusal SinkFault = ⊥
IsRefusal _ = Unit {0}

-- after these nothing was written
abbrev pub IsSilent : Status → Type 0
IsSilent Done = ⊥
IsSilent SinkFault = ⊥
IsSilent _ = Unit {0}

-- a fact of the rule text and the image, where both are told
abbrev pub IfBothTold : Option (List ℕ) → Option (List ℕ) → (List ℕ → List ℕ → Type 0) → Type 0
IfBothTold None image P = Unit {0}
IfBothTold (Some text) None P = Unit {0}
IfBothTold (Some text) (Some image) P = P text image

-- a fact of the rule text and of what a store holds, where both are told
abbrev pub IfTextAndHeld : Option (List ℕ) → Option Held → (List ℕ → Held → Type 0) → Type 0
IfTextAndHeld None held P = Unit {0}
IfTextAndHeld (Some text) None P = Unit {0}
IfTextAndHeld (Some text) (Some held) P = P text held

-- no fault was counted between two moments
abbrev pub IsCalm : ℕ → ℕ → Type 0
IsCalm before now = ¬ (Rose before now)
