-- What is found of a fork, and why a fork is refused.
use Rattle.std.specs.Prelude.{◌≡◌, ◌⊎◌, ℕ, Result, Ok, Err, List}
use Rattle.hfs_defs.specs.ForkDamage.{IsFalseInFork}
use Rattle.hfs_defs.specs.Forks.{FoundFork}
use Rattle.hfs_defs.specs.declared.forks.Fork.{Fork}
use Rattle.hfs_defs.specs.declared.forks.OverflowRecord.{OverflowRecord}
use Rattle.hfs_defs.specs.declared.header.Header.{Header}
use Rattle.fault_defs.specs.declared.Sort.{Sort}
use Rattle.fault_defs.specs.declared.Sort.TheVariants.{ForkExtent, ForkSum}
use Rattle.rx_store.specs.declared.read_fault.ReadFault.{ReadFault}
use Rattle.rx_store.specs.declared.read_fault.ReadFault.TheVariants.{Device, NoMemory, NotThis, Damaged, Unsupported, Limit}
use Rattle.hfs_extents.specs.declared.fork.ForkPieces.{ForkPieces}

-- the pieces and the slack that an answer has
abbrev pub found_in : Result ForkPieces ReadFault → Result FoundFork ReadFault
found_in (Ok laid) = Ok (record { pieces = laid.pieces; slack = laid.slack })
found_in (Err fault) = Err fault

-- the faults of a fork whose fork data stand at a place: no memory, an extent that passes the volume, or another sum
abbrev pub IsForkRefusal : ℕ → ReadFault → Type 0
IsForkRefusal place Device = ⊥
IsForkRefusal place NoMemory = Unit {0}
IsForkRefusal place NotThis = ⊥
IsForkRefusal place (Damaged sort at) = (sort ≡ ForkExtent) ⊎ ((sort ≡ ForkSum) × (at ≡ place))
IsForkRefusal place (Unsupported what at) = ⊥
IsForkRefusal place (Limit bound number) = ⊥

-- what an answer says of a fork: no clause of one that is found is false, and what is damaged has a clause that is false at
-- that place
abbrev pub TellsFork : Header → List OverflowRecord → Fork → ℕ → Result ForkPieces ReadFault → Type 0
TellsFork header records fork place (Ok laid) = (sort : Sort) (at : ℕ) → IsFalseInFork header records fork place sort at → ⊥
TellsFork header records fork place (Err Device) = ⊥
TellsFork header records fork place (Err NoMemory) = Unit {0}
TellsFork header records fork place (Err NotThis) = ⊥
TellsFork header records fork place (Err (Damaged sort at)) = IsFalseInFork header records fork place sort at
TellsFork header records fork place (Err (Unsupported what at)) = ⊥
TellsFork header records fork place (Err (Limit bound number)) = ⊥
