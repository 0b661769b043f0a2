-- What the answer of a reader of a header says of the volume.
use Rattle.std.specs.Prelude.{◌≡◌, ◌⊎◌, ℕ, ◌+◌, Result, Ok, Err, List}
use Rattle.fault_defs.specs.declared.Sort.{Sort}
use Rattle.fault_defs.specs.declared.Sort.TheVariants.{HeaderField}
use Rattle.hfs_defs.specs.HeaderDamage.{HasMagic, header_in, IsFalseInHeader}
use Rattle.hfs_defs.specs.declared.header.Header.{Header}
use Rattle.rx_store.specs.declared.read_fault.ReadFault.{ReadFault}
use Rattle.rx_store.specs.declared.read_fault.ReadFault.TheVariants.{Device, NoMemory, NotThis, Damaged, Unsupported, Limit}

-- the fault of a header of a volume at a place: the device's, another magic, or a field, which is the signature, the size
-- of a block or the number of blocks
abbrev pub IsHeaderRefusal : ℕ → ReadFault → Type 0
IsHeaderRefusal at fault =
    (fault ≡ Device)
    ⊎ ((fault ≡ NotThis)
    ⊎ ((fault ≡ Damaged HeaderField (at + 1024)) ⊎ ((fault ≡ Damaged HeaderField (at + 1064)) ⊎ (fault ≡ Damaged HeaderField (at + 1068)))))

-- A header is that of the volume, which has the magic, and no clause of it is false. Something else hasn't the magic, and
-- what is damaged has it, and that clause is false at that place.
abbrev pub TellsHeader : List ℕ → ℕ → ℕ → Result Header ReadFault → Type 0
TellsHeader image at len (Ok header) = HasMagic image at len × (header ≡ header_in image at len) × ((sort : Sort) (place : ℕ) → IsFalseInHeader image at len sort place → ⊥)
TellsHeader image at len (Err Device) = Unit {0}
TellsHeader image at len (Err NoMemory) = ⊥
TellsHeader image at len (Err NotThis) = HasMagic image at len → ⊥
TellsHeader image at len (Err (Damaged sort place)) = HasMagic image at len × IsFalseInHeader image at len sort place
TellsHeader image at len (Err (Unsupported what place)) = ⊥
TellsHeader image at len (Err (Limit bound number)) = ⊥
