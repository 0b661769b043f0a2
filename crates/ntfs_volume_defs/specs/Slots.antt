-- The slots of $MFT. Slot 0 stands where the boot sector says, in consecutive bytes; each other one in the stream of
-- $MFT's $DATA.
use Rattle.std.specs.Prelude.{ℕ, zero, suc, ◌+◌, ◌*◌, ◌/◌, max, Bool, true, false, not, ◌&&◌, ◌==◌, nat_lt, bit_and, if◌then◌else◌, is_some, Option, Some, List, [], ◌∷◌, take, unwrap_or}
use Rattle.std.specs.Str.{bytes_eq}
use Rattle.image_defs.specs.Ask.{Ask, Done, look, check, ◌>>=◌, ◌>>◌}
use Rattle.image_defs.specs.Via.{via, with_faults}
use Rattle.ntfs_record_defs.specs.declared.fault.RecordFault.{RecordFault}
use Rattle.ntfs_record_defs.specs.declared.fault.RecordFault.TheVariants.{NotFile, BadFixup, BadField}
use Rattle.ntfs_record_defs.specs.Stored.{stored_place}
use Rattle.ntfs_record_defs.specs.Record.{Header, FileRecord, header_of, is_file, record_behind}
use Rattle.ntfs_volume_defs.specs.declared.boot.Boot.{Boot}
use Rattle.fault_defs.specs.declared.Sort.TheVariants.{RecordMagic, MftHole, RecordField, Fixup}
use Rattle.fault_defs.specs.declared.Refusal.{Refusal}
use Rattle.fault_defs.specs.declared.Refusal.TheVariants.{Damaged}
use Rattle.ntfs_volume_defs.specs.Streams.{Stream, stream_place}

-- a volume, and the $DATA of its $MFT
pub record Mft : Type 0 where
  pub boot : Boot
  pub content : Stream

abbrev pub slots : Mft → ℕ
slots mft = max 1 (mft.content.real / mft.boot.record_size)

abbrev pub first_slot_at : Boot → ℕ
first_slot_at boot = boot.at + boot.mft_cluster * boot.cluster

-- the places in the image of the stored bytes of slot 0, and of another slot
abbrev pub first_slot_place : Boot → ℕ → Option ℕ
first_slot_place boot i = Some (first_slot_at boot + i)

abbrev pub mapped_slot_place : Mft → ℕ → ℕ → Option ℕ
mapped_slot_place mft number i = stream_place mft.boot mft.content (number * mft.boot.record_size + i)

-- the place in the image of a stored byte of a slot
unfoldable pub slot_place : Mft → ℕ → ℕ → Option ℕ
slot_place mft number = if number == 0 then first_slot_place mft.boot else mapped_slot_place mft number

-- whether a test passes at each number below one
abbrev pub each_below : (ℕ → Bool) → ℕ → Bool
each_below test zero = true
each_below test (suc n) = test n && each_below test n

-- each stored byte of a slot has a place
unfoldable pub is_whole : Mft → ℕ → Bool
is_whole mft number = each_below (λ i. is_some (slot_place mft number i)) mft.boot.record_size

-- what a slot holds: nothing, a record that isn't in use, or one that is
pub data Slot : Type 0 where
  Empty : Slot
  Unused : Slot
  Used : FileRecord → Slot

-- what is wrong with a slot: with its first bytes, with its places, or with its record, whose array stands at a place
pub data SlotFault : Type 0 where
  NoRecord : SlotFault
  Holed : SlotFault
  Wrong : ℕ → RecordFault → SlotFault

abbrev pub is_empty : List ℕ → Bool
is_empty bytes = bytes_eq (take 4 bytes) (0 ∷ 0 ∷ 0 ∷ 0 ∷ [])

abbrev pub is_in_use : Header → Bool
is_in_use header = not (bit_and header.flags 1 == 0)

abbrev pub is_directory : Header → Bool
is_directory header = not (bit_and header.flags 2 == 0)

-- a record that is in use, or isn't
abbrev pub record_in_use : ℕ → Header → Bool → Ask SlotFault Slot
record_in_use size header true = with_faults (Wrong header.array) (record_behind size header) >>= (λ found. Done (Used found))
record_in_use size header false = Done Unused

-- what begins with these bytes, empty or not
abbrev pub slot_behind : Bool → ℕ → List ℕ → Bool → Ask SlotFault Slot
slot_behind whole size bytes true = Done Empty
slot_behind whole size bytes false = do
  check (is_file bytes) NoRecord
  check whole Holed
  record_in_use size (header_of bytes) (is_in_use (header_of bytes))

abbrev pub slot_with : Bool → ℕ → List ℕ → Ask SlotFault Slot
slot_with whole size bytes = slot_behind whole size bytes (is_empty bytes)

-- what the stored bytes of a slot hold
unfoldable pub stored_slot : Bool → ℕ → Ask SlotFault Slot
stored_slot whole size = look 0 42 >>= slot_with whole size

-- a place in the image, where there is one
abbrev pub at_place : Option ℕ → ℕ
at_place place = unwrap_or place 0

-- the image place of a byte of a record in a slot
abbrev pub record_place : Mft → ℕ → ℕ → ℕ → ℕ
record_place mft number array i = at_place (slot_place mft number (stored_place array i))

-- the refusal that tells what is wrong with a slot: a place in the record is told by the byte that is stored for it, and
-- by the slot where the record ends there
abbrev pub slot_refusal : Mft → ℕ → SlotFault → Refusal
slot_refusal mft number NoRecord = Damaged RecordMagic (at_place (slot_place mft number 0))
slot_refusal mft number Holed = Damaged MftHole (at_place (slot_place mft number 0))
slot_refusal mft number (Wrong array NotFile) = Damaged RecordMagic (at_place (slot_place mft number 0))
slot_refusal mft number (Wrong array (BadFixup stride)) = Damaged Fixup (at_place (slot_place mft number (512 * stride + 510)))
slot_refusal mft number (Wrong array (BadField at)) =
    Damaged RecordField (if nat_lt at mft.boot.record_size then record_place mft number array at else at_place (slot_place mft number 0))

-- the slot of a number
unfoldable pub slot_of : Mft → ℕ → Ask Refusal Slot
slot_of mft number =
    with_faults (slot_refusal mft number)
    (via (slot_place mft number) mft.boot.record_size (stored_slot (is_whole mft number) mft.boot.record_size))
