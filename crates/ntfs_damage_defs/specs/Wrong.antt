-- What may be wrong with a slot, a segment, a stream, a list and its entries: each rule by itself, in no order.
use Rattle.std.specs.Prelude.{◌≡◌, ℕ, ◌+◌, ◌*◌, ◌%◌, ◌^◌, ◌<◌, ◌≤◌, ◌⊎◌, true, false, Some, None, Ok, Err, List, [], ◌∷◌, ◌++◌, length, find}
use Rattle.image_defs.specs.Ask.{result_of}
use Rattle.image_defs.specs.Via.{seen}
use Rattle.fault_defs.specs.declared.Sort.{Sort}
use Rattle.fault_defs.specs.declared.Sort.TheVariants.{RecordMagic, MftHole, RecordField, Fixup, RunList, RunCount, SegmentGap, Sizes, ListEntry, AttributeMissing}
use Rattle.ntfs_defs.specs.declared.runs.Run.{Run}
use Rattle.ntfs_defs.specs.declared.fault.RunFault.{RunFault}
use Rattle.ntfs_defs.specs.DecodedRuns.{decoded_runs}
use Rattle.ntfs_record_defs.specs.declared.fault.RecordFault.TheVariants.{BadFixup, BadField}
use Rattle.ntfs_record_defs.specs.Attributes.{Stream as StreamHeader, Resident, NonResident}
use Rattle.ntfs_record_defs.specs.Stored.{stored_place}
use Rattle.ntfs_record_defs.specs.Record.{FileRecord, header_of, is_file, record_of}
use Rattle.range_defs.specs.declared.Range.{Range}
use Rattle.ntfs_volume_defs.specs.Slots.{Mft, Slot, slots, slot_place, slot_of, is_empty, is_in_use}
use Rattle.ntfs_volume_defs.specs.Segments.{Held, clusters_in, damaged_at, place_in, attribute_place, segments_runs}
use Rattle.ntfs_volume_defs.specs.Lists.{Entry, ListContent, entry_length, is_entry, entry_place, is_named, extension_of, named_record, reference_of}

-- ---- a slot

-- the stored bytes of a slot
abbrev pub stored_in : List ℕ → Mft → ℕ → List ℕ
stored_in image mft number = seen image (slot_place mft number) mft.boot.record_size

-- a slot holds a record in use at whole places, sound or not
pub record HoldsRecord (image : List ℕ) (mft : Mft) (number : ℕ) : Type 0 where
  pub is_record : is_file (stored_in image mft number) ≡ true
  pub places : (i : ℕ) → i < mft.boot.record_size → (place : ℕ) × (slot_place mft number i ≡ Some place)
  pub in_use : is_in_use (header_of (stored_in image mft number)) ≡ true

-- the place of a byte of the record in a slot: that of the byte that is stored for it, or the slot where the record ends
abbrev pub IsRecordPlace : List ℕ → Mft → ℕ → ℕ → ℕ → Type 0
IsRecordPlace image mft number at place =
    ((at < mft.boot.record_size) × (slot_place mft number (stored_place ((header_of (stored_in image mft number)).array) at) ≡ Some place))
    ⊎ ((at ≡ mft.boot.record_size) × (slot_place mft number 0 ≡ Some place))

pub data IsWrongSlot (image : List ℕ) (mft : Mft) (number : ℕ) : Sort → ℕ → Type 0 where
  OtherMagic : (place : ℕ) → is_file (stored_in image mft number) ≡ false → is_empty (stored_in image mft number) ≡ false → slot_place mft number 0 ≡ Some place
      → IsWrongSlot image mft number RecordMagic place
  HoleInRecord : (place i : ℕ) → is_file (stored_in image mft number) ≡ true → i < mft.boot.record_size → slot_place mft number i ≡ None → slot_place mft number 0 ≡ Some place
      → IsWrongSlot image mft number MftHole place
  WrongEnd : (stride place : ℕ) → HoldsRecord image mft number → result_of (stored_in image mft number) (record_of mft.boot.record_size) ≡ Err (BadFixup stride)
      → slot_place mft number (512 * stride + 510) ≡ Some place → IsWrongSlot image mft number Fixup place
  WrongField : (i place : ℕ) → HoldsRecord image mft number → result_of (stored_in image mft number) (record_of mft.boot.record_size) ≡ Err (BadField i)
      → IsRecordPlace image mft number i place → IsWrongSlot image mft number RecordField place

-- ---- a segment behind so many clusters, and a stream of segments in order

pub data IsWrongSegment (mft : Mft) (before : ℕ) (held : Held) : Sort → ℕ → Type 0 where
  WrongRuns : (header : StreamHeader) (damage : RunFault) → held.opened.attribute.form ≡ NonResident header → decoded_runs mft.boot.clusters held.opened.body ≡ Err damage
      → IsWrongSegment mft before held RunList (place_in mft held (header.runs.at + damaged_at damage))
  WrongCount : (header : StreamHeader) (runs : List Run) → held.opened.attribute.form ≡ NonResident header → decoded_runs mft.boot.clusters held.opened.body ≡ Ok runs
      → ((header.first + clusters_in runs) % 2 ^ 64 ≡ (header.last + 1) % 2 ^ 64 → ⊥) → IsWrongSegment mft before held RunCount (attribute_place mft held)
  Gap : (header : StreamHeader) → held.opened.attribute.form ≡ NonResident header → (header.first ≡ before → ⊥) → IsWrongSegment mft before held SegmentGap (attribute_place mft held)
  Twice : (content : Range) → held.opened.attribute.form ≡ Resident content → IsWrongSegment mft before held SegmentGap (attribute_place mft held)

pub data IsWrongStream (mft : Mft) (first : Held) (more : List Held) : Sort → ℕ → Type 0 where
  WrongSegment : (front : List Held) (held : Held) (back : List Held) (runs : List Run) (sort : Sort) (place : ℕ) → first ∷ more ≡ front ++ held ∷ back
      → segments_runs mft [] front ≡ Ok runs → IsWrongSegment mft (clusters_in runs) held sort place → IsWrongStream mft first more sort place
  TooLarge : (header : StreamHeader) → first.opened.attribute.form ≡ NonResident header → (2 ^ 62 < header.real) ⊎ (2 ^ 62 < header.initialised)
      → IsWrongStream mft first more Sizes (attribute_place mft first)

-- ---- a list

-- an entry begins at a byte of a list
pub data IsEntryAt (bytes : List ℕ) : ℕ → Type 0 where
  FirstEntry : IsEntryAt bytes 0
  NextEntry : (at : ℕ) → IsEntryAt bytes at → at < length bytes → is_entry bytes at ≡ true → IsEntryAt bytes (at + entry_length bytes at)

pub data IsWrongList (mft : Mft) (list : Held) (content : ListContent) : Sort → ℕ → Type 0 where
  WrongEntry : (at : ℕ) → IsEntryAt content.bytes at → at < length content.bytes → is_entry content.bytes at ≡ false
      → IsWrongList mft list content ListEntry (entry_place mft list content at)

-- an entry of the list of a file names no attribute of it: its record isn't in use or isn't the file's, or has no such one
pub data IsMissing (image : List ℕ) (mft : Mft) (number : ℕ) (base : FileRecord) (entry : Entry) : Sort → ℕ → Type 0 where
  NoSlot : (entry.number ≡ number → ⊥) → slots mft ≤ entry.number → IsMissing image mft number base entry AttributeMissing entry.place
  NotOfFile : (slot : Slot) → (entry.number ≡ number → ⊥) → result_of image (slot_of mft entry.number) ≡ Ok slot
      → ((found : FileRecord) → extension_of (reference_of number base.header) entry.place slot ≡ Ok found → ⊥) → IsMissing image mft number base entry AttributeMissing entry.place
  NoAttribute : (attributes : List Held) → result_of image (named_record mft number base entry) ≡ Ok attributes → find (is_named entry) attributes ≡ None
      → IsMissing image mft number base entry AttributeMissing entry.place
