-- File records (FILE_RECORD_SEGMENT_HEADER). The header stands in front of the first two bytes that are replaced, so that
-- its fields are read where they are stored.
use Rattle.std.specs.Prelude.{◌≡◌, ℕ, ◌+◌, ◌/◌, ◌&&◌, Bool, true, ◌==◌, nat_le, List, [], ◌∷◌, take}
use Rattle.std.specs.Str.{bytes_eq}
use Rattle.range_defs.specs.Places.{covers}
use Rattle.image_defs.specs.Ask.{Ask, Done, look, check, each, ◌>>=◌, ◌>>◌}
use Rattle.image_defs.specs.Via.{via}
use Rattle.bytes_defs.specs.Numbers.{little_at}
use Rattle.ntfs_record_defs.specs.declared.fault.RecordFault.{RecordFault}
use Rattle.ntfs_record_defs.specs.declared.fault.RecordFault.TheVariants.{NotFile, BadField}
use Rattle.ntfs_record_defs.specs.Stored.{stored_place, stored_at, entries, array_end, is_array, count_from, ends_with}
use Rattle.ntfs_record_defs.specs.Attributes.{Opened, attributes_from, contents}

-- the fields of the header
pub record Header : Type 0 where
  pub array : ℕ
  pub count : ℕ
  pub sequence : ℕ
  pub links : ℕ
  pub first : ℕ
  pub flags : ℕ
  pub used : ℕ
  pub base : ℕ

unfoldable pub header_of : List ℕ → Header
header_of bytes = record {
  array = little_at 2 bytes 4;
  count = little_at 2 bytes 6;
  sequence = little_at 2 bytes 16;
  links = little_at 2 bytes 18;
  first = little_at 2 bytes 20;
  flags = little_at 2 bytes 22;
  used = little_at 4 bytes 24;
  base = little_at 8 bytes 32;
}

-- "FILE"
abbrev pub is_file : List ℕ → Bool
is_file bytes = bytes_eq (take 4 bytes) (70 ∷ 73 ∷ 76 ∷ 69 ∷ [])

-- a file record: its header and its attributes
pub record FileRecord : Type 0 where
  pub header : Header
  pub attributes : List Opened

-- the used bytes end in the record, and have place for the mark that ends the attributes
abbrev pub is_used_size : ℕ → Header → Bool
is_used_size size header = nat_le header.used size && nat_le (header.first + 4) header.used

-- the attributes of a stored record with this header
abbrev pub stored_attributes : ℕ → Header → Ask RecordFault (List Opened)
stored_attributes size header = via (stored_at header.array) size (attributes_from header.used header.first)

-- the record whose strides end with the check number
abbrev pub record_within : ℕ → Header → Ask RecordFault FileRecord
record_within size header = do
  check (nat_le (array_end size header.array) header.first) (BadField 20)
  check (is_used_size size header) (BadField 24)
  attributes ← stored_attributes size header
  Done (record { header = header; attributes = attributes })

-- the record with this check number
abbrev pub record_with : ℕ → Header → List ℕ → Ask RecordFault FileRecord
record_with size header number = each (ends_with number) (count_from 0 (size / 512)) >> record_within size header

-- the record behind its header
unfoldable pub record_behind : ℕ → Header → Ask RecordFault FileRecord
record_behind size header = do
  check (header.count == entries size) (BadField 6)
  check (is_array size header.array) (BadField 4)
  number ← look header.array 2
  record_with size header number

-- the record that `size` stored bytes hold
unfoldable pub record_of : ℕ → Ask RecordFault FileRecord
record_of size = do
  bytes ← look 0 42
  check (is_file bytes) NotFile
  record_behind size (header_of bytes)

-- ---- resident content

-- a stored byte is the place of a byte of the content of a resident $DATA of the record
abbrev pub IsContentPlace : FileRecord → ℕ → Type 0
IsContentPlace found byte = (i : ℕ) × (covers (contents found.attributes) i ≡ true) × (stored_place found.header.array i ≡ byte)
