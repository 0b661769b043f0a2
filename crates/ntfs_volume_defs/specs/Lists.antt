-- Attribute lists (ATTRIBUTE_LIST_ENTRY), which name the attributes of a file that stand in several records.
use Rattle.std.specs.Prelude.{ℕ, zero, suc, ◌+◌, ◌*◌, ◌/◌, ◌%◌, ◌^◌, Bool, true, false, ◌&&◌, ◌||◌, ◌==◌, nat_le, nat_lt, if◌then◌else◌, Option, Some, None, Result, Ok, Err, List, [], ◌∷◌, length, find, slice_index}
use Rattle.std.specs.Str.{bytes_eq}
use Rattle.std.specs.Option.{ok_or}
use Rattle.range_defs.specs.declared.Range.{Range}
use Rattle.bytes_defs.specs.Bytes.{part}
use Rattle.image_defs.specs.Ask.{Ask, Done, check, given, ◌>>=◌, ◌>>◌}
use Rattle.image_defs.specs.Results.{with_value}
use Rattle.image_defs.specs.Via.{look_bytes}
use Rattle.bytes_defs.specs.Numbers.{little_at}
use Rattle.ntfs_record_defs.specs.Attributes.{Form, Resident, NonResident, Opened}
use Rattle.ntfs_record_defs.specs.Record.{Header, FileRecord}
use Rattle.ntfs_record_defs.specs.Stored.{stored_place}
use Rattle.fault_defs.specs.declared.Sort.TheVariants.{ListEntry, AttributeMissing}
use Rattle.fault_defs.specs.declared.Bound.TheVariants.{AttributeList}
use Rattle.fault_defs.specs.declared.Refusal.{Refusal}
use Rattle.fault_defs.specs.declared.Refusal.TheVariants.{Damaged, Limit}
use Rattle.ntfs_volume_defs.specs.Streams.{Stream, stream_place}
use Rattle.ntfs_volume_defs.specs.Slots.{Mft, Slot, Empty, Unused, Used, slots, slot_place, slot_of}
use Rattle.ntfs_volume_defs.specs.Segments.{Held, kind_of, name_of, attribute_place, stream_of}

-- the attributes of a record that a slot holds
abbrev pub held_in : ℕ → ℕ → List Opened → List Held
held_in slot array [] = []
held_in slot array (opened ∷ more) = record { slot = slot; array = array; opened = opened } ∷ held_in slot array more

abbrev pub attributes_in : ℕ → FileRecord → List Held
attributes_in slot found = held_in slot found.header.array found.attributes

-- ---- the content of a list, with the image place of each of its bytes

pub record ListContent : Type 0 where
  pub bytes : List ℕ
  pub place : ℕ → Option ℕ
  pub guarded : List Range

-- the content of a resident list was read with its record
abbrev pub resident_list : Mft → Held → Range → ListContent
resident_list mft held content = record {
  bytes = held.opened.body;
  place = λ i. slot_place mft held.slot (stored_place held.array (content.at + i));
  guarded = [];
}

-- the places of the first bytes of a stream, so many, as ranges of one byte
abbrev pub at_byte : Option ℕ → List Range → List Range
at_byte None ranges = ranges
at_byte (Some place) ranges = record { at = place; len = 1 } ∷ ranges

abbrev pub byte_ranges : (ℕ → Option ℕ) → ℕ → List Range
byte_ranges place zero = []
byte_ranges place (suc n) = at_byte (place n) (byte_ranges place n)

-- a list in clusters is read through its runs, whatever its flags say
abbrev pub list_with : Mft → Stream → List ℕ → ListContent
list_with mft stream bytes = record {
  bytes = bytes;
  place = stream_place mft.boot stream;
  guarded = byte_ranges (stream_place mft.boot stream) stream.real;
}

abbrev pub stream_list : Mft → Stream → Ask Refusal ListContent
stream_list mft stream = do
  check (nat_le stream.real 1048576) (Limit AttributeList 1048576)
  bytes ← look_bytes (stream_place mft.boot stream) 0 stream.real
  Done (list_with mft stream bytes)

abbrev pub list_by : Mft → Held → Form → Ask Refusal ListContent
list_by mft held (Resident content) = Done (resident_list mft held content)
list_by mft held (NonResident header) = given (stream_of mft held []) >>= stream_list mft

abbrev pub list_content : Mft → Held → Ask Refusal ListContent
list_content mft held = list_by mft held held.opened.attribute.form

-- ---- its entries

-- an entry: its image place, and the type, name, id, first virtual cluster and record of the attribute that it names
pub record Entry : Type 0 where
  pub place : ℕ
  pub kind : ℕ
  pub name : List ℕ
  pub id : ℕ
  pub first : ℕ
  pub number : ℕ

-- the record number of a reference stands in its low 48 bits, and the sequence number above
abbrev pub number_of : ℕ → ℕ
number_of reference = reference % 2 ^ 48

abbrev pub sequence_of : ℕ → ℕ
sequence_of reference = reference / 2 ^ 48

abbrev pub reference_of : ℕ → Header → ℕ
reference_of number header = header.sequence * 2 ^ 48 + number

abbrev pub entry_length : List ℕ → ℕ → ℕ
entry_length bytes at = little_at 2 bytes (at + 4)

abbrev pub entry_name_length : List ℕ → ℕ → ℕ
entry_name_length bytes at = 2 * slice_index bytes (at + 6)

abbrev pub entry_name_offset : List ℕ → ℕ → ℕ
entry_name_offset bytes at = slice_index bytes (at + 7)

-- an entry has place for its fields, is a multiple of 8 long, doesn't pass the list, and holds its name, if it has one
unfoldable pub is_entry : List ℕ → ℕ → Bool
is_entry bytes at =
    nat_le (at + 26) (length bytes)
    && (nat_le 26 (entry_length bytes at)
    && (entry_length bytes at % 8 == 0
    && (nat_le (at + entry_length bytes at) (length bytes)
    && (entry_name_length bytes at == 0 || nat_le (entry_name_offset bytes at + entry_name_length bytes at) (entry_length bytes at)))))

-- the place of a byte of a list: that of the list's attribute where the byte stands nowhere
abbrev pub entry_place : Mft → Held → ListContent → ℕ → ℕ
entry_place mft held list at = known (list.place at)
  where
    known : Option ℕ → ℕ
    known None = attribute_place mft held
    known (Some place) = place

abbrev pub entry_of : List ℕ → ℕ → ℕ → Entry
entry_of bytes at place = record {
  place = place;
  kind = little_at 4 bytes at;
  name = part bytes (at + entry_name_offset bytes at) (entry_name_length bytes at);
  id = little_at 2 bytes (at + 24);
  first = little_at 8 bytes (at + 8);
  number = number_of (little_at 8 bytes (at + 16));
}

-- the entries of a list from a byte on, as far as a number of them goes
unfoldable pub entries_within : ℕ → (ℕ → ℕ) → List ℕ → ℕ → Result (List Entry) Refusal
entries_within zero place bytes at = Ok []
entries_within (suc count) place bytes at =
    if nat_le (length bytes) at then Ok []
    else (if is_entry bytes at
    then with_value (λ more. entry_of bytes at (place at) ∷ more) (entries_within count place bytes (at + entry_length bytes at))
    else Err (Damaged ListEntry (place at)))

abbrev pub entries_of : Mft → Held → ListContent → Result (List Entry) Refusal
entries_of mft held list = entries_within (length list.bytes) (entry_place mft held list) list.bytes 0

-- ---- the attribute that an entry names

abbrev pub first_of : Form → ℕ
first_of (Resident content) = 0
first_of (NonResident header) = header.first

abbrev pub is_named : Entry → Held → Bool
is_named entry held =
    kind_of held == entry.kind
    && (bytes_eq (name_of held) entry.name
    && (held.opened.attribute.id == entry.id && first_of held.opened.attribute.form == entry.first))

abbrev pub named_in : Entry → List Held → Result Held Refusal
named_in entry attributes = ok_or (find (is_named entry) attributes) (Damaged AttributeMissing entry.place)

-- an extension record names the file's base record by the whole reference
abbrev pub extension_of : ℕ → ℕ → Slot → Result FileRecord Refusal
extension_of reference place Empty = Err (Damaged AttributeMissing place)
extension_of reference place Unused = Err (Damaged AttributeMissing place)
extension_of reference place (Used found) =
    if found.header.base == reference && nat_lt 0 reference then Ok found else Err (Damaged AttributeMissing place)

-- the attributes of a slot that holds an extension record of a file
abbrev pub extension_attributes : ℕ → FileRecord → Entry → Slot → Ask Refusal (List Held)
extension_attributes number base entry slot =
    given (extension_of (reference_of number base.header) entry.place slot) >>= (λ found. Done (attributes_in entry.number found))

-- the attributes of the record that an entry of a file names: the base record, or an extension record
abbrev pub record_named : Mft → ℕ → FileRecord → Entry → Bool → Ask Refusal (List Held)
record_named mft number base entry true = Done (attributes_in number base)
record_named mft number base entry false = do
  check (nat_lt entry.number (slots mft)) (Damaged AttributeMissing entry.place)
  slot ← slot_of mft entry.number
  extension_attributes number base entry slot

abbrev pub named_record : Mft → ℕ → FileRecord → Entry → Ask Refusal (List Held)
named_record mft number base entry = record_named mft number base entry (entry.number == number)

unfoldable pub named_attribute : Mft → ℕ → FileRecord → Entry → Ask Refusal Held
named_attribute mft number base entry = named_record mft number base entry >>= (λ attributes. given (named_in entry attributes))

-- the attribute list of a base record: its first attribute of that type
abbrev pub list_of : List Held → Option Held
list_of attributes = find (λ held. kind_of held == 0x20) attributes
