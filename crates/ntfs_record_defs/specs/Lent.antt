-- The attributes of a record whose true bytes stand in place, as a record lends them.
use Rattle.std.specs.Prelude.{◌+◌, ◌-◌, ◌<◌, ◌≤◌, ◌∷◌, nat_le, if◌then◌else◌, ◌≡◌, ℕ, ◌⊎◌, true, Option, Some, None, Result, Ok, Err, List, [], map, length, IsOk}
use Rattle.range_defs.specs.declared.Range.{Range}
use Rattle.bytes_defs.specs.Bytes.{part}
use Rattle.image_defs.specs.Ask.{result_of}
use Rattle.image_defs.specs.Results.{with_value}
use Rattle.ntfs_record_defs.specs.declared.fault.RecordFault.{RecordFault}
use Rattle.ntfs_record_defs.specs.declared.fault.RecordFault.TheVariants.{BadField}
use Rattle.ntfs_record_defs.specs.Stored.{is_array, true_bytes}
use Rattle.ntfs_record_defs.specs.Attributes.{Form, Resident, NonResident, Attribute, Opened, is_end_mark, is_resident, is_length, is_layout, header_size, attribute_of, attributes_from}
use Rattle.ntfs_record_defs.specs.Record.{header_of, is_used_size}

-- content in the record, or a run list: where it stands, and its bytes
pub data LentForm : Type 0 where
  LentContent : ℕ → List ℕ → LentForm
  LentRuns : ℕ → ℕ → ℕ → List ℕ → ℕ → ℕ → ℕ → LentForm

pub record Lent : Type 0 where
  pub kind : ℕ
  pub at : ℕ
  pub name : List ℕ
  pub flags : ℕ
  pub id : ℕ
  pub form : LentForm

abbrev pub bytes_in : List ℕ → Range → List ℕ
bytes_in record_bytes range = part record_bytes range.at range.len

abbrev pub lent_form : List ℕ → Form → LentForm
lent_form bytes (Resident content) = LentContent content.at (bytes_in bytes content)
lent_form bytes (NonResident stream) = LentRuns stream.first stream.last stream.runs.at (bytes_in bytes stream.runs) stream.allocated stream.real stream.initialised

-- an attribute as the bytes of its record show it
abbrev pub lent : List ℕ → Attribute → Lent
lent bytes attribute = record {
  kind = attribute.kind;
  at = attribute.at;
  name = bytes_in bytes attribute.name;
  flags = attribute.flags;
  id = attribute.id;
  form = lent_form bytes attribute.form;
}

-- the attribute that these bytes describe, as its record lends it
abbrev pub lent_with : List ℕ → ℕ → List ℕ → List ℕ → Result Lent RecordFault
lent_with bytes at start header =
    if is_layout (is_resident start) start header then Ok (lent bytes (attribute_of at start header)) else Err (BadField at)

abbrev pub lent_behind : List ℕ → ℕ → ℕ → List ℕ → Result Lent RecordFault
lent_behind bytes used at start =
    if is_length (used - at) start then lent_with bytes at start (part bytes at (header_size (is_resident start))) else Err (BadField at)

abbrev pub lent_at : List ℕ → ℕ → ℕ → Result Lent RecordFault
lent_at bytes used at = if nat_le (at + 16) used then lent_behind bytes used at (part bytes at 16) else Err (BadField at)

-- the attribute that begins at a place: none where the mark stands that ends them
unfoldable pub lent_next : List ℕ → ℕ → ℕ → Result (Option Lent) RecordFault
lent_next bytes used at =
    if nat_le (at + 4) used
    then (if is_end_mark (part bytes at 4) then Ok None else with_value Some (lent_at bytes used at))
    else Err (BadField at)

-- the attributes from a place on of a record in which `used` bytes are used, where they are sound
abbrev pub lent_all : List ℕ → Result (List Opened) RecordFault → List Lent
lent_all bytes (Ok found) = map (λ opened. lent bytes opened.attribute) found
lent_all bytes (Err fault) = []

unfoldable pub lent_from : List ℕ → ℕ → List Lent
lent_from bytes at = lent_all bytes (result_of bytes (attributes_from (header_of bytes).used at))

abbrev pub lent_attributes : List ℕ → List Lent
lent_attributes bytes = lent_from bytes (header_of bytes).first

-- where the content or the run list of an attribute stands, and its bytes
abbrev pub body_place : LentForm → ℕ
body_place (LentContent at content) = at
body_place (LentRuns first last at runs allocated real initialised) = at

abbrev pub body_bytes : LentForm → List ℕ
body_bytes (LentContent at content) = content
body_bytes (LentRuns first last at runs allocated real initialised) = runs

-- attributes from a place on rise, and end by another: each begins behind the one in front, with its content or run list
-- behind its first byte
abbrev pub RiseFrom : ℕ → ℕ → List Lent → Type 0
RiseFrom end at [] = at ≤ end
RiseFrom end at (one ∷ more) = (at ≤ one.at) × (one.at < body_place one.form) × RiseFrom end (body_place one.form + length (body_bytes one.form)) more

-- the attributes that a record lends don't overlap, and end in its used bytes
abbrev pub AreApart : List ℕ → Type 0
AreApart bytes = RiseFrom (header_of bytes).used (header_of bytes).first (lent_attributes bytes)

-- the stored bytes are as many as a record has
abbrev pub IsRecordSize : ℕ → Type 0
IsRecordSize size = (size ≡ 1024) ⊎ (size ≡ 4096)

-- a record whose true bytes stand in place, and whose fields and attributes passed their checks
pub record IsMended (bytes : List ℕ) : Type 0 where
  pub size : IsRecordSize (length bytes)
  pub array : is_array (length bytes) (header_of bytes).array ≡ true
  pub used : is_used_size (length bytes) (header_of bytes) ≡ true
  pub sound : IsOk (result_of bytes (attributes_from (header_of bytes).used (header_of bytes).first))

-- the record that stored bytes hold, its true bytes in place
abbrev pub mended : List ℕ → List ℕ
mended stored = true_bytes (header_of stored).array stored
