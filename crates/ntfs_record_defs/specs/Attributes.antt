-- The attributes of a file record (ATTRIBUTE_RECORD_HEADER), by the record's true bytes. The content of a resident $DATA
-- is no part of what a record says: its place is, and its bytes aren't looked at.
use Rattle.std.specs.Prelude.{ℕ, zero, suc, ◌+◌, ◌-◌, ◌*◌, ◌%◌, ◌&&◌, ◌||◌, Bool, true, false, ◌==◌, nat_le, if◌then◌else◌, Option, Some, None, List, [], ◌∷◌, ◌++◌, slice_index}
use Rattle.range_defs.specs.declared.Range.{Range}
use Rattle.image_defs.specs.Ask.{Ask, Done, Stop, look, check, ◌>>=◌, ◌>>◌}
use Rattle.bytes_defs.specs.Numbers.{little_at}
use Rattle.ntfs_record_defs.specs.declared.fault.RecordFault.{RecordFault}
use Rattle.ntfs_record_defs.specs.declared.fault.RecordFault.TheVariants.{BadField}

-- the header of an attribute that isn't resident: its first and last virtual cluster, where its run list stands in the
-- record, and its sizes in bytes
pub record Stream : Type 0 where
  pub first : ℕ
  pub last : ℕ
  pub runs : Range
  pub allocated : ℕ
  pub real : ℕ
  pub initialised : ℕ

-- an attribute's content stands in the record, or in clusters
pub data Form : Type 0 where
  Resident : Range → Form
  NonResident : Stream → Form

-- an attribute: its type, its place in the record, its length, where its name stands, its flags, its id
pub record Attribute : Type 0 where
  pub kind : ℕ
  pub at : ℕ
  pub len : ℕ
  pub name : Range
  pub flags : ℕ
  pub id : ℕ
  pub form : Form

-- an attribute with the bytes of its name, and of its run list or its content
pub record Opened : Type 0 where
  pub attribute : Attribute
  pub name : List ℕ
  pub body : List ℕ

-- ---- the header, 24 bytes of a resident attribute and 64 of another

-- the type that ends the attributes
abbrev pub is_end_mark : List ℕ → Bool
is_end_mark bytes = little_at 4 bytes 0 == 0xFFFFFFFF

abbrev pub is_resident : List ℕ → Bool
is_resident start = slice_index start 8 == 0

abbrev pub header_size : Bool → ℕ
header_size true = 24
header_size false = 64

abbrev pub length_of : List ℕ → ℕ
length_of start = little_at 4 start 4

-- the length is a multiple of 8 that has place for the header and doesn't pass the bytes that are left
unfoldable pub is_length : ℕ → List ℕ → Bool
is_length left start =
    length_of start % 8 == 0 && (nat_le (header_size (is_resident start)) (length_of start) && nat_le (length_of start) left)

-- where the content or the run list stands in the attribute
abbrev pub body_offset : Bool → List ℕ → ℕ
body_offset true header = little_at 2 header 20
body_offset false header = little_at 2 header 32

abbrev pub body_length : Bool → ℕ → List ℕ → ℕ
body_length true len header = little_at 4 header 16
body_length false len header = len - little_at 2 header 32

abbrev pub name_offset : List ℕ → ℕ
name_offset start = little_at 2 start 10

abbrev pub name_length : List ℕ → ℕ
name_length start = 2 * slice_index start 9

-- a name stands between the header and the content or the run list
abbrev pub is_name_place : ℕ → ℕ → ℕ → ℕ → Bool
is_name_place size offset len body = len == 0 || (nat_le size offset && nat_le (offset + len) body)

-- the parts of an attribute stand behind its header, the name in front of the content or the run list, and in the attribute
unfoldable pub is_layout : Bool → List ℕ → List ℕ → Bool
is_layout resident start header =
    is_name_place (header_size resident) (name_offset start) (name_length start) (body_offset resident header)
    && (nat_le (header_size resident) (body_offset resident header)
    && nat_le (body_offset resident header + body_length resident (length_of start) header) (length_of start))

abbrev pub form_of : Bool → ℕ → ℕ → List ℕ → Form
form_of true at len header = Resident (record { at = at + body_offset true header; len = body_length true len header })
form_of false at len header = NonResident (record {
  first = little_at 8 header 16;
  last = little_at 8 header 24;
  runs = record { at = at + body_offset false header; len = body_length false len header };
  allocated = little_at 8 header 40;
  real = little_at 8 header 48;
  initialised = little_at 8 header 56;
})

-- the attribute that these bytes describe
abbrev pub attribute_of : ℕ → List ℕ → List ℕ → Attribute
attribute_of at start header = record {
  kind = little_at 4 start 0;
  at = at;
  len = length_of start;
  name = record { at = at + name_offset start; len = name_length start };
  flags = little_at 2 start 12;
  id = little_at 2 start 14;
  form = form_of (is_resident start) at (length_of start) header;
}

-- ---- what is looked at

-- where the content or the run list stands in the record
abbrev pub body_of : Form → Range
body_of (Resident content) = content
body_of (NonResident stream) = stream.runs

abbrev pub is_resident_form : Form → Bool
is_resident_form (Resident content) = true
is_resident_form (NonResident stream) = false

-- the content of a resident $DATA
abbrev pub is_content : Attribute → Bool
is_content attribute = attribute.kind == 0x80 && is_resident_form attribute.form

-- the bytes of a range
abbrev pub look_in : {E : Type 0} → Range → Ask E (List ℕ)
look_in range = look range.at range.len

-- the run list of an attribute, or its content: that of a $DATA is passed by
abbrev pub body_asked : Attribute → Ask RecordFault (List ℕ)
body_asked attribute = if is_content attribute then Done [] else look_in (body_of attribute.form)

-- an attribute with the bytes of its name and of its body
abbrev pub opened : Attribute → Ask RecordFault Opened
opened attribute = do
  name ← look_in attribute.name
  body ← body_asked attribute
  Done (record { attribute = attribute; name = name; body = body })

-- the attribute at a place, from the first 16 bytes of its header and from the whole of it
abbrev pub attribute_with : ℕ → List ℕ → List ℕ → Ask RecordFault Opened
attribute_with at start header = do
  check (is_layout (is_resident start) start header) (BadField at)
  opened (attribute_of at start header)

-- from the first 16 bytes alone
abbrev pub attribute_from : ℕ → ℕ → List ℕ → Ask RecordFault Opened
attribute_from used at start = do
  check (is_length (used - at) start) (BadField at)
  header ← look at (header_size (is_resident start))
  attribute_with at start header

-- the attribute at a place of a record in which `used` bytes are used
abbrev pub attribute_at : ℕ → ℕ → Ask RecordFault Opened
attribute_at used at = do
  check (nat_le (at + 16) used) (BadField at)
  start ← look at 16
  attribute_from used at start

abbrev pub unless_ended : ℕ → ℕ → Bool → Ask RecordFault (Option Opened)
unless_ended used at true = Done None
unless_ended used at false = attribute_at used at >>= (λ found. Done (Some found))

-- the attribute that begins at a place: none where the mark stands that ends them
abbrev pub next_attribute : ℕ → ℕ → Ask RecordFault (Option Opened)
next_attribute used at = do
  check (nat_le (at + 4) used) (BadField at)
  mark ← look at 4
  unless_ended used at (is_end_mark mark)

-- an attribute and those behind it
abbrev pub and_behind : (ℕ → Ask RecordFault (List Opened)) → Option Opened → Ask RecordFault (List Opened)
and_behind behind None = Done []
and_behind behind (Some first) = do
  more ← behind (first.attribute.at + first.attribute.len)
  Done (first ∷ more)

-- the attributes from a place on, as far as a number of them goes
unfoldable pub attributes_within : ℕ → ℕ → ℕ → Ask RecordFault (List Opened)
attributes_within zero used at = Stop (BadField at)
attributes_within (suc count) used at = next_attribute used at >>= and_behind (attributes_within count used)

-- the attributes from a place on: there are at most as many as bytes
abbrev pub attributes_from : ℕ → ℕ → Ask RecordFault (List Opened)
attributes_from used at = attributes_within (used - at) used at

-- ---- resident content

-- the ranges of the record that are the content of a resident $DATA
abbrev pub content_of : Attribute → List Range
content_of attribute = if is_content attribute then body_of attribute.form ∷ [] else []

abbrev pub contents : List Opened → List Range
contents [] = []
contents (first ∷ more) = content_of first.attribute ++ contents more
