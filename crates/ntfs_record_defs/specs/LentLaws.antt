-- What a record lends is what its program finds.
use Rattle.std.specs.Prelude.{◌≡◌, ◌==◌, ℕ, Bool, if◌then◌else◌, Ok, List, [], length, map, slice_get}
use Rattle.image_defs.specs.Ask.{result_of}
use Rattle.ntfs_record_defs.specs.Attributes.{Form, Resident, NonResident, Opened}
use Rattle.ntfs_record_defs.specs.Record.{FileRecord, record_of}
use Rattle.ntfs_record_defs.specs.Lent.{Lent, LentForm, LentContent, LentRuns, lent, lent_attributes, IsRecordSize, mended}
use Rattle.ntfs_record_defs.specs.RecordLaws.{NoContentPlace}

abbrev pub lent_of : List ℕ → Opened → Lent
lent_of bytes found = lent bytes found.attribute

-- a mended record lends the attributes of the record that was stored
abbrev pub MendedLends : Type 0
MendedLends = (stored : List ℕ) (found : FileRecord) → IsRecordSize (length stored) → result_of stored (record_of (length stored)) ≡ Ok found
    → lent_attributes (mended stored) ≡ map (lent_of (mended stored)) found.attributes

-- ---- the content of a resident $DATA, at which no program looks

-- what is lent of an attribute's form, without the bytes of a content of $DATA
abbrev pub form_but_for_content : Bool → LentForm → LentForm
form_but_for_content is_data (LentContent at content) = LentContent at (if is_data then [] else content)
form_but_for_content is_data (LentRuns first last at runs allocated real initialised) = LentRuns first last at runs allocated real initialised

-- a lent attribute without the bytes of the content of a resident $DATA
abbrev pub but_for_content : Lent → Lent
but_for_content attribute = record attribute { form = form_but_for_content (attribute.kind == 0x80) attribute.form }

-- an attribute as it would be lent with the bytes that a record's program found
abbrev pub form_found : Form → List ℕ → LentForm
form_found (Resident content) body = LentContent content.at body
form_found (NonResident stream) body = LentRuns stream.first stream.last stream.runs.at body stream.allocated stream.real stream.initialised

abbrev pub lent_as_found : Opened → Lent
lent_as_found found = record {
  kind = found.attribute.kind;
  at = found.attribute.at;
  name = found.name;
  flags = found.attribute.flags;
  id = found.attribute.id;
  form = form_found found.attribute.form found.body;
}

-- but for that content, a mended record lends the bytes that the record's program finds
abbrev pub MendedLendsFound : Type 0
MendedLendsFound = (stored : List ℕ) (found : FileRecord) → IsRecordSize (length stored) → result_of stored (record_of (length stored)) ≡ Ok found
    → map but_for_content (lent_attributes (mended stored)) ≡ map lent_as_found found.attributes

-- two records that are stored alike but for that content lend the same attributes but for it
abbrev pub LendTheSame : Type 0
LendTheSame = (a b : List ℕ) (found : FileRecord) → IsRecordSize (length a) → result_of a (record_of (length a)) ≡ Ok found → length a ≡ length b
    → ((byte : ℕ) → NoContentPlace found byte → slice_get a byte ≡ slice_get b byte)
    → map but_for_content (lent_attributes (mended a)) ≡ map but_for_content (lent_attributes (mended b))
