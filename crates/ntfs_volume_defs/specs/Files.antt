-- The files of a volume: a base record in use with all its attributes, and what they say.
use Rattle.std.specs.Prelude.{ℕ, Bool, true, false, ◌==◌, Option, Some, None, List, [], ◌∷◌, ◌++◌, map}
use Rattle.range_defs.specs.declared.Range.{Range}
use Rattle.image_defs.specs.Ask.{Ask, Done, given, each, ◌>>=◌}
use Rattle.rx_tree.specs.PartValue.{PartValue}
use Rattle.rx_tree.specs.declared.times.Times.{Times}
use Rattle.ntfs_record_defs.specs.Attributes.{content_of}
use Rattle.ntfs_record_defs.specs.Record.{FileRecord}
use Rattle.ntfs_record_defs.specs.Stored.{count_from}
use Rattle.fault_defs.specs.declared.Refusal.{Refusal}
use Rattle.ntfs_volume_defs.specs.Slots.{Mft, Slot, Empty, Unused, Used, slots, slot_of, is_directory}
use Rattle.ntfs_volume_defs.specs.Segments.{Held}
use Rattle.ntfs_volume_defs.specs.Names.{FoundName, file_names}
use Rattle.ntfs_volume_defs.specs.Times.{times_of}
use Rattle.ntfs_volume_defs.specs.Parts.{parts_of}
use Rattle.ntfs_volume_defs.specs.Lists.{Entry, ListContent, attributes_in, list_of, list_content, entries_of, named_attribute}

-- ---- the attributes of a file

-- all attributes of a file, and the ranges of its list that stand in clusters
pub record Assembled : Type 0 where
  pub attributes : List Held
  pub lists : List Range

-- the attributes that these entries of a list name
abbrev pub with_entries : Mft → ℕ → FileRecord → ListContent → List Entry → Ask Refusal Assembled
with_entries mft number base content entries = do
  attributes ← each (named_attribute mft number base) entries
  Done (record { attributes = attributes; lists = content.guarded })

abbrev pub with_list : Mft → ℕ → FileRecord → Held → ListContent → Ask Refusal Assembled
with_list mft number base list content = given (entries_of mft list content) >>= with_entries mft number base content

abbrev pub assembled_by : Mft → ℕ → FileRecord → Option Held → Ask Refusal Assembled
assembled_by mft number base None = Done (record { attributes = attributes_in number base; lists = [] })
assembled_by mft number base (Some list) = list_content mft list >>= with_list mft number base list

abbrev pub assembled : Mft → ℕ → FileRecord → Ask Refusal Assembled
assembled mft number base = assembled_by mft number base (list_of (attributes_in number base))

-- ---- resident content

-- the content of a resident $DATA, and the slot that holds it
pub record HeldContent : Type 0 where
  pub slot : ℕ
  pub array : ℕ
  pub range : Range

abbrev pub content_in : Held → List HeldContent
content_in held = map (λ range. record { slot = held.slot; array = held.array; range = range }) (content_of held.opened.attribute)

abbrev pub contents_in : List Held → List HeldContent
contents_in [] = []
contents_in (held ∷ more) = content_in held ++ contents_in more

-- ---- a file

pub record FoundFile : Type 0 where
  pub number : ℕ
  pub sequence : ℕ
  pub links : ℕ
  pub directory : Bool
  pub names : List FoundName
  pub times : Times
  pub parts : List PartValue
  pub contents : List HeldContent
  pub lists : List Range

abbrev pub file_with : ℕ → FileRecord → Assembled → List FoundName → List PartValue → FoundFile
file_with number base found names parts = record {
  number = number;
  sequence = base.header.sequence;
  links = base.header.links;
  directory = is_directory base.header;
  names = names;
  times = times_of found.attributes;
  parts = parts;
  contents = contents_in found.attributes;
  lists = found.lists;
}

-- a file with these attributes
abbrev pub with_assembled : Mft → ℕ → FileRecord → Assembled → Ask Refusal (Option FoundFile)
with_assembled mft number base found = do
  names ← given (file_names mft found.attributes)
  parts ← given (parts_of mft found.attributes)
  Done (Some (file_with number base found names parts))

abbrev pub file_by : Mft → ℕ → FileRecord → Bool → Ask Refusal (Option FoundFile)
file_by mft number base false = Done None
file_by mft number base true = assembled mft number base >>= with_assembled mft number base

abbrev pub file_in : Mft → ℕ → Slot → Ask Refusal (Option FoundFile)
file_in mft number Empty = Done None
file_in mft number Unused = Done None
file_in mft number (Used base) = file_by mft number base (base.header.base == 0)

-- the file of a slot: none where that holds no base record in use
unfoldable pub file_of : Mft → ℕ → Ask Refusal (Option FoundFile)
file_of mft number = slot_of mft number >>= file_in mft number

-- the file of each slot, in order
unfoldable pub files_of : Mft → Ask Refusal (List (Option FoundFile))
files_of mft = each (file_of mft) (count_from 0 (slots mft))
