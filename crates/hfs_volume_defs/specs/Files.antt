-- The files of a volume: their names, and their forks as parts.
use Rattle.std.specs.Prelude.{ℕ, ◌+◌, ◌*◌, Bool, false, not, ◌||◌, ◌==◌, if◌then◌else◌, bit_and, Option, Some, None, Result, Ok, Err, List, [], ◌∷◌, ◌++◌, decimal, codes}
use Rattle.image_defs.specs.Results.{with_value, each_result}
use Rattle.rx_time.specs.Moments.{hfs_moment}
use Rattle.rx_tree.specs.PartValue.{PartValue}
use Rattle.rx_tree.specs.declared.part.Role.TheVariants.{Content}
use Rattle.rx_tree.specs.declared.file.FileEntry.{FileEntry}
use Rattle.rx_tree.specs.declared.file.Kind.{Kind}
use Rattle.rx_tree.specs.declared.file.Kind.TheVariants.{File, Dir, Link, Other, System}
use Rattle.rx_tree.specs.declared.times.Times.{Times}
use Rattle.rx_tree.specs.declared.times.TheConstants.{NO_TIMES}
use Rattle.order_defs.specs.Sorted.{sorted_names}
use Rattle.hfs_defs.specs.Forks.{records_of, extents_with, fork_fault, pieces_of, slack_of}
use Rattle.hfs_volume_defs.specs.Catalog.{Entry, FileInfo}
use Rattle.hfs_volume_defs.specs.Folders.{is_folder, own_path, links_to, listed, is_empty_fork}
use Rattle.fault_defs.specs.declared.Refusal.{Refusal}
use Rattle.hfs_defs.specs.declared.forks.Fork.{Fork}
use Rattle.hfs_defs.specs.declared.forks.OverflowRecord.{OverflowRecord}
use Rattle.hfs_defs.specs.declared.header.Header.{Header}

-- ---- names

-- the entries that give a file its names: the hard links that name it, and else its own
abbrev pub entries_or_own : List Entry → Entry → List Entry
entries_or_own [] entry = entry ∷ []
entries_or_own (link ∷ links) entry = link ∷ links

-- the names of a file
abbrev pub names_of : List Entry → Entry → Result (List (List ℕ)) Refusal
names_of entries entry = with_value sorted_names (each_result (own_path entries) (entries_or_own (links_to entries entry.id) entry))

-- a file of the tree with its names
pub record NamedEntry : Type 0 where
  pub entry : Entry
  pub names : List (List ℕ)

abbrev pub named_entry : List Entry → Entry → Result NamedEntry Refusal
named_entry entries entry = with_value (λ names. record { entry = entry; names = names }) (names_of entries entry)

-- the files of the tree with their names, in the order of the leaf records
abbrev pub named_entries : List Entry → Result (List NamedEntry) Refusal
named_entries entries = each_result (named_entry entries) (listed entries)

-- ---- parts

-- a value, where nothing is wrong
abbrev pub unless : {X : Type 0} → Option Refusal → X → Result X Refusal
unless None x = Ok x
unless (Some fault) x = Err fault

-- the bytes of a fork's blocks
abbrev pub block_bytes : Header → Fork → ℕ
block_bytes header fork = fork.total_blocks * header.block_size

-- the part that a fork is, of a file whose contents can't be read or can
abbrev pub part_with : Header → List OverflowRecord → Fork → Bool → List ℕ → PartValue
part_with header records fork unreadable name = record {
  role = Content;
  name = name;
  size = fork.logical_size;
  pieces = pieces_of header (if unreadable then block_bytes header fork else fork.logical_size) (extents_with records fork);
  slack = if unreadable then [] else slack_of header fork.logical_size (extents_with records fork);
  unreadable = unreadable;
}

-- the part that a file's fork is, whose fork data stand at a place
unfoldable pub fork_part : Header → List OverflowRecord → ℕ → ℕ → Fork → ℕ → Bool → List ℕ → Result PartValue Refusal
fork_part header overflow file fork_type fork place unreadable name =
    unless (fork_fault header (records_of overflow file fork_type) fork place) (part_with header (records_of overflow file fork_type) fork unreadable name)

-- bit 0x20 of the owner's flags: the contents are compressed
abbrev pub is_unreadable : Entry → Bool
is_unreadable entry = not (bit_and entry.owner_flags 0x20 == 0)

abbrev pub followed : {X : Type 0} → Result X Refusal → Result (List X) Refusal → Result (List X) Refusal
followed (Ok x) rest = with_value (λ xs. x ∷ xs) rest
followed (Err e) rest = Err e

-- the data fork, and the resource fork where it has bytes or blocks
abbrev pub fork_parts : Header → List OverflowRecord → Entry → Option FileInfo → Result (List PartValue) Refusal
fork_parts header overflow entry None = Ok []
fork_parts header overflow entry (Some info) =
    followed (fork_part header overflow entry.id 0 info.data_fork (entry.body_at + 88) (is_unreadable entry) [])
    (if is_empty_fork info.resource_fork
    then Ok []
    else followed (fork_part header overflow entry.id 255 info.resource_fork (entry.body_at + 168) (is_unreadable entry) (codes "rsrc")) (Ok []))

-- ---- files

-- the kind of a file by the bits of its mode that say so
abbrev pub kind_of_bits : ℕ → Kind
kind_of_bits bits = if bits == 0xA000 then Link else (if bits == 0 || bits == 0x8000 then File else Other)

abbrev pub kind_of_entry : Entry → Kind
kind_of_entry entry = if is_folder entry then Dir else kind_of_bits (bit_and entry.mode 0xF000)

-- the times of an entry; a date of 0 says none
abbrev pub times_of : Entry → Times
times_of entry = record {
  modified = hfs_moment entry.modified;
  changed = hfs_moment entry.changed;
  accessed = hfs_moment entry.accessed;
  created = hfs_moment entry.created;
}

-- the file of an entry; HFS+ tells no number of links
abbrev pub file_with : ℕ → NamedEntry → List PartValue → FileEntry
file_with volume named parts = record {
  id = record { volume = volume; number = named.entry.id };
  kind = kind_of_entry named.entry;
  names = named.names;
  mode = Some named.entry.mode;
  links = None;
  uid = Some named.entry.owner;
  gid = Some named.entry.group;
  times = times_of named.entry;
  parts = parts;
}

unfoldable pub entry_file : ℕ → Header → List OverflowRecord → NamedEntry → Result FileEntry Refusal
entry_file volume header overflow named = with_value (file_with volume named) (fork_parts header overflow named.entry named.entry.info)

-- a special file: its number, its fork, and the offset of that in the header
pub record SpecialFile : Type 0 where
  pub number : ℕ
  pub fork : Fork
  pub offset : ℕ

-- a special file that has blocks
abbrev pub with_blocks : ℕ → Fork → ℕ → List SpecialFile
with_blocks number fork offset = if fork.total_blocks == 0 then [] else (record { number = number; fork = fork; offset = offset } ∷ [])

-- extents, catalog and allocation, and startup and attributes where they have blocks
abbrev pub special_files : Header → List SpecialFile
special_files header =
    record { number = 3; fork = header.extents; offset = 192 }
    ∷ record { number = 4; fork = header.catalog; offset = 272 }
    ∷ record { number = 6; fork = header.allocation; offset = 112 }
    ∷ (with_blocks 7 header.startup 432 ++ with_blocks 8 header.attributes 352)

-- "/\s" and the number
abbrev pub special_name : SpecialFile → List ℕ
special_name special = codes "/\\s" ++ decimal special.number

-- a special file has no catalog record, and so none of what that tells
unfoldable pub special_file : ℕ → Header → List OverflowRecord → SpecialFile → Result FileEntry Refusal
special_file volume header overflow special =
    with_value (λ part. record {
      id = record { volume = volume; number = special.number };
      kind = System;
      names = special_name special ∷ [];
      mode = None;
      links = None;
      uid = None;
      gid = None;
      times = NO_TIMES;
      parts = part ∷ [];
    })
    (fork_part header overflow special.number 0 special.fork (header.at + 1024 + special.offset) false [])
