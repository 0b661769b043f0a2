-- The files of a volume: what they are, their names, and their streams as parts.
use Rattle.std.specs.Prelude.{ℕ, ◌==◌, false, if◌then◌else◌, List, [], ◌∷◌, ◌++◌, map, codes, Option, None, Some}
use Rattle.std.specs.List.{filter}
use Rattle.image_defs.specs.Ask.{Ask, Done, ◌>>=◌}
use Rattle.image_defs.specs.Through.{through}
use Rattle.order_defs.specs.Sorted.{sorted_names, rising_numbers}
use Rattle.rx_time.specs.Moments.{unix_moment}
use Rattle.rx_time.specs.declared.Moment.{Moment}
use Rattle.rx_tree.specs.declared.times.Times.{Times}
use Rattle.rx_tree.specs.PartValue.{PartValue}
use Rattle.rx_tree.specs.declared.part.Role.{Role}
use Rattle.rx_tree.specs.declared.part.Role.TheVariants as roles
use Rattle.rx_tree.specs.declared.file.FileEntry.{FileEntry}
use Rattle.rx_tree.specs.declared.file.Kind.{Kind}
use Rattle.rx_tree.specs.declared.file.Kind.TheVariants.{File, Dir, Link, Other, System}
use Rattle.fault_defs.specs.declared.Refusal.{Refusal}
use Rattle.ufs_inode_defs.specs.Inode.{is_directory, is_file, is_link, is_short_link, inode_at}
use Rattle.ufs_inode_defs.specs.Stream.{Stream, content_stream, extended_stream}
use Rattle.ufs_inode_defs.specs.Blocks.{Laid, runs_of, stream_blocks}
use Rattle.ufs_inode_defs.specs.declared.superblock.Super.{Super}
use Rattle.ufs_inode_defs.specs.declared.inode.Inode.{Inode}
use Rattle.ufs_volume_defs.specs.Names.{Named}

abbrev pub kind_of : Inode → Kind
kind_of inode = if is_directory inode then Dir else (if is_file inode then File else (if is_link inode then Link else Other))

-- ---- parts

-- a part that an inode has, and the stream that it is read from
pub record Section : Type 0 where
  pub role : Role
  pub name : List ℕ
  pub stream : Stream

abbrev pub content_section : Super → Inode → Section
content_section sup inode = record { role = roles.Content; name = []; stream = content_stream sup inode }

abbrev pub extended_section : Inode → Section
extended_section inode = record { role = roles.Other; name = codes "ext"; stream = extended_stream inode }

-- a link whose target stands in the inode has no content
abbrev pub content_sections : Super → Inode → List Section
content_sections sup inode = if is_short_link sup inode then [] else (content_section sup inode ∷ [])

abbrev pub extended_sections : Inode → List Section
extended_sections inode = if inode.extsize == 0 then [] else (extended_section inode ∷ [])

-- devices, pipes and sockets have no parts
abbrev pub sections_by : Kind → Super → Inode → List Section
sections_by Other sup inode = []
sections_by File sup inode = content_sections sup inode ++ extended_sections inode
sections_by Dir sup inode = content_sections sup inode ++ extended_sections inode
sections_by Link sup inode = content_sections sup inode ++ extended_sections inode
sections_by System sup inode = content_sections sup inode ++ extended_sections inode

unfoldable pub sections_of : Super → Inode → List Section
sections_of sup inode = sections_by (kind_of inode) sup inode

abbrev pub part_of : Section → Laid → PartValue
part_of section laid = record {
  role = section.role;
  name = section.name;
  size = section.stream.size;
  pieces = laid.pieces;
  slack = laid.slack;
  unreadable = false;
}

-- the parts of an inode so far, and the runs that were counted
pub record Parted : Type 0 where
  pub parts : List PartValue
  pub runs : ℕ

abbrev pub with_part : Parted → Section → Laid → Parted
with_part parted section laid = record { parts = parted.parts ++ part_of section laid ∷ []; runs = runs_of laid }

unfoldable pub section_part : Super → Parted → Section → Ask Refusal Parted
section_part sup parted section = stream_blocks sup section.stream parted.runs >>= (λ laid. Done (with_part parted section laid))

-- the parts of an inode, where so many runs were counted before
unfoldable pub inode_parts : Super → ℕ → Inode → Ask Refusal Parted
inode_parts sup runs inode = through (section_part sup) (record { parts = []; runs = runs }) (sections_of sup inode)

-- ---- files

-- when a file was made, which only UFS2 says
abbrev pub birth_of : Super → Inode → Option Moment
birth_of sup inode = if sup.version == 2 then Some (unix_moment inode.birth) else None

-- the times of an inode
abbrev pub times_of : Super → Inode → Times
times_of sup inode = record {
  modified = Some (unix_moment inode.mtime);
  changed = Some (unix_moment inode.ctime);
  accessed = Some (unix_moment inode.atime);
  created = birth_of sup inode;
}

-- the file of an inode of a number in a volume, with these paths and parts
abbrev pub file_of : Super → ℕ → ℕ → Inode → List (List ℕ) → List PartValue → FileEntry
file_of sup volume number inode paths parts = record {
  id = record { volume = volume; number = number };
  kind = kind_of inode;
  names = sorted_names paths;
  mode = Some inode.mode;
  links = Some inode.nlink;
  uid = Some inode.uid;
  gid = Some inode.gid;
  times = times_of sup inode;
  parts = parts;
}

-- the paths that are given to an inode of a number
abbrev pub paths_of : List Named → ℕ → List (List ℕ)
paths_of names number = map (λ name. name.path) (filter (λ name. name.number == number) names)

-- the files so far, and the runs that were counted
pub record Filed : Type 0 where
  pub files : List FileEntry
  pub runs : ℕ

abbrev pub with_file : Super → ℕ → List Named → Filed → ℕ → Inode → Parted → Filed
with_file sup volume names filed number inode parted =
    record { files = filed.files ++ file_of sup volume number inode (paths_of names number) parted.parts ∷ []; runs = parted.runs }

unfoldable pub number_file : Super → ℕ → List Named → Filed → ℕ → Ask Refusal Filed
number_file sup volume names filed number = do
  inode ← inode_at sup number
  parted ← inode_parts sup filed.runs inode
  Done (with_file sup volume names filed number inode parted)

-- the numbers of the inodes that have names, by rising value
abbrev pub numbers_of : List Named → List ℕ
numbers_of names = rising_numbers (map (λ name. name.number) names)

-- the files of the inodes that have these names
unfoldable pub named_files : Super → ℕ → List Named → Ask Refusal Filed
named_files sup volume names = through (number_file sup volume names) (record { files = []; runs = 0 }) (numbers_of names)
