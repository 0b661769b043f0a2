-- A file of a volume as the tree of an image is to have it, by which its rows are worked out: no command reads NTFS yet.
use Rattle.std.specs.Prelude.{ℕ, nat_lt, if◌then◌else◌, Some, None, List}
use Rattle.order_defs.specs.Sorted.{sorted_by_order, sorted_names}
use Rattle.rx_tree.specs.PartOrder.{part_cmp}
use Rattle.rx_tree.specs.declared.file.FileEntry.{FileEntry}
use Rattle.rx_tree.specs.declared.file.Kind.{Kind}
use Rattle.rx_tree.specs.declared.file.Kind.TheVariants.{File, Dir, System}
use Rattle.ntfs_volume_defs.specs.Files.{FoundFile}
use Rattle.ntfs_volume_defs.specs.Paths.{paths_of}

-- records 0 to 23 are the file system's own
abbrev pub tree_kind : FoundFile → Kind
tree_kind file = if nat_lt file.number 24 then System else (if file.directory then Dir else File)

-- a file among those of its volume, which has a number; NTFS tells no mode, owner or group
abbrev pub tree_file : ℕ → List FoundFile → FoundFile → FileEntry
tree_file volume files file = record {
  id = record { volume = volume; number = file.number };
  kind = tree_kind file;
  names = sorted_names (paths_of files file);
  mode = None;
  links = Some file.links;
  uid = None;
  gid = None;
  times = file.times;
  parts = sorted_by_order part_cmp file.parts;
}
