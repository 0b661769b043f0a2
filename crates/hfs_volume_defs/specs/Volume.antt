-- The tree of an HFS+ volume, and its guard.
use Rattle.std.specs.Prelude.{◌≡◌, ℕ, ◌+◌, ◌-◌, nat_le, Option, Some, None, Ok, List, [], ◌∷◌, ◌++◌, length, map}
use Rattle.std.specs.List.{flat_map, sum_by}
use Rattle.range_defs.specs.declared.Range.{Range}
use Rattle.range_defs.specs.declared.TheConstants.{LONGEST_IMAGE}
use Rattle.range_defs.specs.Places.{covers, longest_ranges}
use Rattle.image_defs.specs.Ask.{Ask, Done, Stop, result_of, check, given, ◌>>=◌, ◌>>◌}
use Rattle.image_defs.specs.Agreement.{AgreeOn}
use Rattle.image_defs.specs.Results.{each_result}
use Rattle.rx_tree.specs.TreeValue.{TreeValue}
use Rattle.rx_tree.specs.declared.file.FileEntry.{FileEntry}
use Rattle.rx_tree.specs.declared.volume.FsKind.TheVariants.{HfsPlus}
use Rattle.order_defs.specs.Sorted.{sorted_by}
use Rattle.hfs_defs.specs.Header.{volume_header}
use Rattle.hfs_defs.specs.Forks.{block_place, extent_bytes, records_of, extents_with}
use Rattle.hfs_defs.specs.TreeFiles.{catalog_at, fork_leaves, volume_overflow}
use Rattle.hfs_volume_defs.specs.Catalog.{Entry, catalog_entries}
use Rattle.hfs_volume_defs.specs.Folders.{first_twice, has_folder, first_outside}
use Rattle.hfs_volume_defs.specs.Files.{NamedEntry, named_entries, entry_file, special_files, special_name, special_file}
use Rattle.fault_defs.specs.declared.Refusal.{Refusal}
use Rattle.fault_defs.specs.declared.Refusal.TheVariants.{Damaged, Limit}
use Rattle.fault_defs.specs.declared.Bound.TheVariants.{Image, Names, PathBytes, Runs}
use Rattle.fault_defs.specs.declared.Sort.{Sort}
use Rattle.fault_defs.specs.declared.Sort.TheVariants.{CatalogTwice, FolderMissing}
use Rattle.hfs_defs.specs.declared.forks.Extent.{Extent}
use Rattle.hfs_defs.specs.declared.forks.OverflowRecord.{OverflowRecord}
use Rattle.hfs_defs.specs.declared.header.Header.{Header}

-- the folders and files of a volume
unfoldable pub volume_entries : Header → List OverflowRecord → Ask Refusal (List Entry)
volume_entries header overflow = do
  leaves ← fork_leaves header (records_of overflow 4 0) header.catalog (catalog_at header)
  given (catalog_entries leaves)

-- ---- what is wrong with the entries of a catalog

-- an entry, where there is one, is damaged in this way
abbrev pub refuse : Sort → Option Entry → Ask Refusal (Unit {0})
refuse sort None = Done tt
refuse sort (Some entry) = Stop (Damaged sort entry.at)

-- each number stands once, the root folder is there, and each entry is in a folder
unfoldable pub sound_entries : Header → List Entry → Ask Refusal (Unit {0})
sound_entries header entries = do
  refuse CatalogTwice (first_twice [] entries)
  check (has_folder entries 2) (Damaged FolderMissing (catalog_at header))
  refuse FolderMissing (first_outside entries entries)

-- ---- limits

abbrev pub most_names : ℕ
most_names = 1000000

abbrev pub most_path_bytes : ℕ
most_path_bytes = 1073741824

abbrev pub most_runs : ℕ
most_runs = 4000000

-- the names of all files
abbrev pub all_names : Header → List NamedEntry → List (List ℕ)
all_names header named = flat_map (λ file. file.names) named ++ map special_name (special_files header)

unfoldable pub names_within : List (List ℕ) → Ask Refusal (Unit {0})
names_within names = do
  check (nat_le (length names) most_names) (Limit Names most_names)
  check (nat_le (sum_by length names) most_path_bytes) (Limit PathBytes most_path_bytes)

-- the pieces of all parts of all files
abbrev pub run_count : List FileEntry → ℕ
run_count files = sum_by (λ file. sum_by (λ part. length part.pieces) file.parts) files

-- ---- the guard

-- the blocks of extents, as ranges of the image
abbrev pub block_ranges : Header → List Extent → List Range
block_ranges header extents = map (λ extent. record { at = block_place header extent.start; len = extent_bytes header extent }) extents

-- the first 1,536 and the last 1,024 bytes of the volume, and all blocks of the extents and the catalog
abbrev pub guard_ranges : Header → List OverflowRecord → List Range
guard_ranges header overflow =
    record { at = header.at; len = 1536 }
    ∷ record { at = header.at + header.len - 1024; len = 1024 }
    ∷ (block_ranges header header.extents.extents ++ block_ranges header (extents_with (records_of overflow 4 0) header.catalog))

unfoldable pub guard_of : ℕ → Header → List OverflowRecord → List Range
guard_of size header overflow = longest_ranges (covers (guard_ranges header overflow)) 0 size

-- ---- the tree

abbrev pub tree_with : ℕ → ℕ → Header → List OverflowRecord → List FileEntry → TreeValue
tree_with size volume header overflow files = record {
  image_len = size;
  volumes = record { number = volume; kind = HfsPlus; at = header.at; len = header.len } ∷ [];
  unread = [];
  files = sorted_by (λ file. file.id.number) files;
  guard = guard_of size header overflow;
}

-- the files of entries with their names, and the special files, where they have no more pieces than a limit
unfoldable pub files_within : ℕ → Header → List OverflowRecord → List NamedEntry → Ask Refusal (List FileEntry)
files_within volume header overflow named = do
  files ← given (each_result (entry_file volume header overflow) named)
  specials ← given (each_result (special_file volume header overflow) (special_files header))
  check (nat_le (run_count (files ++ specials)) most_runs) (Limit Runs most_runs)
  Done (files ++ specials)

-- the files of a volume with these entries
unfoldable pub volume_files : ℕ → Header → List OverflowRecord → List Entry → Ask Refusal (List FileEntry)
volume_files volume header overflow entries = do
  sound_entries header entries
  named ← given (named_entries entries)
  names_within (all_names header named)
  files_within volume header overflow named

-- the tree of a volume with this header
unfoldable pub tree_below : ℕ → ℕ → Header → Ask Refusal TreeValue
tree_below size volume header = do
  overflow ← volume_overflow header
  entries ← volume_entries header overflow
  files ← volume_files volume header overflow entries
  Done (tree_with size volume header overflow files)

-- the tree of a volume of `len` bytes at `at` in an image of `size` bytes
unfoldable pub volume_tree : ℕ → ℕ → ℕ → ℕ → Ask Refusal TreeValue
volume_tree size at len volume = do
  header ← volume_header at len
  check (nat_le size LONGEST_IMAGE) (Limit Image LONGEST_IMAGE)
  tree_below size volume header

-- the law of the footprint: an image that has the same length and the same bytes in the guard has the same tree
abbrev pub HfsFootprintLaw : Type 0
HfsFootprintLaw = (a b : List ℕ) (at len volume : ℕ) (tree : TreeValue) → result_of a (volume_tree (length a) at len volume) ≡ Ok tree → AgreeOn tree.guard a b
    → result_of b (volume_tree (length b) at len volume) ≡ Ok tree
