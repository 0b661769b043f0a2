-- The tree of a UFS volume, and its guard.
use Rattle.std.specs.Prelude.{◌≡◌, ℕ, ◌==◌, nat_le, if◌then◌else◌, Result, List, [], ◌∷◌, length}
use Rattle.range_defs.specs.declared.Range.{Range}
use Rattle.range_defs.specs.declared.TheConstants.{LONGEST_IMAGE}
use Rattle.range_defs.specs.Places.{covers, longest_ranges}
use Rattle.bytes_defs.specs.declared.order.Order.{Order}
use Rattle.image_defs.specs.Ask.{Ask, Done, result_of, visits, check, ◌>>=◌, ◌>>◌}
use Rattle.image_defs.specs.Agreement.{AgreeOn}
use Rattle.image_defs.specs.Results.{with_value}
use Rattle.rx_tree.specs.TreeValue.{TreeValue}
use Rattle.rx_tree.specs.declared.file.FileEntry.{FileEntry}
use Rattle.rx_tree.specs.declared.volume.FsKind.{FsKind}
use Rattle.rx_tree.specs.declared.volume.FsKind.TheVariants.{Ufs1, Ufs2}
use Rattle.fault_defs.specs.declared.Refusal.{Refusal}
use Rattle.fault_defs.specs.declared.Refusal.TheVariants.{Limit}
use Rattle.fault_defs.specs.declared.Bound.TheVariants.{Image}
use Rattle.ufs_inode_defs.specs.Superblock.{volume_super}
use Rattle.ufs_inode_defs.specs.declared.superblock.Super.{Super}
use Rattle.ufs_volume_defs.specs.Names.{volume_names}
use Rattle.ufs_volume_defs.specs.Files.{named_files}

-- a volume: its superblock, and its files by rising number
pub record FoundVolume : Type 0 where
  pub superblock : Super
  pub files : List FileEntry

-- the files of a volume with this superblock
unfoldable pub files_below : Super → ℕ → Ask Refusal FoundVolume
files_below sup number = do
  walk ← volume_names sup
  filed ← named_files sup number walk.names
  Done (record { superblock = sup; files = filed.files })

-- the volume of this number in an image of `size` bytes, whose numbers are in one of some orders
unfoldable pub volume_at : List Order → ℕ → Range → ℕ → Ask Refusal FoundVolume
volume_at orders size volume number = do
  sup ← volume_super orders volume
  check (nat_le size LONGEST_IMAGE) (Limit Image LONGEST_IMAGE)
  files_below sup number

-- the guard: the bytes of an image at which one looks for the files of a volume
unfoldable pub guard_of : List Order → List ℕ → Range → ℕ → List Range
guard_of orders image volume number = longest_ranges (covers (visits image (volume_at orders (length image) volume number))) 0 (length image)

abbrev pub kind_of_version : ℕ → FsKind
kind_of_version version = if version == 1 then Ufs1 else Ufs2

abbrev pub tree_of : ℕ → Range → ℕ → List Range → FoundVolume → TreeValue
tree_of size volume number guard found = record {
  image_len = size;
  volumes = record { number = number; kind = kind_of_version found.superblock.version; at = volume.at; len = volume.len } ∷ [];
  unread = [];
  files = found.files;
  guard = guard;
}

-- the tree of a volume of an image, or why it has none
unfoldable pub volume_tree : List Order → List ℕ → Range → ℕ → Result TreeValue Refusal
volume_tree orders image volume number =
    with_value (tree_of (length image) volume number (guard_of orders image volume number)) (result_of image (volume_at orders (length image) volume number))

-- an image of the same length and with the same bytes in the guard has the same tree and the same guard
abbrev pub UfsFootprintLaw : Type 0
UfsFootprintLaw = (orders : List Order) (a b : List ℕ) (volume : Range) (number : ℕ) → AgreeOn (guard_of orders a volume number) a b
    → (volume_tree orders b volume number ≡ volume_tree orders a volume number) × (guard_of orders b volume number ≡ guard_of orders a volume number)
