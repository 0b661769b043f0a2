-- What a tree says lies inside its image.
use Rattle.std.specs.Prelude.{ℕ, ◌+◌, ◌≤◌, All, List}
use Rattle.range_defs.specs.declared.Range.{Range}
use Rattle.range_defs.specs.declared.TheConstants.{LONGEST_IMAGE}
use Rattle.rx_ranges.specs.declared.pieces.Piece.{Piece}
use Rattle.piece_defs.specs.Places.{AreWithin}
use Rattle.rx_tree.specs.PartValue.{PartValue}
use Rattle.rx_tree.specs.TreeValue.{TreeValue}
use Rattle.rx_tree.specs.declared.file.FileEntry.{FileEntry}
use Rattle.rx_tree.specs.declared.volume.Volume.{Volume}

-- ranges that end at most at a byte
abbrev pub AreRangesWithin : ℕ → List Range → Type 0
AreRangesWithin len = All (λ range. range.at + range.len ≤ len)

-- pieces whose bytes on the disk end at most at a byte; a piece of zeros may be longer
abbrev pub ArePiecesWithin : ℕ → List Piece → Type 0
ArePiecesWithin len pieces = AreWithin len pieces

abbrev pub ArePartsWithin : ℕ → List PartValue → Type 0
ArePartsWithin len = All (λ part. ArePiecesWithin len part.pieces × AreRangesWithin len part.slack)

abbrev pub AreFilesWithin : ℕ → List FileEntry → Type 0
AreFilesWithin len = All (λ file. ArePartsWithin len file.parts)

abbrev pub AreVolumesWithin : ℕ → List Volume → Type 0
AreVolumesWithin len = All (λ volume. volume.at + volume.len ≤ len)

-- a tree's image has at most 2^46 bytes, and all that the tree says lies in it
pub record IsWithin (tree : TreeValue) : Type 0 where
  pub in_reach : tree.image_len ≤ LONGEST_IMAGE
  pub volumes : AreVolumesWithin tree.image_len tree.volumes
  pub unread : AreRangesWithin tree.image_len tree.unread
  pub files : AreFilesWithin tree.image_len tree.files
  pub guard : AreRangesWithin tree.image_len tree.guard
