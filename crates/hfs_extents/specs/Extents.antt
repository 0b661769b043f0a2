-- Extents and overflow records that lie in their volume.
use Rattle.std.specs.Prelude.{ℕ, ◌+◌, ◌*◌, ◌≤◌, ◌<◌, nat_lt, if◌then◌else◌, All, List}
use Rattle.range_defs.specs.declared.TheConstants.{LONGEST_IMAGE}
use Rattle.range_defs.specs.declared.Range.{Range}
use Rattle.rx_ranges.specs.declared.pieces.Piece.{Piece}
use Rattle.piece_defs.specs.Put.{put}
use Rattle.hfs_defs.specs.declared.forks.Extent.{Extent}
use Rattle.hfs_defs.specs.declared.forks.OverflowRecord.{OverflowRecord}
use Rattle.hfs_defs.specs.declared.header.Header.{Header}

-- an extent that isn't empty ends with so many blocks
abbrev pub EndsIn : ℕ → Extent → Type 0
EndsIn total extent = 0 < extent.count → extent.start + extent.count ≤ total

-- a range ends at a byte of the image or in front of it
abbrev pub EndsBy : ℕ → Range → Type 0
EndsBy end range = range.at + range.len ≤ end

-- the blocks of a volume lie in it, and it ends in the longest image
pub record LiesInImage (header : Header) : Type 0 where
  pub blocks : header.total_blocks * header.block_size ≤ header.len
  pub ends : header.at + header.len ≤ LONGEST_IMAGE

-- overflow records stand at places of the longest image
abbrev pub AreNear : List OverflowRecord → Type 0
AreNear records = All (λ overflow. overflow.at ≤ LONGEST_IMAGE) records

-- pieces with one more at the end, unless that is empty
abbrev pub put_some : List Piece → Piece → List Piece
put_some pieces piece = if nat_lt 0 piece.len then put pieces piece else pieces
