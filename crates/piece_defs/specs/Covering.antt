-- The pieces of a part.
use Rattle.std.specs.Prelude.{ℕ, ◌+◌, Bool, true, false, ◌&&◌, ◌==◌, not, nat_lt, List, [], ◌∷◌}
use Rattle.rx_ranges.specs.declared.pieces.Piece.{Piece}
use Rattle.rx_ranges.specs.declared.pieces.PieceKind.{PieceKind}
use Rattle.rx_ranges.specs.declared.pieces.PieceKind.TheVariants.{Disk, Zero}

-- whether a piece goes on where another ends, so that the two could be one
abbrev pub is_contiguous : Piece → Piece → Bool
is_contiguous piece next = joins piece.kind next.kind (piece.at + piece.len == next.at)
  where
    joins : PieceKind → PieceKind → Bool → Bool
    joins Disk Disk meets = meets
    joins Zero Zero meets = true
    joins Disk Zero meets = false
    joins Zero Disk meets = false

-- the next piece could not be one with this
abbrev pub starts_new_piece : Piece → List Piece → Bool
starts_new_piece piece [] = true
starts_new_piece piece (next ∷ pieces) = not (is_contiguous piece next)

-- the pieces cover the bytes from a place of the part to its end, in order; none is empty, and each is as long as
-- possible
abbrev pub covers_from : ℕ → ℕ → List Piece → Bool
covers_from from size [] = from == size
covers_from from size (piece ∷ pieces) =
    piece.from == from && (nat_lt 0 piece.len && (starts_new_piece piece pieces && covers_from (from + piece.len) size pieces))
