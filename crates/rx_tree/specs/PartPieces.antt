-- The pieces and the slack of a part.
use Rattle.std.specs.Prelude.{◌≡◌, ℕ, ◌+◌, Bool, true, false, ◌&&◌, ◌==◌, IsTrue, not, nat_le, nat_lt, All, List, [], ◌∷◌}
use Rattle.range_defs.specs.declared.Range.{Range}
use Rattle.rx_ranges.specs.declared.pieces.Piece.{Piece}
use Rattle.rx_ranges.specs.declared.pieces.PieceKind.{PieceKind}
use Rattle.rx_ranges.specs.declared.pieces.PieceKind.TheVariants.{Disk, Zero}
use Rattle.piece_defs.specs.Covering.{is_contiguous, covers_from}
use Rattle.piece_defs.specs.Places.{IsPlain}

abbrev pub is_on_disk : PieceKind → Bool
is_on_disk Disk = true
is_on_disk Zero = false

-- the next piece can't be one with this: it begins elsewhere, in the part or in the image
abbrev pub begins_apart : Piece → List Piece → Bool
begins_apart piece [] = true
begins_apart piece (next ∷ pieces) = not (piece.from + piece.len == next.from && is_contiguous piece next)

-- pieces on the disk from a byte of the part on, in order; none is empty, and each is as long as possible
abbrev pub are_pieces_from : ℕ → List Piece → Bool
are_pieces_from from [] = true
are_pieces_from from (piece ∷ pieces) =
    nat_le from piece.from
    && (is_on_disk piece.kind && (nat_lt 0 piece.len && (begins_apart piece pieces && are_pieces_from (piece.from + piece.len) pieces)))

-- the pieces of a readable part cover it; those of an unreadable one stand on the disk, and it has no slack
abbrev pub AreOfPart : Bool → ℕ → List Piece → List Range → Type 0
AreOfPart false size pieces slack = IsTrue (covers_from 0 size pieces)
AreOfPart true size pieces slack = IsTrue (are_pieces_from 0 pieces) × (slack ≡ [])

-- zeros stand nowhere: what their piece says of a place is 0
abbrev pub ArePlain : List Piece → Type 0
ArePlain pieces = All (λ piece. IsPlain piece.kind piece.at) pieces
