-- One more piece at the end of a content's pieces.
use Rattle.std.specs.Prelude.{◌≡◌, ℕ, ◌+◌, ◌<◌, Option, List, [], ◌∷◌}
use Rattle.rx_ranges.specs.declared.pieces.Piece.{Piece}
use Rattle.piece_defs.specs.Places.{IsPlaced, ArePiecesAt}
use Rattle.piece_defs.specs.Joined.{joined_onto}

-- pieces with one more at the end: the last grows where that goes on
abbrev pub put : List Piece → Piece → List Piece
put [] piece = piece ∷ []
put (last ∷ []) piece = joined_onto last (piece ∷ [])
put (first ∷ next ∷ rest) piece = first ∷ put (next ∷ rest) piece

-- with one more piece that puts its bytes where they stand, they are the pieces of the longer content
abbrev pub PutLaw : Type 0
PutLaw = (place : ℕ → Option ℕ) (end : ℕ) (pieces : List Piece) (piece : Piece) → ArePiecesAt place end pieces → piece.from ≡ end → 0 < piece.len → IsPlaced place piece
    → ArePiecesAt place (end + piece.len) (put pieces piece)
