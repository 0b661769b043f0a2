-- A content has one list of pieces.
use Rattle.std.specs.Prelude.{◌≡◌, ℕ, Option, List}
use Rattle.rx_ranges.specs.declared.pieces.Piece.{Piece}
use Rattle.piece_defs.specs.Places.{ArePiecesAt}

-- a content has one list of pieces
abbrev pub OnePiecesLaw : Type 0
OnePiecesLaw = (place : ℕ → Option ℕ) (size : ℕ) (pieces others : List Piece) → ArePiecesAt place size pieces → ArePiecesAt place size others → pieces ≡ others
