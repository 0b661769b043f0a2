-- Pieces that are joined to the longest put each byte where it stands.
use Rattle.std.specs.Prelude.{ℕ, Option, List}
use Rattle.std.specs.List.{All}
use Rattle.rx_ranges.specs.declared.pieces.Piece.{Piece}
use Rattle.piece_defs.specs.Places.{IsPlaced, ArePiecesAt}
use Rattle.piece_defs.specs.Joined.{joined_pieces, AreInARow}

abbrev pub JoinedLaw : Type 0
JoinedLaw = (place : ℕ → Option ℕ) (size : ℕ) (pieces : List Piece) → AreInARow 0 size pieces → All (IsPlaced place) pieces → ArePiecesAt place size (joined_pieces pieces)
