-- Pieces that are passed as a byte rises.
use Rattle.std.specs.Prelude.{◌≡◌, ℕ, ◌+◌, ◌<◌, ◌≤◌, List, length, drop, get_or}
use Rattle.rx_ranges.specs.declared.pieces.Piece.{Piece}
use Rattle.piece_defs.specs.Places.{place_through}

-- the first pieces put no byte from one on
pub record HasPassed (pieces : List Piece) (passed byte : ℕ) : Type 0 where
  pub same : (later : ℕ) → byte ≤ later → place_through (drop passed pieces) later ≡ place_through pieces later

-- the byte stands in front of the end of the piece behind them
abbrev pub IsInFront : List Piece → ℕ → ℕ → Type 0
IsInFront pieces passed byte = (d : Piece) → passed < length pieces → byte < (get_or pieces passed d).from + (get_or pieces passed d).len
