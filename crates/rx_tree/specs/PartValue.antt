-- A part of a file, as it is found in an image.
use Rattle.std.specs.Prelude.{ℕ, Bool, List}
use Rattle.range_defs.specs.declared.Range.{Range}
use Rattle.rx_ranges.specs.declared.pieces.Piece.{Piece}
use Rattle.rx_tree.specs.declared.part.Role.{Role}

-- a part of a file
pub record PartValue : Type 0 where
  pub role : Role
  pub name : List ℕ
  pub size : ℕ
  pub pieces : List Piece
  pub slack : List Range
  pub unreadable : Bool
