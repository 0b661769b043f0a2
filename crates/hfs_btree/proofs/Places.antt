-- The place of a byte, looked for piece by piece.
use Rattle.std.specs.Prelude.{◌≡◌, ℕ, ◌+◌, ◌<◌, ◌≤◌, List, [], ◌∷◌, length, drop, get_or, refl}
use Rattle.std.proofs.Common.{subst, arith}
use Rattle.std.proofs.lemmas.List.{drop_more}
use Rattle.std.proofs.lemmas.List.Elements.{All-weaker}
use Rattle.rx_ranges.specs.declared.pieces.Piece.{Piece}
use Rattle.piece_defs.specs.Joined.{AreInARow}
use Rattle.rx_ranges.specs.declared.pieces.PieceKind.{PieceKind}
use Rattle.rx_ranges.specs.declared.pieces.PieceKind.TheVariants.{Disk, Zero}
use Rattle.piece_defs.specs.Places.{IsWithin, AreWithin}
use Rattle.hfs_defs.specs.Leaves.{image_place}

-- pieces in a row begin in front of their end
pub row_rises : (from size : ℕ) (pieces : List Piece) → AreInARow from size pieces → from ≤ size
row_rises from size [] row = omega (arith, row)
row_rises from size (piece ∷ pieces) row = omega (arith, row_rises (from + piece.len) size pieces row.2)

-- a byte stands in none of the pieces in front of one
pub record IsAhead (pieces : List Piece) (len byte i : ℕ) : Type 0 where
  pub from : ℕ
  pub row : AreInARow from len (drop i pieces)
  pub stands_behind : from ≤ byte
  pub place : image_place (drop i pieces) byte ≡ image_place pieces byte

pub ahead_starts : (pieces : List Piece) (len byte : ℕ) → AreInARow 0 len pieces → IsAhead pieces len byte 0
ahead_starts pieces len byte row = record { from = 0; row = row; stands_behind = omega arith; place = refl }

-- the piece that is looked at ends in the file
pub ends_by : (pieces : List Piece) (len byte i : ℕ) (d : Piece) → i < length pieces → IsAhead pieces len byte i → (get_or pieces i d).from + (get_or pieces i d).len ≤ len
ends_by pieces len byte i d inside ahead =
    let piece : Piece = get_or pieces i d in
    let rest : List Piece = drop (i + 1) pieces in
    let row : AreInARow ahead.from len (piece ∷ rest) = subst (AreInARow ahead.from len) (drop_more pieces i d inside) ahead.row in
    omega (arith, row.0, row_rises (ahead.from + piece.len) len rest row.2)

-- pieces that lie in an image lie in each larger one
within_kind : (size more : ℕ) (kind : PieceKind) (at len : ℕ) → size ≤ more → IsWithin size kind at len → IsWithin more kind at len
within_kind size more Disk at len grows within = omega (arith, grows, within)
within_kind size more Zero at len grows within = tt

pub within_more : (size more : ℕ) (pieces : List Piece) → size ≤ more → AreWithin size pieces → AreWithin more pieces
within_more size more pieces grows within =
    All-weaker (λ piece. IsWithin size piece.kind piece.at piece.len) (λ piece. IsWithin more piece.kind piece.at piece.len) (λ piece. within_kind size more piece.kind piece.at piece.len grows) pieces within
