-- Where the bytes of a content stand, and the pieces that say it.
use Rattle.std.specs.Prelude.{◌≡◌, ℕ, ◌+◌, ◌-◌, ◌<◌, ◌≤◌, true, All, Option, Some, None, nat_lt, if◌then◌else◌, List, [], ◌∷◌, replicate}
use Rattle.std.specs.List.{flat_map}
use Rattle.bytes_defs.specs.Bytes.{part}
use Rattle.rx_ranges.specs.declared.pieces.Piece.{Piece}
use Rattle.rx_ranges.specs.declared.pieces.PieceKind.{PieceKind}
use Rattle.rx_ranges.specs.declared.pieces.PieceKind.TheVariants.{Disk, Zero}
use Rattle.piece_defs.specs.Covering.{covers_from}

-- where a piece of a kind puts a byte: at this place of the image, or nowhere, as a zero of a hole
abbrev pub of_kind : PieceKind → ℕ → Option ℕ
of_kind Disk at = Some at
of_kind Zero at = None

-- where a piece puts a byte
abbrev pub place_in : Piece → ℕ → Option ℕ
place_in piece byte = of_kind piece.kind (piece.at + (byte - piece.from))

-- a hole stands nowhere: what its piece says of a place is 0
abbrev pub IsPlain : PieceKind → ℕ → Type 0
IsPlain Disk at = Unit {0}
IsPlain Zero at = at ≡ 0

-- a piece puts each of its bytes where that stands
pub record IsPlaced (place : ℕ → Option ℕ) (piece : Piece) : Type 0 where
  pub plain : IsPlain piece.kind piece.at
  pub bytes : (byte : ℕ) → piece.from ≤ byte → byte < piece.from + piece.len → place byte ≡ place_in piece byte

-- the pieces of a content: they cover its bytes in order, are as long as possible, and put each byte where it stands
pub record ArePiecesAt (place : ℕ → Option ℕ) (size : ℕ) (pieces : List Piece) : Type 0 where
  pub covered : covers_from 0 size pieces ≡ true
  pub placed : All (IsPlaced place) pieces

-- where pieces in order put a byte
abbrev pub place_through : List Piece → ℕ → Option ℕ
place_through [] byte = None
place_through (piece ∷ pieces) byte = if nat_lt byte (piece.from + piece.len) then place_in piece byte else place_through pieces byte

-- the bytes of a piece
abbrev pub bytes_of_kind : List ℕ → PieceKind → ℕ → ℕ → List ℕ
bytes_of_kind image Disk at len = part image at len
bytes_of_kind image Zero at len = replicate len 0

-- the bytes of a content that pieces cover
abbrev pub bytes_through : List ℕ → List Piece → List ℕ
bytes_through image pieces = flat_map (λ piece. bytes_of_kind image piece.kind piece.at piece.len) pieces

-- what a piece has on the disk lies in an image of so many bytes
abbrev pub IsWithin : ℕ → PieceKind → ℕ → ℕ → Type 0
IsWithin size Disk at len = at + len ≤ size
IsWithin size Zero at len = Unit {0}

abbrev pub AreWithin : ℕ → List Piece → Type 0
AreWithin size pieces = All (λ piece. IsWithin size piece.kind piece.at piece.len) pieces
