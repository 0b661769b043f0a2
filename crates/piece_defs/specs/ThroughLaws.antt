-- The pieces of a content have its bytes.
use Rattle.std.specs.Prelude.{◌≡◌, ℕ, ◌<◌, Option, Some, None, List, length, get_or}
use Rattle.rx_ranges.specs.declared.pieces.Piece.{Piece}
use Rattle.piece_defs.specs.Places.{ArePiecesAt, place_through, bytes_through, AreWithin}

-- the byte at a place of an image; what stands nowhere is 0
abbrev pub byte_at : List ℕ → Option ℕ → ℕ
byte_at image None = 0
byte_at image (Some at) = get_or image at 0

-- the pieces of a content give each of its bytes the place where it stands; their bytes are as many as the content's,
-- and each is the one that stands there
pub record HaveTheBytes (image : List ℕ) (place : ℕ → Option ℕ) (size : ℕ) (pieces : List Piece) : Type 0 where
  pub places : (byte : ℕ) → byte < size → place_through pieces byte ≡ place byte
  pub long : AreWithin (length image) pieces → length (bytes_through image pieces) ≡ size
  pub bytes : AreWithin (length image) pieces → (byte : ℕ) → byte < size → get_or (bytes_through image pieces) byte 0 ≡ byte_at image (place byte)

abbrev pub ThroughLaw : Type 0
ThroughLaw = (image : List ℕ) (place : ℕ → Option ℕ) (size : ℕ) (pieces : List Piece) → ArePiecesAt place size pieces → HaveTheBytes image place size pieces
