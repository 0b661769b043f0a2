-- Laws behind ThroughLaws: the pieces of a content have its bytes.
use Rattle.std.specs.Prelude.{◌≡◌, ℕ, ◌+◌, ◌-◌, ◌<◌, ◌≤◌, Option, List, [], ◌∷◌, length, get_or, drop}
use Rattle.std.specs.List.{All}
use Rattle.std.proofs.Common.{ap, sym, ◌∙◌, arith, ⊎_elim}
use Rattle.std.proofs.lemmas.Bool.{cases_lt, lt-ltb, le-ltb}
use Rattle.std.proofs.lemmas.List.{get_or-take, get_or-drop, get_or-replicate, get_or_append_left, get_or-append_right}
use Rattle.std.proofs.lemmas.List.Elements.{All-head, All-tail}
use Rattle.bytes_defs.specs.Bytes.{part}
use Rattle.rx_ranges.specs.declared.pieces.Piece.{Piece}
use Rattle.rx_ranges.specs.declared.pieces.PieceKind.{PieceKind}
use Rattle.rx_ranges.specs.declared.pieces.PieceKind.TheVariants.{Disk, Zero}
use Rattle.piece_defs.specs.Places.{of_kind, IsPlaced, place_through, bytes_of_kind, bytes_through, IsWithin, AreWithin}
use Rattle.piece_defs.specs.Joined.{AreInARow}
use Rattle.piece_defs.proofs.JoinedLaws.{covered_row}
use Rattle.piece_defs.proofs.ByteLaws.{length-of_kind, length-through}
use Rattle.piece_defs.specs.ThroughLaws.{ThroughLaw, byte_at}

byte_of_kind : (image : List ℕ) (kind : PieceKind) (at len n : ℕ) → n < len → get_or (bytes_of_kind image kind at len) n 0 ≡ byte_at image (of_kind kind (at + n))
byte_of_kind image Disk at len n inside = unfold part in (get_or-take len (drop at image) n 0 inside ∙ get_or-drop at image n 0)
byte_of_kind image Zero at len n inside = get_or-replicate len n 0 0 inside

bytes_there : (image : List ℕ) (place : ℕ → Option ℕ) (from size : ℕ) (pieces : List Piece) → AreInARow from size pieces → All (IsPlaced place) pieces → AreWithin (length image) pieces
    → (n : ℕ) → from + n < size → get_or (bytes_through image pieces) n 0 ≡ byte_at image (place (from + n))
bytes_there image place from size [] row placed within n inside = absurd (omega (arith, row, inside))
bytes_there image place from size (piece ∷ pieces) row placed within n inside =
    let P : Piece → Type 0 = λ other. IsWithin (length image) other.kind other.at other.len in
    let first : List ℕ = bytes_of_kind image piece.kind piece.at piece.len in
    let long : length first ≡ piece.len = length-of_kind image piece.kind piece.at piece.len (All-head P piece pieces within) in
    ⊎_elim
    (λ here.
    let same : piece.at + n ≡ piece.at + (from + n - piece.from) = omega (arith, row.0) in
    get_or_append_left first (bytes_through image pieces) 0 n (omega (arith, long, here))
    ∙ byte_of_kind image piece.kind piece.at piece.len n here
    ∙ ap (λ at. byte_at image (of_kind piece.kind at)) same
    ∙ ap (byte_at image) (sym ((All-head (IsPlaced place) piece pieces placed).bytes (from + n) (omega (arith, row.0)) (omega (arith, row.0, here)))))
    (λ behind.
    let same : from + piece.len + (n - piece.len) ≡ from + n = omega (arith, behind) in
    get_or-append_right first (bytes_through image pieces) piece.len n 0 long behind
    ∙ bytes_there image place (from + piece.len) size pieces row.2 (All-tail (IsPlaced place) piece pieces placed) (All-tail P piece pieces within) (n - piece.len) (omega (arith, same, inside))
    ∙ ap (λ byte. byte_at image (place byte)) same)
    (cases_lt n piece.len)

through_there : (place : ℕ → Option ℕ) (from size : ℕ) (pieces : List Piece) → AreInARow from size pieces → All (IsPlaced place) pieces → (byte : ℕ) → from ≤ byte → byte < size
    → place_through pieces byte ≡ place byte
through_there place from size [] row placed byte current inside = absurd (omega (arith, row, current, inside))
through_there place from size (piece ∷ pieces) row placed byte current inside =
    ⊎_elim
    (λ here. rw (lt-ltb byte (piece.from + piece.len) here) (sym ((All-head (IsPlaced place) piece pieces placed).bytes byte (omega (arith, row.0, current)) here)))
    (λ behind. rw (le-ltb byte (piece.from + piece.len) behind) (through_there place (from + piece.len) size pieces row.2 (All-tail (IsPlaced place) piece pieces placed) byte (omega (arith, row.0, behind)) inside))
    (cases_lt byte (piece.from + piece.len))

pub through_law : ThroughLaw
through_law image place size pieces are =
    let row : AreInARow 0 size pieces = covered_row 0 size pieces are.covered in
    record {
      places = λ byte inside. through_there place 0 size pieces row are.placed byte (omega arith) inside;
      long = λ within. let all : 0 + length (bytes_through image pieces) ≡ size = length-through image 0 size pieces row within in omega (arith, all);
      bytes = λ within byte inside. bytes_there image place 0 size pieces row are.placed within byte (omega (arith, inside)) ∙ ap (λ n. byte_at image (place n)) {x = 0 + byte} {y = byte} (omega arith);
    }
