-- Laws behind JoinedLaws: pieces that are joined to the longest put each byte where it stands.
use Rattle.std.specs.Prelude.{◌≡◌, ℕ, ◌+◌, ◌-◌, ◌<◌, ◌≤◌, true, ◌&&◌, ◌==◌, nat_lt, Option, Some, List, [], ◌∷◌, refl}
use Rattle.std.proofs.Common.{ap, sym, ◌∙◌, subst, arith, ⊎_elim}
use Rattle.std.proofs.lemmas.Bool.{and_parts, cases_lt, ltb-true}
use Rattle.std.proofs.lemmas.Bool.Decides.{Decides-eqb}
use Rattle.std.proofs.lemmas.List.Elements.{All-head, All-tail, All-nil}
use Rattle.rx_ranges.specs.declared.pieces.Piece.{Piece}
use Rattle.rx_ranges.specs.declared.pieces.PieceKind.{PieceKind}
use Rattle.rx_ranges.specs.declared.pieces.PieceKind.TheVariants.{Disk, Zero}
use Rattle.piece_defs.specs.Covering.{is_contiguous, starts_new_piece, covers_from}
use Rattle.piece_defs.specs.Places.{of_kind, IsPlaced}
use Rattle.piece_defs.specs.Joined.{grown, joined_onto, AreInARow}
use Rattle.piece_defs.proofs.Joined.{joined_onto_all, joined_onto_covers}
use Rattle.piece_defs.specs.JoinedLaws.{JoinedLaw}

-- where a piece goes on, a byte of the next stands where the grown one puts it
goes_to : (kind other : PieceKind) (from len at next_from next_len next_at byte : ℕ) → next_from ≡ from + len → from + len ≤ byte
    → is_contiguous (record { from = from; len = len; kind = kind; at = at }) (record { from = next_from; len = next_len; kind = other; at = next_at }) ≡ true
    → of_kind other (next_at + (byte - next_from)) ≡ of_kind kind (at + (byte - from))
goes_to Disk Disk from len at next_from next_len next_at byte follows behind goes =
    let meets : at + len ≡ next_at = (Decides-eqb (at + len) next_at).0 goes in
    let same : next_at + (byte - next_from) ≡ at + (byte - from) = omega (arith, meets, follows, behind) in
    ap Some same
goes_to Disk Zero from len at next_from next_len next_at byte follows behind goes = absurd cc
goes_to Zero Disk from len at next_from next_len next_at byte follows behind goes = absurd cc
goes_to Zero Zero from len at next_from next_len next_at byte follows behind goes = refl

-- a grown piece puts its bytes where they stand
pub grown_placed : (place : ℕ → Option ℕ) (current next : Piece) → IsPlaced place current → IsPlaced place next
    → is_contiguous current next ≡ true → next.from ≡ current.from + current.len → IsPlaced place (grown current next)
grown_placed place current next first second goes follows = record {
  plain = first.plain;
  bytes = λ byte from before.
      ⊎_elim
      (λ inside. first.bytes byte from inside)
      (λ behind.
      second.bytes byte (omega (arith, follows, behind)) (omega (arith, follows, before))
      ∙ goes_to current.kind next.kind current.from current.len current.at next.from next.len next.at byte follows behind goes)
      (cases_lt byte (current.from + current.len));
}

row_behind : (piece : Piece) (rest : List Piece) (size : ℕ) → AreInARow 0 size (piece ∷ rest) → AreInARow (piece.from + piece.len) size rest
row_behind piece rest size row =
    let P : ℕ → Type 0 = λ from. AreInARow from size rest in
    let same : 0 + piece.len ≡ piece.from + piece.len = omega (arith, row.0) in
    subst P same row.2

-- pieces in a row that put each byte where it stands are the content's when they are joined
pub joined_law : JoinedLaw
joined_law place size [] row placed = record { covered = (Decides-eqb 0 size).1 row; placed = All-nil (IsPlaced place) }
joined_law place size (piece ∷ rest) row placed = record {
  covered =
      ap (λ from. covers_from from size (joined_onto piece rest)) (sym row.0)
      ∙ joined_onto_covers size piece rest row.1 (row_behind piece rest size row);
  placed =
      joined_onto_all (IsPlaced place) (grown_placed place) size piece rest (All-head (IsPlaced place) piece rest placed) (All-tail (IsPlaced place) piece rest placed) (row_behind piece rest size row);
}

-- ---- pieces that cover a content are in a row, and are joined

-- the facts of a piece in front of others
pub record IsFirst (from size : ℕ) (piece : Piece) (pieces : List Piece) : Type 0 where
  pub begins : piece.from ≡ from
  pub some : 0 < piece.len
  pub anew : starts_new_piece piece pieces ≡ true
  pub rest : covers_from (from + piece.len) size pieces ≡ true

pub first_of_all : (from size : ℕ) (piece : Piece) (pieces : List Piece) → covers_from from size (piece ∷ pieces) ≡ true → IsFirst from size piece pieces
first_of_all from size piece pieces covered =
    let a = and_parts (piece.from == from) (nat_lt 0 piece.len && (starts_new_piece piece pieces && covers_from (from + piece.len) size pieces)) covered in
    let b = and_parts (nat_lt 0 piece.len) (starts_new_piece piece pieces && covers_from (from + piece.len) size pieces) a.1 in
    let c = and_parts (starts_new_piece piece pieces) (covers_from (from + piece.len) size pieces) b.1 in
    record {
      begins = (Decides-eqb piece.from from).0 a.0;
      some = ltb-true 0 piece.len b.0;
      anew = c.0;
      rest = c.1;
    }

pub covered_row : (from size : ℕ) (pieces : List Piece) → covers_from from size pieces ≡ true → AreInARow from size pieces
covered_row from size [] covered = (Decides-eqb from size).0 covered
covered_row from size (piece ∷ pieces) covered =
    let first = first_of_all from size piece pieces covered in
    (first.begins, first.some, covered_row (from + piece.len) size pieces first.rest)
