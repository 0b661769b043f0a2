-- Laws behind Put: one more piece at the end of a content's pieces.
use Rattle.std.specs.Prelude.{◌≡◌, ℕ, ◌+◌, ◌<◌, Bool, true, false, not, List, [], ◌∷◌, ◌++◌, refl}
use Rattle.std.proofs.Common.{ap, sym, ◌∙◌, subst, arith}
use Rattle.std.proofs.lemmas.List.Elements.{All-push}
use Rattle.rx_ranges.specs.declared.pieces.Piece.{Piece}
use Rattle.piece_defs.specs.Covering.{is_contiguous, covers_from}
use Rattle.piece_defs.specs.Places.{IsPlaced, ArePiecesAt}
use Rattle.piece_defs.specs.Joined.{joined_onto, joined_pieces, AreInARow}
use Rattle.piece_defs.proofs.Joined.{joined_onto_stands}
use Rattle.piece_defs.proofs.JoinedLaws.{joined_law, first_of_all, covered_row}
use Rattle.piece_defs.specs.Put.{PutLaw, put}

-- pieces that are as long as possible are so joined with one more
pub put_joined : (from end : ℕ) (first : Piece) (rest : List Piece) (piece : Piece) → covers_from from end (first ∷ rest) ≡ true → put (first ∷ rest) piece ≡ joined_onto first (rest ++ piece ∷ [])
put_joined from end first [] piece covered = refl
put_joined from end first (next ∷ rest) piece covered =
    let facts = first_of_all from end first (next ∷ rest) covered in
    ap (λ list. first ∷ list) (put_joined (from + first.len) end next rest piece facts.rest)
    ∙ sym (joined_onto_stands first next (rest ++ piece ∷ []) (not_true (is_contiguous first next) facts.anew))
  where
    not_true : (goes : Bool) → not goes ≡ true → goes ≡ false
    not_true true is = absurd cc
    not_true false is = refl

pub row_push : (from end : ℕ) (pieces : List Piece) (piece : Piece) → AreInARow from end pieces → piece.from ≡ end → 0 < piece.len → AreInARow from (end + piece.len) (pieces ++ piece ∷ [])
row_push from end [] piece row begins some = (omega (arith, row, begins), some, omega (arith, row))
row_push from end (first ∷ rest) piece row begins some = (row.0, row.1, row_push (from + first.len) end rest piece row.2 begins some)

pub put_law : PutLaw
put_law place end pieces piece are begins some placed =
    subst (ArePiecesAt place (end + piece.len)) (sym (is pieces are.covered))
    (joined_law place (end + piece.len) (pieces ++ piece ∷ []) (row_push 0 end pieces piece (covered_row 0 end pieces are.covered) begins some) (All-push (IsPlaced place) pieces piece are.placed placed))
  where
    is : (pieces : List Piece) → covers_from 0 end pieces ≡ true → put pieces piece ≡ joined_pieces (pieces ++ piece ∷ [])
    is [] covered = refl
    is (first ∷ rest) covered = put_joined 0 end first rest piece covered
