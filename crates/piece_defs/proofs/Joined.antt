-- Laws behind Joined: pieces that follow one on another, joined to the longest.
use Rattle.std.specs.Prelude.{◌≡◌, ℕ, ◌+◌, ◌<◌, Bool, true, false, not, if◌then◌else◌, List, [], ◌∷◌, refl}
use Rattle.std.specs.List.{All}
use Rattle.std.proofs.Common.{ap, sym, ◌∙◌, subst, arith}
use Rattle.std.proofs.lemmas.Bool.Decides.{nat_tests}
use Rattle.std.proofs.lemmas.List.Elements.{All-head, All-tail, All-cons, All-nil}
use Rattle.rx_ranges.specs.declared.pieces.Piece.{Piece}
use Rattle.piece_defs.specs.Covering.{is_contiguous, starts_new_piece, covers_from}
use Rattle.piece_defs.specs.Joined.{AreInARow, grown, joined_onto}

-- where the next piece goes on, the current one grows
pub joined_onto_grows : (current next : Piece) (rest : List Piece) → is_contiguous current next ≡ true → joined_onto current (next ∷ rest) ≡ joined_onto (grown current next) rest
joined_onto_grows current next rest goes = rw goes refl

-- where it doesn't, the current one stands
pub joined_onto_stands : (current next : Piece) (rest : List Piece) → is_contiguous current next ≡ false → joined_onto current (next ∷ rest) ≡ current ∷ joined_onto next rest
joined_onto_stands current next rest apart = rw apart refl

-- what holds of the pieces, and of a piece that has grown, holds of the joined ones
pub joined_onto_all : (P : Piece → Type 0)
    → ((current next : Piece) → P current → P next → is_contiguous current next ≡ true → next.from ≡ current.from + current.len → P (grown current next))
    → (size : ℕ) (current : Piece) (rest : List Piece) → P current → All P rest → AreInARow (current.from + current.len) size rest → All P (joined_onto current rest)
joined_onto_all P grows size current [] first others row = All-cons P current [] first (All-nil P)
joined_onto_all P grows size current (next ∷ rest) first others row =
    either (is_contiguous current next) refl
    (λ grew. joined_onto_all P grows size (grown current next) rest grew (All-tail P next rest others) (moved (current.from + current.len + next.len) (current.from + (current.len + next.len)) (omega arith) row.2))
    (joined_onto_all P grows size next rest (All-head P next rest others) (All-tail P next rest others) (moved (current.from + current.len + next.len) (next.from + next.len) (omega (arith, row.0)) row.2))
  where
    moved : (from other : ℕ) → from ≡ other → AreInARow from size rest → AreInARow other size rest
    moved from other same holds = let Q : ℕ → Type 0 = λ place. AreInARow place size rest in subst Q same holds

    either : (goes : Bool) → is_contiguous current next ≡ goes → (P (grown current next) → All P (joined_onto (grown current next) rest)) → All P (joined_onto next rest)
        → All P (if goes then joined_onto (grown current next) rest else (current ∷ joined_onto next rest))
    either true goes inside behind = inside (grows current next first (All-head P next rest others) goes row.0)
    either false apart inside behind = All-cons P current (joined_onto next rest) first behind

-- the first of the joined pieces begins where the current one does
starts_new_piece_joined : (current next : Piece) (rest : List Piece) → starts_new_piece current (joined_onto next rest) ≡ not (is_contiguous current next)
starts_new_piece_joined current next [] = refl
starts_new_piece_joined current next (following ∷ rest) = either (is_contiguous next following) (starts_new_piece_joined current (grown next following) rest)
  where
    either : (goes : Bool) → starts_new_piece current (joined_onto (grown next following) rest) ≡ not (is_contiguous current next)
        → starts_new_piece current (if goes then joined_onto (grown next following) rest else (next ∷ joined_onto following rest)) ≡ not (is_contiguous current next)
    either true behind = behind
    either false behind = refl

-- the joined pieces cover what the row does, and are as long as possible
pub joined_onto_covers : (size : ℕ) (current : Piece) (rest : List Piece) → 0 < current.len → AreInARow (current.from + current.len) size rest → covers_from current.from size (joined_onto current rest) ≡ true
joined_onto_covers size current [] some row = grind (arith, nat_tests)
joined_onto_covers size current (next ∷ rest) some row =
    either (is_contiguous current next) refl
    (joined_onto_covers size (grown current next) rest (omega (arith, some)) (moved (current.from + current.len + next.len) (current.from + (current.len + next.len)) (omega arith) row.2))
    (joined_onto_covers size next rest row.1 (moved (current.from + current.len + next.len) (next.from + next.len) (omega (arith, row.0)) row.2))
  where
    moved : (from other : ℕ) → from ≡ other → AreInARow from size rest → AreInARow other size rest
    moved from other same holds = let Q : ℕ → Type 0 = λ place. AreInARow place size rest in subst Q same holds

    either : (goes : Bool) → is_contiguous current next ≡ goes → covers_from current.from size (joined_onto (grown current next) rest) ≡ true → covers_from next.from size (joined_onto next rest) ≡ true
        → covers_from current.from size (if goes then joined_onto (grown current next) rest else (current ∷ joined_onto next rest)) ≡ true
    either true goes inside behind = inside
    either false apart inside behind =
        let anew : starts_new_piece current (joined_onto next rest) ≡ true = starts_new_piece_joined current next rest ∙ ap not apart in
        let covered : covers_from (current.from + current.len) size (joined_onto next rest) ≡ true = ap (λ from. covers_from from size (joined_onto next rest)) (sym row.0) ∙ behind in
        rw (anew, covered) (grind (arith, nat_tests))
