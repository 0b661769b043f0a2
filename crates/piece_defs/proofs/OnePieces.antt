-- Laws behind OnePieces: a content has one list of pieces.
use Rattle.std.specs.Prelude.{◌≡◌, ℕ, ◌+◌, ◌-◌, ◌<◌, ◌≤◌, true, not, Option, Some, List, [], ◌∷◌, refl}
use Rattle.std.specs.List.{All}
use Rattle.std.proofs.Common.{ap, sym, ◌∙◌, subst, arith, ⊎_elim}
use Rattle.std.proofs.lemmas.Bool.{cases_order, true≢false}
use Rattle.std.proofs.lemmas.Bool.Decides.{Decides-eqb}
use Rattle.std.proofs.lemmas.List.Elements.{All-head, All-tail}
use Rattle.rx_ranges.specs.declared.pieces.Piece.{Piece}
use Rattle.rx_ranges.specs.declared.pieces.PieceKind.{PieceKind}
use Rattle.rx_ranges.specs.declared.pieces.PieceKind.TheVariants.{Disk, Zero}
use Rattle.piece_defs.specs.Covering.{is_contiguous, covers_from}
use Rattle.piece_defs.specs.Places.{of_kind, IsPlain, IsPlaced}
use Rattle.piece_defs.proofs.JoinedLaws.{IsFirst, first_of_all}
use Rattle.piece_defs.specs.OnePieces.{OnePiecesLaw}

covers_up : (from size : ℕ) (pieces : List Piece) → covers_from from size pieces ≡ true → from ≤ size
covers_up from size [] covered = let same : from ≡ size = (Decides-eqb from size).0 covered in omega (arith, same)
covers_up from size (piece ∷ pieces) covered =
    let first = first_of_all from size piece pieces covered in
    let rest : from + piece.len ≤ size = covers_up (from + piece.len) size pieces first.rest in
    omega (arith, rest)

-- two kinds at one place are one
same_kind : (kind other : PieceKind) (at place : ℕ) → of_kind kind at ≡ of_kind other place → kind ≡ other
same_kind Disk Disk at place same = refl
same_kind Disk Zero at place same = absurd cc
same_kind Zero Disk at place same = absurd cc
same_kind Zero Zero at place same = refl

same_stored : (a b : ℕ) → Some a ≡ Some b → a ≡ b
same_stored a b same = cc

same_at : (kind other : PieceKind) (at place : ℕ) → IsPlain kind at → IsPlain other place → of_kind kind at ≡ of_kind other place → at ≡ place
same_at Disk Disk at place one two same = same_stored at place same
same_at Disk Zero at place one two same = absurd cc
same_at Zero Disk at place one two same = absurd cc
same_at Zero Zero at place one two same = one ∙ sym two

-- a piece that goes on where another ends, by its place
would_go_on : (kind other : PieceKind) (from len at next_from next_len next_at : ℕ) → of_kind kind (at + len) ≡ of_kind other next_at
    → is_contiguous (record { from = from; len = len; kind = kind; at = at }) (record { from = next_from; len = next_len; kind = other; at = next_at }) ≡ true
would_go_on Disk Disk from len at next_from next_len next_at same = (Decides-eqb (at + len) next_at).1 (same_stored (at + len) next_at same)
would_go_on Disk Zero from len at next_from next_len next_at same = absurd cc
would_go_on Zero Disk from len at next_from next_len next_at same = absurd cc
would_go_on Zero Zero from len at next_from next_len next_at same = refl

-- where a piece has its first byte, and one further on
at_first : (place : ℕ → Option ℕ) (piece : Piece) (from : ℕ) → piece.from ≡ from → 0 < piece.len → IsPlaced place piece → place from ≡ of_kind piece.kind piece.at
at_first place piece from begins some placed =
    let same : piece.at + (from - piece.from) ≡ piece.at = omega (arith, begins) in
    placed.bytes from (omega (arith, begins)) (omega (arith, begins, some)) ∙ ap (of_kind piece.kind) same

at_offset : (place : ℕ → Option ℕ) (piece : Piece) (from offset : ℕ) → piece.from ≡ from → offset < piece.len → IsPlaced place piece → place (from + offset) ≡ of_kind piece.kind (piece.at + offset)
at_offset place piece from offset begins inside placed =
    let same : piece.at + (from + offset - piece.from) ≡ piece.at + offset = omega (arith, begins) in
    placed.bytes (from + offset) (omega (arith, begins)) (omega (arith, begins, inside)) ∙ ap (of_kind piece.kind) same

-- no piece of the one list ends inside a piece of the other
not_shorter : (place : ℕ → Option ℕ) (from size : ℕ) (p q : Piece) (ps : List Piece) → IsFirst from size p ps → q.from ≡ from → from + q.len ≤ size → of_kind p.kind p.at ≡ of_kind q.kind q.at
    → p.kind ≡ q.kind → p.at ≡ q.at → All (IsPlaced place) ps → IsPlaced place q → p.len < q.len → ⊥
not_shorter place from size p q [] first begins fits same kind at placed other short =
    let ends : from + p.len ≡ size = (Decides-eqb (from + p.len) size).0 first.rest in
    omega (arith, ends, fits, short)
not_shorter place from size p q (next ∷ ps) first begins fits same kind at placed other short =
    let second = first_of_all (from + p.len) size next ps first.rest in
    let here : place (from + p.len) ≡ of_kind next.kind next.at = at_first place next (from + p.len) second.begins second.some (All-head (IsPlaced place) next ps placed) in
    let there : place (from + p.len) ≡ of_kind q.kind (q.at + p.len) = at_offset place q from p.len begins short other in
    let P : PieceKind → Type 0 = λ k. of_kind k (p.at + p.len) ≡ of_kind next.kind next.at in
    let moved : q.at + p.len ≡ p.at + p.len = omega (arith, at) in
    let goes : of_kind p.kind (p.at + p.len) ≡ of_kind next.kind next.at = subst P (sym kind) (ap (of_kind q.kind) (sym moved) ∙ sym there ∙ here) in
    true≢false (sym first.anew ∙ ap not (would_go_on p.kind next.kind p.from p.len p.at next.from next.len next.at goes))

same_piece : (p q : Piece) → p.from ≡ q.from → p.len ≡ q.len → p.kind ≡ q.kind → p.at ≡ q.at → p ≡ q
same_piece p q from len kind at =
    ap (λ n. record { from = n; len = p.len; kind = p.kind; at = p.at }) from
    ∙ ap (λ n. record { from = q.from; len = n; kind = p.kind; at = p.at }) len
    ∙ ap (λ k. record { from = q.from; len = q.len; kind = k; at = p.at }) kind
    ∙ ap (λ n. record { from = q.from; len = q.len; kind = q.kind; at = n }) at

-- pieces that cover a content in order, are as long as possible and have each byte where it stands are one list
pub same_pieces : (place : ℕ → Option ℕ) (from size : ℕ) (ps qs : List Piece) → covers_from from size ps ≡ true → covers_from from size qs ≡ true
    → All (IsPlaced place) ps → All (IsPlaced place) qs → ps ≡ qs
same_pieces place from size [] [] one two placed other = refl
same_pieces place from size [] (q ∷ qs) one two placed other =
    let first = first_of_all from size q qs two in
    let ends : from ≡ size = (Decides-eqb from size).0 one in
    let rest : from + q.len ≤ size = covers_up (from + q.len) size qs first.rest in
    absurd (omega (arith, ends, rest, first.some))
same_pieces place from size (p ∷ ps) [] one two placed other =
    let first = first_of_all from size p ps one in
    let ends : from ≡ size = (Decides-eqb from size).0 two in
    let rest : from + p.len ≤ size = covers_up (from + p.len) size ps first.rest in
    absurd (omega (arith, ends, rest, first.some))
same_pieces place from size (p ∷ ps) (q ∷ qs) one two placed other =
    let first = first_of_all from size p ps one in
    let second = first_of_all from size q qs two in
    let p_placed = All-head (IsPlaced place) p ps placed in
    let q_placed = All-head (IsPlaced place) q qs other in
    let same : of_kind p.kind p.at ≡ of_kind q.kind q.at = sym (at_first place p from first.begins first.some p_placed) ∙ at_first place q from second.begins second.some q_placed in
    let kind : p.kind ≡ q.kind = same_kind p.kind q.kind p.at q.at same in
    let at : p.at ≡ q.at = same_at p.kind q.kind p.at q.at p_placed.plain q_placed.plain same in
    let p_fits : from + p.len ≤ size = covers_up (from + p.len) size ps first.rest in
    let q_fits : from + q.len ≤ size = covers_up (from + q.len) size qs second.rest in
    let rest : covers_from (from + p.len) size qs ≡ true → ps ≡ qs = λ covered. same_pieces place (from + p.len) size ps qs first.rest covered (All-tail (IsPlaced place) p ps placed) (All-tail (IsPlaced place) q qs other) in
    let len : p.len ≡ q.len = ⊎_elim (λ equal. equal)
    (λ apart. ⊎_elim
    (λ short. absurd (not_shorter place from size p q ps first second.begins q_fits same kind at (All-tail (IsPlaced place) p ps placed) q_placed short))
    (λ long. absurd (not_shorter place from size q p qs second first.begins p_fits (sym same) (sym kind) (sym at) (All-tail (IsPlaced place) q qs other) p_placed long))
    apart)
    (cases_order p.len q.len) in
    let R : ℕ → Type 0 = λ n. covers_from (from + n) size qs ≡ true in
    ap (λ piece. piece ∷ ps) (same_piece p q (first.begins ∙ sym second.begins) len kind at) ∙ ap (λ list. q ∷ list) (rest (subst R (sym len) second.rest))

pub one_pieces_law : OnePiecesLaw
one_pieces_law place size pieces others one other = same_pieces place 0 size pieces others one.covered other.covered one.placed other.placed
