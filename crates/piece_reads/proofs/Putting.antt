-- One more piece behind others.
use Rattle.std.specs.Prelude.{◌≡◌, ℕ, zero, suc, ◌+◌, ◌-◌, ◌^◌, ◌<◌, ◌≤◌, Bool, true, false, All, if◌then◌else◌, ◌⊎◌, Option, Some, None, List, [], ◌∷◌, ◌++◌, length, get_or, set, refl}
use Rattle.std.proofs.Common.{ap, sym, ◌∙◌, subst, arith, inl, inr, ⊎_elim}
use Rattle.std.proofs.lemmas.Bool.{cases_lt, lt-ltb, le-ltb}
use Rattle.std.proofs.lemmas.Bool.Decides.{nat_tests, Decides-eqb}
use Rattle.std.proofs.lemmas.List.{get_or_default}
use Rattle.std.proofs.lemmas.List.Elements.{All-head, All-tail, All-cons, All-nil}
use Rattle.rx_ranges.specs.declared.pieces.Piece.{Piece}
use Rattle.rx_ranges.specs.declared.pieces.PieceKind.{PieceKind}
use Rattle.rx_ranges.specs.declared.pieces.PieceKind.TheVariants.{Disk, Zero}
use Rattle.piece_defs.specs.Covering.{is_contiguous, covers_from}
use Rattle.piece_defs.specs.Joined.{grown, joined_onto, AreInARow}
use Rattle.piece_defs.specs.Places.{IsWithin, AreWithin, IsPlain, of_kind, place_in, place_through}
use Rattle.piece_defs.specs.Put.{put}
use Rattle.piece_defs.proofs.Joined.{joined_onto_grows, joined_onto_stands, joined_onto_covers}
use Rattle.piece_defs.proofs.JoinedLaws.{covered_row}
use Rattle.piece_defs.proofs.Put.{put_joined, row_push}

-- ---- the last piece grows, or the new one stands behind it

put-grows : (pieces : List Piece) (piece d : Piece) (i : ℕ) → suc i ≡ length pieces → is_contiguous (get_or pieces i d) piece ≡ true → set pieces i (grown (get_or pieces i d) piece) ≡ put pieces piece
put-grows [] piece d i last goes = absurd (omega (arith, last))
put-grows (first ∷ []) piece d zero last goes = sym (joined_onto_grows first piece [] goes)
put-grows (first ∷ []) piece d (suc i) last goes = absurd (omega (arith, last))
put-grows (first ∷ next ∷ rest) piece d zero last goes = absurd (omega (arith, last))
put-grows (first ∷ next ∷ rest) piece d (suc i) last goes = ap (λ list. first ∷ list) (put-grows (next ∷ rest) piece d i (omega (arith, last)) goes)

put-stands : (pieces : List Piece) (piece d : Piece) → ((i : ℕ) → suc i ≡ length pieces → is_contiguous (get_or pieces i d) piece ≡ false) → pieces ++ piece ∷ [] ≡ put pieces piece
put-stands [] piece d apart = refl
put-stands (last ∷ []) piece d apart = sym (joined_onto_stands last piece [] (apart 0 refl))
put-stands (first ∷ next ∷ rest) piece d apart = ap (λ list. first ∷ list) (put-stands (next ∷ rest) piece d (λ i last. apart (suc i) (omega (arith, last))))

-- the same where the last one is looked at by its number
pub last_grows : (pieces : List Piece) (piece looked last : Piece) (count : ℕ) → count ≡ length pieces → 0 < count
    → looked ≡ get_or pieces (count - 1) looked → is_contiguous looked piece ≡ true → last ≡ get_or pieces (count - 1) last → set pieces (count - 1) (grown last piece) ≡ put pieces piece
last_grows pieces piece looked last count all any is goes same =
    let inside : count - 1 < length pieces = omega (arith, all, any) in
    let one : last ≡ looked = same ∙ get_or_default pieces (count - 1) last looked inside ∙ sym is in
    ap (λ from. set pieces (count - 1) (grown from piece)) (one ∙ is)
    ∙ put-grows pieces piece looked (count - 1) (omega (arith, all, any)) (ap (λ from. is_contiguous from piece) (sym is) ∙ goes)

pub last_fits : (pieces : List Piece) (piece looked last : Piece) (count : ℕ) → count ≡ length pieces → 0 < count → looked ≡ get_or pieces (count - 1) looked → is_contiguous looked piece ≡ true → last ≡ get_or pieces (count - 1) last
    → All (λ one. is_contiguous one piece ≡ true → one.len + piece.len < 2 ^ 64) pieces → last.len + piece.len < 2 ^ 64
last_fits pieces piece looked last count all any is goes same fits =
    let inside : count - 1 < length pieces = omega (arith, all, any) in
    let one : last ≡ get_or pieces (count - 1) looked = same ∙ get_or_default pieces (count - 1) last looked inside in
    let long : last.len ≡ (get_or pieces (count - 1) looked).len = ap (λ p. p.len) one in
    let less = fits (count - 1) looked inside (ap (λ from. is_contiguous from piece) (sym is) ∙ goes) in
    omega (arith, long, less)

pub last_stands : (pieces : List Piece) (piece looked : Piece) (count : ℕ) → count ≡ length pieces → looked ≡ get_or pieces (count - 1) looked → is_contiguous looked piece ≡ false → pieces ++ piece ∷ [] ≡ put pieces piece
last_stands pieces piece looked count all is apart =
    put-stands pieces piece looked
    (λ i last.
    let same : i ≡ count - 1 = omega (arith, all, last) in
    ap (λ k. is_contiguous (get_or pieces k looked) piece) same ∙ ap (λ from. is_contiguous from piece) (sym is) ∙ apart)

pub first_stands : (pieces : List Piece) (piece : Piece) (count : ℕ) → count ≡ length pieces → (0 < count → ⊥) → pieces ++ piece ∷ [] ≡ put pieces piece
first_stands [] piece count all none = refl
first_stands (first ∷ rest) piece count all none = absurd (none (omega (arith, all)))

-- a piece of those that cover a content isn't longer than it
row_len : (from size : ℕ) (pieces : List Piece) (i : ℕ) (d : Piece) → i < length pieces → AreInARow from size pieces → from ≤ size × ((get_or pieces i d).len + from ≤ size)
row_len from size [] i d inside row = absurd (omega (arith, inside))
row_len from size (piece ∷ []) zero d inside row = (omega (arith, row.2), omega (arith, row.2))
row_len from size (piece ∷ []) (suc i) d inside row = absurd (omega (arith, inside))
row_len from size (piece ∷ next ∷ rest) zero d inside row =
    let behind = row_len (from + piece.len) size (next ∷ rest) 0 d (omega arith) row.2 in (omega (arith, behind.0), omega (arith, behind.0))
row_len from size (piece ∷ next ∷ rest) (suc i) d inside row =
    let behind = row_len (from + piece.len) size (next ∷ rest) i d (omega (arith, inside)) row.2 in (omega (arith, behind.0), omega (arith, behind.1))

covered_len : (size : ℕ) (pieces : List Piece) (i : ℕ) (d : Piece) → i < length pieces → covers_from 0 size pieces ≡ true → (get_or pieces i d).len ≤ size
covered_len size pieces i d inside covered = let all = row_len 0 size pieces i d inside (covered_row 0 size pieces covered) in omega (arith, all.1)

-- so one that goes on where they end makes none too long
pub covered_fits : (pieces : List Piece) (piece : Piece) → covers_from 0 piece.from pieces ≡ true → piece.from + piece.len < 2 ^ 64 → All (λ last. is_contiguous last piece ≡ true → last.len + piece.len < 2 ^ 64) pieces
covered_fits pieces piece covered fits = λ k d inside goes. let short = covered_len piece.from pieces k d inside covered in omega (arith, short, fits)

-- ---- they cover the longer content

pub put_covers : (end : ℕ) (pieces : List Piece) (piece : Piece) → covers_from 0 end pieces ≡ true → piece.from ≡ end → 0 < piece.len → covers_from 0 (end + piece.len) (put pieces piece) ≡ true
put_covers end [] piece covered begins some = let none : 0 ≡ end = (Decides-eqb 0 end).0 covered in grind (arith, nat_tests)
put_covers end (first ∷ rest) piece covered begins some =
    let row : AreInARow 0 (end + piece.len) (first ∷ rest ++ piece ∷ []) = row_push 0 end (first ∷ rest) piece (covered_row 0 end (first ∷ rest) covered) begins some in
    let P : ℕ → Type 0 = λ from. AreInARow from (end + piece.len) (rest ++ piece ∷ []) in
    let behind : 0 + first.len ≡ first.from + first.len = omega (arith, row.0) in
    ap (λ list. covers_from 0 (end + piece.len) list) (put_joined 0 end first rest piece covered)
    ∙ ap (λ from. covers_from from (end + piece.len) (joined_onto first (rest ++ piece ∷ []))) (sym row.0)
    ∙ joined_onto_covers (end + piece.len) first (rest ++ piece ∷ []) row.1 (subst P behind row.2)

-- ---- what holds of each, and of one that has grown, holds of them all

put_all : (P : Piece → Type 0) → ((current next : Piece) → P current → P next → is_contiguous current next ≡ true → P (grown current next)) → (pieces : List Piece) (piece : Piece) → All P pieces → P piece → All P (put pieces piece)
put_all P grows [] piece all one = All-cons P piece [] one (All-nil P)
put_all P grows (last ∷ []) piece all one = by_test (is_contiguous last piece) refl
  where
    by_test : (goes : Bool) → is_contiguous last piece ≡ goes → All P (if goes then grown last piece ∷ [] else (last ∷ piece ∷ []))
    by_test true goes = All-cons P (grown last piece) [] (grows last piece (All-head P last [] all) one goes) (All-nil P)
    by_test false apart = All-cons P last (piece ∷ []) (All-head P last [] all) (All-cons P piece [] one (All-nil P))
put_all P grows (first ∷ next ∷ rest) piece all one = All-cons P first (put (next ∷ rest) piece) (All-head P first (next ∷ rest) all) (put_all P grows (next ∷ rest) piece (All-tail P first (next ∷ rest) all) one)

within_grown : (size : ℕ) (kind other : PieceKind) (at len from next_from next_at next_len : ℕ) → IsWithin size kind at len → IsWithin size other next_at next_len
    → is_contiguous (record { from = from; len = len; kind = kind; at = at }) (record { from = next_from; len = next_len; kind = other; at = next_at }) ≡ true → IsWithin size kind at (len + next_len)
within_grown size Disk Disk at len from next_from next_at next_len first second goes = let meets : at + len ≡ next_at = (Decides-eqb (at + len) next_at).0 goes in omega (arith, meets, second)
within_grown size Disk Zero at len from next_from next_at next_len first second goes = absurd cc
within_grown size Zero other at len from next_from next_at next_len first second goes = tt

pub put_within : (size : ℕ) (pieces : List Piece) (piece : Piece) → AreWithin size pieces → IsWithin size piece.kind piece.at piece.len → AreWithin size (put pieces piece)
put_within size pieces piece all one =
    put_all (λ p. IsWithin size p.kind p.at p.len) (λ current next first second goes. within_grown size current.kind next.kind current.at current.len current.from next.from next.at next.len first second goes) pieces piece all one

pub put_plain : (pieces : List Piece) (piece : Piece) → All (λ p. IsPlain p.kind p.at) pieces → IsPlain piece.kind piece.at → All (λ p. IsPlain p.kind p.at) (put pieces piece)
put_plain pieces piece all one = put_all (λ p. IsPlain p.kind p.at) (λ current next first second goes. first) pieces piece all one

-- ---- where they put a byte

through_in : (piece : Piece) (rest : List Piece) (byte : ℕ) → byte < piece.from + piece.len → place_through (piece ∷ rest) byte ≡ place_in piece byte
through_in piece rest byte inside = rw (lt-ltb byte (piece.from + piece.len) inside) refl

through_behind : (piece : Piece) (rest : List Piece) (byte : ℕ) → piece.from + piece.len ≤ byte → place_through (piece ∷ rest) byte ≡ place_through rest byte
through_behind piece rest byte past = rw (le-ltb byte (piece.from + piece.len) past) refl

-- the new piece puts a byte at a place
PutsHere : Piece → ℕ → ℕ → Type 0
PutsHere piece byte at = (piece.from ≤ byte) × (byte < piece.from + piece.len) × (place_in piece byte ≡ Some at)

puts_alone : (piece : Piece) (byte at : ℕ) → piece.from ≤ byte → place_through (piece ∷ []) byte ≡ Some at → PutsHere piece byte at
unfolding PutsHere
puts_alone piece byte at begins is =
    ⊎_elim
    (λ inside. (begins, inside, sym (through_in piece [] byte inside) ∙ is))
    (λ past. absurd (let none : (let nowhere : Option ℕ = None in nowhere ≡ Some at) = sym (through_behind piece [] byte past) ∙ is in cc))
    (cases_lt byte (piece.from + piece.len))

grown_place : (kind other : PieceKind) (at len from next_from next_at next_len byte place : ℕ)
    → is_contiguous (record { from = from; len = len; kind = kind; at = at }) (record { from = next_from; len = next_len; kind = other; at = next_at }) ≡ true → from + len ≡ next_from → next_from ≤ byte
    → of_kind kind (at + (byte - from)) ≡ Some place → of_kind other (next_at + (byte - next_from)) ≡ Some place
grown_place Disk Disk at len from next_from next_at next_len byte place goes row begins is =
    let meets : at + len ≡ next_at = (Decides-eqb (at + len) next_at).0 goes in
    ap Some (let same : next_at + (byte - next_from) ≡ at + (byte - from) = omega (arith, meets, row, begins) in same) ∙ is
grown_place Disk Zero at len from next_from next_at next_len byte place goes row begins is = absurd cc
grown_place Zero Disk at len from next_from next_at next_len byte place goes row begins is = absurd cc
grown_place Zero Zero at len from next_from next_at next_len byte place goes row begins is = is

-- a byte that stands at a place stood there before, or the new piece puts it there
put_puts : (from : ℕ) (pieces : List Piece) (piece : Piece) (byte at : ℕ) → AreInARow from piece.from pieces → from ≤ byte → place_through (put pieces piece) byte ≡ Some at → (place_through pieces byte ≡ Some at) ⊎ PutsHere piece byte at
unfolding PutsHere
put_puts from [] piece byte at row begins is = inr (puts_alone piece byte at (omega (arith, row, begins)) is)
put_puts from (last ∷ []) piece byte at row begins is = by_test (is_contiguous last piece) refl is
  where
    ends : last.from + last.len ≡ piece.from
    ends = omega (arith, row.0, row.2)

    by_test : (goes : Bool) → is_contiguous last piece ≡ goes → place_through (if goes then grown last piece ∷ [] else (last ∷ piece ∷ [])) byte ≡ Some at → (place_through (last ∷ []) byte ≡ Some at) ⊎ PutsHere piece byte at
    by_test true goes is =
        let one = puts_alone (grown last piece) byte at (omega (arith, row.0, begins)) is in
        ⊎_elim
        (λ inside. inl (through_in last [] byte inside ∙ one.2))
        (λ past.
        inr
        (omega (arith, ends, past), omega (arith, ends, one.1), grown_place last.kind piece.kind last.at last.len last.from piece.from piece.at piece.len byte at goes ends (omega (arith, ends, past)) one.2))
        (cases_lt byte (last.from + last.len))
    by_test false apart is =
        ⊎_elim
        (λ inside. inl (through_in last [] byte inside ∙ sym (through_in last (piece ∷ []) byte inside) ∙ is))
        (λ past. inr (puts_alone piece byte at (omega (arith, ends, past)) (sym (through_behind last (piece ∷ []) byte past) ∙ is)))
        (cases_lt byte (last.from + last.len))
put_puts from (first ∷ next ∷ rest) piece byte at row begins is =
    ⊎_elim
    (λ inside. inl (through_in first (next ∷ rest) byte inside ∙ sym (through_in first (put (next ∷ rest) piece) byte inside) ∙ is))
    (λ past.
    ⊎_elim
    (λ before. inl (through_behind first (next ∷ rest) byte past ∙ before))
    (λ here. inr here)
    (put_puts (from + first.len) (next ∷ rest) piece byte at row.2 (omega (arith, row.0, past)) (sym (through_behind first (put (next ∷ rest) piece) byte past) ∙ is)))
    (cases_lt byte (first.from + first.len))

pub put_through : (pieces : List Piece) (piece : Piece) (byte at : ℕ) → covers_from 0 piece.from pieces ≡ true → place_through (put pieces piece) byte ≡ Some at
    → (place_through pieces byte ≡ Some at) ⊎ ((piece.from ≤ byte) × (byte < piece.from + piece.len) × (place_in piece byte ≡ Some at))
unfolding PutsHere
put_through pieces piece byte at covered is = put_puts 0 pieces piece byte at (covered_row 0 piece.from pieces covered) (omega arith) is
