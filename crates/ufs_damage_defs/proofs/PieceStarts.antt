-- The pieces of a content are as many as the bytes at which one begins.
use Rattle.std.specs.Prelude.{◌≡◌, ℕ, zero, suc, ◌+◌, ◌-◌, ◌<◌, ◌≤◌, Bool, true, false, not, ◌==◌, if◌then◌else◌, Option, Some, None, List, [], ◌∷◌, ◌++◌, length, refl}
use Rattle.std.specs.List.{All, Contains, filter}
use Rattle.std.proofs.Common.{ap, sym, ◌∙◌, subst, arith, ⊎_elim, length-append}
use Rattle.std.proofs.lemmas.Bool.{cases_eq}
use Rattle.std.proofs.lemmas.Bool.Decides.{Decides-eqb}
use Rattle.std.proofs.lemmas.List.Elements.{All-head, All-tail, All-contains, All-contains_itself, All-filter, filter-append, filter_passes}
use Rattle.rx_ranges.specs.declared.pieces.Piece.{Piece}
use Rattle.rx_ranges.specs.declared.pieces.PieceKind.{PieceKind}
use Rattle.rx_ranges.specs.declared.pieces.PieceKind.TheVariants.{Disk, Zero}
use Rattle.piece_defs.specs.Covering.{is_contiguous, covers_from}
use Rattle.piece_defs.specs.Places.{of_kind, IsPlaced, ArePiecesAt}
use Rattle.piece_defs.proofs.JoinedLaws.{IsFirst, first_of_all, covered_row}
use Rattle.piece_defs.specs.Joined.{AreInARow}
use Rattle.ufs_inode_defs.specs.Numbers.{numbers_from}
use Rattle.ufs_damage_defs.specs.StreamDamage.{GoesOn}
use Rattle.ufs_damage_defs.proofs.NameFacts.{in_none, in_cases, in_head, in_tail}
use Rattle.ufs_damage_defs.proofs.Distinct.{AreDistinct}

-- ---- numbers in a row

pub in_numbers : (count from n : ℕ) → from ≤ n → n < from + count → Contains (numbers_from from count) n
in_numbers zero from n above below = absurd (omega (arith, above, below))
in_numbers (suc count) from n above below =
    ⊎_elim
    (λ same. let P : ℕ → Type 0 = λ m. Contains (from ∷ numbers_from (suc from) count) m in subst P same (in_head from (numbers_from (suc from) count)))
    (λ differ. in_tail from n (numbers_from (suc from) count) (in_numbers count (suc from) n (omega (arith, above, differ)) (omega (arith, below))))
    (cases_eq from n)

pub of_numbers : (count from n : ℕ) → Contains (numbers_from from count) n → (from ≤ n) × (n < from + count)
of_numbers zero from n has = absurd (in_none n has)
of_numbers (suc count) from n has =
    ⊎_elim
    (λ same. (omega (arith, same), omega (arith, same)))
    (λ behind. let rest = of_numbers count (suc from) n behind in let above = rest.0 in let below = rest.1 in (omega (arith, above), omega (arith, below)))
    (in_cases from n (numbers_from (suc from) count) has)

pub distinct_numbers : (count from : ℕ) → AreDistinct (numbers_from from count)
distinct_numbers zero from = tt
distinct_numbers (suc count) from = ((λ has. let above = (of_numbers count (suc from) from has).0 in omega (arith, above)), distinct_numbers count (suc from))

numbers_split : (count more from : ℕ) → numbers_from from (count + more) ≡ numbers_from from count ++ numbers_from (from + count) more
numbers_split zero more from =
    let none : 0 + more ≡ more = omega arith in
    let same : from ≡ from + 0 = omega arith in
    ap (λ n. numbers_from from n) none ∙ ap (λ n. numbers_from n more) same
numbers_split (suc count) more from =
    let next : suc count + more ≡ suc (count + more) = omega arith in
    let same : suc from + count ≡ from + suc count = omega arith in
    ap (λ n. numbers_from from n) next ∙ ap (λ list. from ∷ list) (numbers_split count more (suc from) ∙ ap (λ n. numbers_from (suc from) count ++ numbers_from n more) same)

-- ---- those of a list that pass a test

pub of_filter : {X : Type 0} (test : X → Bool) (xs : List X) (x : X) → Contains (filter test xs) x → Contains xs x × (test x ≡ true)
of_filter test xs x has = (
  All-contains (Contains xs) (filter test xs) x (All-filter test (Contains xs) xs (All-contains_itself xs)) has,
  All-contains (λ y. test y ≡ true) (filter test xs) x (filter_passes test xs) has,
)

pub distinct-filter : {X : Type 0} (test : X → Bool) (xs : List X) → AreDistinct xs → AreDistinct (filter test xs)
distinct-filter test [] distinct = tt
distinct-filter test (x ∷ xs) distinct = either (test x) (distinct-filter test xs distinct.1)
  where
    either : (is : Bool) → AreDistinct (filter test xs) → AreDistinct (if is then x ∷ filter test xs else filter test xs)
    either true rest = ((λ has. distinct.0 (of_filter test xs x has).0), rest)
    either false rest = rest

filter_first : {X : Type 0} (test : X → Bool) (x : X) (xs : List X) → test x ≡ true → filter test (x ∷ xs) ≡ x ∷ filter test xs
filter_first test x xs is = rw is refl

filter_none : {X : Type 0} (test : X → Bool) (xs : List X) → ((x : X) → Contains xs x → test x ≡ false) → filter test xs ≡ []
filter_none test [] none = refl
filter_none test (x ∷ xs) none = rw (none x (in_head x xs)) (filter_none test xs (λ y has. none y (in_tail x y xs has)))

-- ---- where a piece begins

abbrev pub goes_on : Option ℕ → Option ℕ → Bool
goes_on None None = true
goes_on None (Some at) = false
goes_on (Some before) None = false
goes_on (Some before) (Some at) = suc before == at

pub anew_differs : (before at : Option ℕ) → not (goes_on before at) ≡ true → GoesOn before at → ⊥
anew_differs None None is on = absurd cc
anew_differs None (Some at) is on = on
anew_differs (Some before) None is on = on
anew_differs (Some before) (Some at) is on = let same : (suc before == at) ≡ true = (Decides-eqb (suc before) at).1 on in absurd cc

pub differs_anew : (before at : Option ℕ) → (GoesOn before at → ⊥) → not (goes_on before at) ≡ true
differs_anew None None never = absurd (never tt)
differs_anew None (Some at) never = refl
differs_anew (Some before) None never = refl
differs_anew (Some before) (Some at) never = either (suc before == at) refl
  where
    either : (test : Bool) → (suc before == at) ≡ test → not test ≡ true
    either true is = absurd (never ((Decides-eqb (suc before) at).0 is))
    either false is = refl

-- a piece begins with a byte
abbrev pub begins_at : (ℕ → Option ℕ) → ℕ → Bool
begins_at place zero = true
begins_at place (suc byte) = not (goes_on (place byte) (place (suc byte)))

-- the bytes with which one begins, of so many from one on
abbrev pub beginnings : (ℕ → Option ℕ) → ℕ → ℕ → List ℕ
beginnings place from count = filter (begins_at place) (numbers_from from count)

-- none begins in a piece
inside : (place : ℕ → Option ℕ) (piece : Piece) → IsPlaced place piece → (byte : ℕ) → piece.from < byte → byte < piece.from + piece.len → begins_at place byte ≡ false
inside place piece placed zero above below = absurd (omega (arith, above))
inside place piece placed (suc byte) above below =
    let same : suc (piece.at + (byte - piece.from)) ≡ piece.at + (suc byte - piece.from) = omega (arith, above) in
    ap (λ before. not (goes_on before (place (suc byte)))) (placed.bytes byte (omega (arith, above)) (omega (arith, below)))
    ∙ ap (λ at. not (goes_on (of_kind piece.kind (piece.at + (byte - piece.from))) at)) (placed.bytes (suc byte) (omega (arith, above)) below)
    ∙ ap not (on piece.kind (piece.at + (byte - piece.from)) (piece.at + (suc byte - piece.from)) same)
  where
    on : (kind : PieceKind) (before at : ℕ) → suc before ≡ at → goes_on (of_kind kind before) (of_kind kind at) ≡ true
    on Disk before at same = (Decides-eqb (suc before) at).1 same
    on Zero before at same = refl

-- the next piece begins where one ends
anew : (place : ℕ → Option ℕ) (piece next : Piece) → IsPlaced place piece → IsPlaced place next → 0 < piece.len → 0 < next.len → next.from ≡ piece.from + piece.len → not (is_contiguous piece next) ≡ true
    → (byte : ℕ) → byte ≡ piece.from + piece.len → begins_at place byte ≡ true
anew place piece next placed next_placed some more begins differ zero is = refl
anew place piece next placed next_placed some more begins differ (suc byte) is =
    let same : suc (piece.at + (byte - piece.from)) ≡ piece.at + piece.len = omega (arith, is, some) in
    let first : next.at + (suc byte - next.from) ≡ next.at = omega (arith, is, begins) in
    ap (λ before. not (goes_on before (place (suc byte)))) (placed.bytes byte (omega (arith, is, some)) (omega (arith, is)))
    ∙ ap (λ at. not (goes_on (of_kind piece.kind (piece.at + (byte - piece.from))) at)) (next_placed.bytes (suc byte) (omega (arith, is, begins)) (omega (arith, is, begins, more)))
    ∙ apart piece.kind next.kind piece.from piece.len piece.at next.from next.len next.at (piece.at + (byte - piece.from)) (next.at + (suc byte - next.from)) same first differ
  where
    apart : (kind other : PieceKind) (from len at next_from next_len next_at before behind : ℕ) → suc before ≡ at + len → behind ≡ next_at
        → not (is_contiguous (record { from = from; len = len; kind = kind; at = at }) (record { from = next_from; len = next_len; kind = other; at = next_at })) ≡ true
        → not (goes_on (of_kind kind before) (of_kind other behind)) ≡ true
    apart Disk Disk from len at next_from next_len next_at before behind same first differ = ap (λ n. not (n == behind)) same ∙ ap (λ n. not (at + len == n)) first ∙ differ
    apart Disk Zero from len at next_from next_len next_at before behind same first differ = refl
    apart Zero Disk from len at next_from next_len next_at before behind same first differ = refl
    apart Zero Zero from len at next_from next_len next_at before behind same first differ = differ

row_within : (from size : ℕ) (pieces : List Piece) → AreInARow from size pieces → from ≤ size
row_within from size [] row = omega (arith, row)
row_within from size (piece ∷ pieces) row = let rest = row_within (from + piece.len) size pieces row.2 in omega (arith, rest)

next_begins : (place : ℕ → Option ℕ) (piece : Piece) (pieces : List Piece) (from size : ℕ) → IsFirst from size piece pieces → IsPlaced place piece → All (IsPlaced place) pieces → from + piece.len < size
    → begins_at place (from + piece.len) ≡ true
next_begins place piece [] from size first placed rest below = let end = covered_row (from + piece.len) size [] first.rest in absurd (omega (arith, end, below))
next_begins place piece (next ∷ pieces) from size first placed rest below =
    let second = first_of_all (from + piece.len) size next pieces first.rest in
    let at = first.begins in
    let next_at = second.begins in
    anew place piece next placed (All-head (IsPlaced place) next pieces rest) first.some second.some (omega (arith, at, next_at)) first.anew (from + piece.len) (omega (arith, at))

one_begins : (place : ℕ → Option ℕ) (piece : Piece) → IsPlaced place piece → (from len : ℕ) → piece.from ≡ from → piece.len ≡ suc len → begins_at place from ≡ true → beginnings place from piece.len ≡ from ∷ []
one_begins place piece placed from len at is begins =
    ap (λ n. beginnings place from n) is ∙ filter_first (begins_at place) from (numbers_from (suc from) len) begins
    ∙ ap (λ list. from ∷ list)
    (filter_none (begins_at place) (numbers_from (suc from) len)
    (λ byte has. let within = of_numbers len (suc from) byte has in let above = within.0 in let below = within.1 in inside place piece placed byte (omega (arith, above, at)) (omega (arith, below, at, is))))

count_from : (place : ℕ → Option ℕ) (pieces : List Piece) (from size count : ℕ) → from + count ≡ size → covers_from from size pieces ≡ true → All (IsPlaced place) pieces → (from < size → begins_at place from ≡ true)
    → length (beginnings place from count) ≡ length pieces
count_from place [] from size count total covered placed begins =
    let end = covered_row from size [] covered in
    let none : count ≡ 0 = omega (arith, end, total) in
    ap (λ n. length (beginnings place from n)) none
count_from place (piece ∷ pieces) from size count total covered placed begins =
    let first = first_of_all from size piece pieces covered in
    let some = first.some in
    let within = row_within (from + piece.len) size pieces (covered_row (from + piece.len) size pieces first.rest) in
    let here = All-head (IsPlaced place) piece pieces placed in
    let rest : ℕ = count - piece.len in
    let whole : count ≡ piece.len + rest = omega (arith, within, total) in
    let split : beginnings place from count ≡ beginnings place from piece.len ++ beginnings place (from + piece.len) rest =
    ap (λ n. beginnings place from n) whole ∙ ap (filter (begins_at place)) (numbers_split piece.len rest from) ∙ filter-append (begins_at place) (numbers_from from piece.len) (numbers_from (from + piece.len) rest) in
    let one = one_begins place piece here from (piece.len - 1) first.begins (omega (arith, some)) (begins (omega (arith, within, some))) in
    ap length split ∙ ap (λ list. length (list ++ beginnings place (from + piece.len) rest)) one
    ∙ ap suc
    (count_from place pieces (from + piece.len) size rest (omega (arith, within, total)) first.rest (All-tail (IsPlaced place) piece pieces placed)
    (λ below. next_begins place piece pieces from size first here (All-tail (IsPlaced place) piece pieces placed) below))

-- pieces up to an end are as many as the bytes up to it with which one begins
pub count_pieces : (place : ℕ → Option ℕ) (end : ℕ) (pieces : List Piece) → ArePiecesAt place end pieces → length pieces ≡ length (beginnings place 0 end)
count_pieces place end pieces are = sym (count_from place pieces 0 end end (omega arith) are.covered are.placed (λ some. refl))

-- and there are no fewer up to a later end
pub more_beginnings : (place : ℕ → Option ℕ) (end size : ℕ) → end ≤ size → length (beginnings place 0 end) ≤ length (beginnings place 0 size)
more_beginnings place end size before =
    let whole : end + (size - end) ≡ size = omega (arith, before) in
    let split : beginnings place 0 size ≡ beginnings place 0 end ++ beginnings place (0 + end) (size - end) =
    ap (λ n. beginnings place 0 n) (sym whole) ∙ ap (filter (begins_at place)) (numbers_split end (size - end) 0) ∙ filter-append (begins_at place) (numbers_from 0 end) (numbers_from (0 + end) (size - end)) in
    let long = ap length split in
    omega (arith, long, length-append (beginnings place 0 end) (beginnings place (0 + end) (size - end)))
