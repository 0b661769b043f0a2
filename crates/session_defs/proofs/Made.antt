-- Laws of changes that are made one after the other, and of writes in pieces.
use Rattle.std.proofs.Common.{◌≡◌, ℕ, zero, suc, ◌+◌, ◌*◌, ◌≤◌, ⊎_elim, Option, Some, None, List, [], ◌∷◌, ◌++◌, length, take, drop, refl, sym, ◌∙◌, ap, arith}
use Rattle.std.specs.Option.{option_map}
use Rattle.std.proofs.lemmas.Bool.{cases_lt}
use Rattle.std.proofs.lemmas.List.{append_assoc, append-nil, drop-drop, drop_all, drop_at, length-append, length-drop, length-take, nil_from_length, take-append-drop, take_all, take_at}
use Rattle.disk_defs.specs.Story.{Held, Story, Made, Change, Write, changed, overwritten, held_by, and_then}
use Rattle.disk_defs.specs.Disk.{Sizes, held, sizes_after, state_after, state_after_all}
use Rattle.disk_defs.specs.declared.Area.{Area}
use Rattle.disk_defs.specs.declared.Area.TheVariants.{Image, Journal}
use Rattle.session_defs.specs.Outcome.{changed_all, HeldLaw, OneMoreLaw}
use Rattle.session_defs.specs.Script.{Call, changes_of, pieces_in, write_pieces, writes}
use Rattle.session_defs.specs.declared.TheConstants.{PIECE}
use Rattle.session_defs.specs.declared.Turn.{Turn}

-- the changes of calls behind others are made on what those left
pub made_both : (calls more : List Call) (before : Held)
    → changed_all (changes_of (calls ++ more)) before ≡ changed_all (changes_of more) (changed_all (changes_of calls) before)
made_both [] more before = refl
made_both (call ∷ calls) more before = made_both calls more (changed call.change before)

-- ---- stores

told_after : (changes : List Change) (sizes : Sizes) (told : Option Story)
    → held (state_after_all changes (record { sizes = sizes; told = told })) ≡ option_map (changed_all changes) (option_map held_by told)
told_after [] sizes None = refl
told_after [] sizes (Some story) = refl
told_after (change ∷ changes) sizes None = told_after changes (sizes_after change sizes) None
told_after (change ∷ changes) sizes (Some story) = told_after changes (sizes_after change sizes) (Some (and_then (Made change) story))

pub held_law : HeldLaw
held_law changes state = told_after changes state.sizes state.told

pub one_more_law : OneMoreLaw
one_more_law [] change state = refl
one_more_law (first ∷ changes) change state = one_more_law changes change (state_after first state)

-- ---- writes in pieces

overwritten_by_nothing : (old : List ℕ) (at : ℕ) → overwritten old at [] ≡ old
unfolding overwritten
overwritten_by_nothing old at =
    let same : at + 0 ≡ at = omega arith in
    ap (λ n. take at old ++ drop n old) same ∙ take-append-drop at old

-- what stands in front of the end of what was written, and what stands behind it
written_front : (old new : List ℕ) (at : ℕ) → take (at + length new) (overwritten old at new) ≡ take at old ++ new
unfolding overwritten
written_front old new at =
    let rest = drop (at + length new) old in
    ap (take (at + length new)) (sym (append_assoc (take at old) new rest))
    ∙ ⊎_elim
    (λ past. ap (λ rest. take (at + length new) ((take at old ++ new) ++ rest)) (drop_all (at + length new) old (omega (arith, past)))
    ∙ ap (take (at + length new)) (append-nil (take at old ++ new))
    ∙ take_all (at + length new) (take at old ++ new) (omega (arith, length-append (take at old) new, length-take at old)))
    (λ within. take_at (take at old ++ new) rest (at + length new) (omega (arith, within, length-append (take at old) new, length-take at old)))
    (cases_lt (length old) at)

written_rest : (old new : List ℕ) (at : ℕ) → drop (at + length new) (overwritten old at new) ≡ drop (at + length new) old
unfolding overwritten
written_rest old new at =
    let rest = drop (at + length new) old in
    ap (drop (at + length new)) (sym (append_assoc (take at old) new rest))
    ∙ ⊎_elim
    (λ past. let none : rest ≡ [] = drop_all (at + length new) old (omega (arith, past)) in
    ap (λ rest. drop (at + length new) ((take at old ++ new) ++ rest)) none
    ∙ ap (drop (at + length new)) (append-nil (take at old ++ new))
    ∙ drop_all (at + length new) (take at old ++ new) (omega (arith, length-append (take at old) new, length-take at old))
    ∙ sym none)
    (λ within. drop_at (take at old ++ new) rest (at + length new) (omega (arith, within, length-append (take at old) new, length-take at old)))
    (cases_lt (length old) at)

-- a write right behind another one is one write of both
overwritten_twice : (old a b : List ℕ) (at : ℕ) → overwritten (overwritten old at a) (at + length a) b ≡ overwritten old at (a ++ b)
unfolding overwritten
overwritten_twice old a b at =
    let now = overwritten old at a in
    let rest : drop (at + length a + length b) now ≡ drop (at + length (a ++ b)) old =
    sym (drop-drop (length b) (at + length a) now) ∙ ap (drop (length b)) (written_rest old a at) ∙ drop-drop (length b) (at + length a) old
    ∙ ap (λ n. drop n old) (omega (arith, length-append a b)) in
    ap (λ front. front ++ (b ++ drop (at + length a + length b) now)) (written_front old a at)
    ∙ ap (λ rest. (take at old ++ a) ++ (b ++ rest)) rest
    ∙ append_assoc (take at old) a (b ++ drop (at + length (a ++ b)) old)
    ∙ ap (λ bytes. take at old ++ bytes) (sym (append_assoc a b (drop (at + length (a ++ b)) old)))

nothing_written : (area : Area) (at : ℕ) (before : Held) → changed (Write area at []) before ≡ before
nothing_written Image at before = ap (λ image. record { image = image; journal = before.journal }) (overwritten_by_nothing before.image at)
nothing_written Journal at before = ap (λ journal. record { image = before.image; journal = journal }) (overwritten_by_nothing before.journal at)

written_twice : (area : Area) (at : ℕ) (a b : List ℕ) (before : Held)
    → changed (Write area (at + length a) b) (changed (Write area at a) before) ≡ changed (Write area at (a ++ b)) before
written_twice Image at a b before = ap (λ image. record { image = image; journal = before.journal }) (overwritten_twice before.image a b at)
written_twice Journal at a b before = ap (λ journal. record { image = before.image; journal = journal }) (overwritten_twice before.journal a b at)

-- the first bytes, and then the others
written_apart : (area : Area) (at n : ℕ) (bytes : List ℕ) (before : Held)
    → changed (Write area (at + n) (drop n bytes)) (changed (Write area at (take n bytes)) before) ≡ changed (Write area at bytes) before
written_apart area at n bytes before =
    ⊎_elim
    (λ more. let long : length (take n bytes) ≡ n = omega (arith, more, length-take n bytes) in
    ap (λ k. changed (Write area (at + k) (drop n bytes)) (changed (Write area at (take n bytes)) before)) (sym long)
    ∙ written_twice area at (take n bytes) (drop n bytes) before
    ∙ ap (λ all. changed (Write area at all) before) (take-append-drop n bytes))
    (λ all. ap (λ rest. changed (Write area (at + n) rest) (changed (Write area at (take n bytes)) before)) (drop_all n bytes all)
    ∙ nothing_written area (at + n) (changed (Write area at (take n bytes)) before)
    ∙ ap (λ all. changed (Write area at all) before) (take_all n bytes all))
    (cases_lt n (length bytes))

pieces_made : (turn : Turn) (area : Area) (at : ℕ) (bytes : List ℕ) (count : ℕ) (before : Held) → length bytes ≤ PIECE * count
    → changed_all (changes_of (write_pieces turn area at bytes count)) before ≡ changed (Write area at bytes) before
pieces_made turn area at bytes zero before fits =
    let none : bytes ≡ [] = nil_from_length bytes (omega (arith, fits)) in
    sym (ap (λ all. changed (Write area at all) before) none ∙ nothing_written area at before)
pieces_made turn area at bytes (suc count) before fits =
    pieces_made turn area (at + PIECE) (drop PIECE bytes) count (changed (Write area at (take PIECE bytes)) before) (omega (arith, fits, length-drop PIECE bytes))
    ∙ written_apart area at PIECE bytes before

-- all pieces are one write
pub writes_made : (turn : Turn) (area : Area) (at : ℕ) (bytes : List ℕ) (before : Held)
    → changed_all (changes_of (writes turn area at bytes)) before ≡ changed (Write area at bytes) before
unfolding writes
writes_made turn area at bytes before = pieces_made turn area at bytes (pieces_in (length bytes)) before (omega arith)
