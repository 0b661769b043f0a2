-- The least byte that two sets share.
use Rattle.std.proofs.Common.{◌≡◌, ℕ, ◌+◌, ◌-◌, ◌<◌, ◌≤◌, Bool, false, ◌&&◌, max, Option, Some, None, List, [], ◌∷◌, length, drop, get_or, refl, ◌∙◌, subst, arith}
use Rattle.std.proofs.lemmas.List.{drop_more}
use Rattle.std.proofs.lemmas.Bool.Decides.{nat_tests}
use Rattle.range_defs.specs.declared.Range.{Range}
use Rattle.range_defs.specs.Places.{covers, BeginsBehind, IsRangeList, IsLeast}

-- no byte in front of a canonical list is in it
pub covers-before : (ranges : List Range) (byte : ℕ) → IsRangeList ranges → BeginsBehind byte ranges → covers ranges byte ≡ false
covers-before [] byte kept before = refl
covers-before (range ∷ []) byte kept before = grind (arith, nat_tests)
covers-before (range ∷ next ∷ ranges) byte kept before = grind (arith, nat_tests, covers-before (next ∷ ranges) byte kept.2)

-- whether both sets have a byte
abbrev pub both : List Range → List Range → ℕ → Bool
both a b byte = covers a byte && covers b byte

-- what two sets share is what is left of them shares
abbrev pub Left : List Range → List Range → ℕ → ℕ → Type 0
Left a b left right = IsRangeList (drop left a) × IsRangeList (drop right b) × ((byte : ℕ) → both a b byte ≡ both (drop left a) (drop right b) byte)

-- the first range of one set lies in front of all of the other
skip-first : (mine theirs : Range) (a b : List Range) (byte : ℕ) → mine.at + mine.len ≤ theirs.at → IsRangeList (theirs ∷ b)
    → both (mine ∷ a) (theirs ∷ b) byte ≡ both a (theirs ∷ b) byte
skip-first mine theirs a b byte apart kept = grind (arith, nat_tests, covers-before (theirs ∷ b) byte kept)

skip-second : (mine theirs : Range) (a b : List Range) (byte : ℕ) → theirs.at + theirs.len ≤ mine.at → IsRangeList (mine ∷ a)
    → both (mine ∷ a) (theirs ∷ b) byte ≡ both (mine ∷ a) b byte
skip-second mine theirs a b byte apart kept = grind (arith, nat_tests, covers-before (mine ∷ a) byte kept)

-- where the first ranges of both share the later one's first byte, that is the least
found-here : (mine theirs : Range) (a b : List Range) → IsRangeList (mine ∷ a) → IsRangeList (theirs ∷ b)
    → max mine.at theirs.at - mine.at < mine.len → max mine.at theirs.at - theirs.at < theirs.len
    → IsLeast (both (mine ∷ a) (theirs ∷ b)) (Some (max mine.at theirs.at))
found-here mine theirs a b kept_mine kept_theirs in_mine in_theirs = (
  grind (arith, nat_tests),
  λ byte low. grind (arith, nat_tests, covers-before (mine ∷ a) byte kept_mine, covers-before (theirs ∷ b) byte kept_theirs),
)

-- a test that passes the same bytes has the same least one
least-same : (p q : ℕ → Bool) (answer : Option ℕ) → ((byte : ℕ) → p byte ≡ q byte) → IsLeast q answer → IsLeast p answer
least-same p q None same least = λ byte. same byte ∙ least byte
least-same p q (Some at) same least = (same at ∙ least.0, λ byte low. same byte ∙ least.1 byte low)

-- both sets have ranges left
abbrev pub AreLeft : List Range → List Range → ℕ → ℕ → Type 0
AreLeft a b left right = (left < length a) × (right < length b)

pub left-skips : (a b : List Range) (left right : ℕ) (d : Range) → Left a b left right → AreLeft a b left right
    → (get_or a left d).len ≤ max (get_or a left d).at (get_or b right d).at - (get_or a left d).at → Left a b (left + 1) right
left-skips a b left right d so_far are_left apart =
    let first = drop_more a left d are_left.0 in
    let second = drop_more b right d are_left.1 in
    let kept_a = subst IsRangeList first so_far.0 in
    let kept_b = subst IsRangeList second so_far.1 in (
      kept_a.2,
      so_far.1,
      λ byte. so_far.2 byte
          ∙ rw (first, second) (skip-first (get_or a left d) (get_or b right d) (drop (left + 1) a) (drop (right + 1) b) byte (omega (arith, kept_a.0)) kept_b),
    )

pub right-skips : (a b : List Range) (left right : ℕ) (d : Range) → Left a b left right → AreLeft a b left right
    → (get_or b right d).len ≤ max (get_or a left d).at (get_or b right d).at - (get_or b right d).at → Left a b left (right + 1)
right-skips a b left right d so_far are_left apart =
    let first = drop_more a left d are_left.0 in
    let second = drop_more b right d are_left.1 in
    let kept_a = subst IsRangeList first so_far.0 in
    let kept_b = subst IsRangeList second so_far.1 in (
      so_far.0,
      kept_b.2,
      λ byte. so_far.2 byte
          ∙ rw (first, second) (skip-second (get_or a left d) (get_or b right d) (drop (left + 1) a) (drop (right + 1) b) byte (omega (arith, kept_b.0)) kept_a),
    )

pub found : (a b : List Range) (left right : ℕ) (d : Range) → Left a b left right → AreLeft a b left right
    → max (get_or a left d).at (get_or b right d).at - (get_or a left d).at < (get_or a left d).len
    → max (get_or a left d).at (get_or b right d).at - (get_or b right d).at < (get_or b right d).len
    → IsLeast (both a b) (Some (max (get_or a left d).at (get_or b right d).at))
found a b left right d so_far are_left in_mine in_theirs =
    let first = drop_more a left d are_left.0 in
    let second = drop_more b right d are_left.1 in
    let mine : Range = get_or a left d in
    let theirs : Range = get_or b right d in
    least-same (both a b) (both (mine ∷ drop (left + 1) a) (theirs ∷ drop (right + 1) b)) (Some (max mine.at theirs.at))
    (λ byte. so_far.2 byte ∙ rw (first, second) refl)
    (found-here mine theirs (drop (left + 1) a) (drop (right + 1) b) (subst IsRangeList first so_far.0) (subst IsRangeList second so_far.1) in_mine in_theirs)
