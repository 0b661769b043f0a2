-- What two sets share.
use Rattle.std.proofs.Common.{◌≡◌, ℕ, ◌+◌, ◌<◌, ◌≤◌, Bool, true, false, ◌&&◌, ◌||◌, List, [], ◌∷◌, ◌++◌, length, drop, get_or, sym, ◌∙◌, ap, refl, subst, append_assoc, append-nil, ◌⊎◌, ⊎_elim, arith}
use Rattle.std.specs.List.{All}
use Rattle.std.proofs.lemmas.List.{drop_more, drop_all}
use Rattle.std.proofs.lemmas.Bool.{and_right, false≢true}
use Rattle.std.proofs.Math.Bool.{and_comm}
use Rattle.std.proofs.Math.Nat.{max_comm, min_comm}
use Rattle.std.proofs.lemmas.Bool.Decides.{nat_tests}
use Rattle.range_defs.specs.declared.Range.{Range}
use Rattle.range_defs.specs.declared.TheConstants.{REACH}
use Rattle.range_defs.specs.Places.{covers, in_range, IsRangeList, EndsInReach}
use Rattle.range_defs.proofs.RangeLaws.{covers-past, ends_where_covered}
use Rattle.rx_ranges.specs.Hull.{overlap, unless_empty}
use Rattle.rx_ranges.proofs.LeftFree.{covers-behind, kept-unless, kept-drop}
use Rattle.rx_ranges.proofs.Meeting.{both}
use Rattle.rx_ranges.proofs.Merging.{covers-unless}

-- the canonical list of the bytes that two sets share
abbrev pub Shares : List Range → List Range → List Range → Type 0
Shares a b list = IsRangeList list × ((byte : ℕ) → covers list byte ≡ both a b byte)

-- where the first range of one set has no byte of the other's ranges behind its first one
apart-mine : (mine theirs a b : Bool) → (mine && b) ≡ false → ((mine && theirs) || (a && (theirs || b))) ≡ ((mine || a) && (theirs || b))
apart-mine true theirs a true apart = absurd (false≢true (sym apart))
apart-mine true true a false apart = refl
apart-mine true false a false apart = and_right a false refl
apart-mine false theirs a b apart = refl

-- the one of the first two ranges that ends first shares no more than their overlap
past-mine : (mine theirs : Range) (a b list : List Range) → IsRangeList (mine ∷ a) → IsRangeList (theirs ∷ b) → mine.at + mine.len ≤ theirs.at + theirs.len
    → Shares a (theirs ∷ b) list → Shares (mine ∷ a) (theirs ∷ b) (unless_empty (overlap mine theirs) ++ list)
past-mine mine theirs a b list kept_a kept_b ends shares = (
  kept-unless (overlap mine theirs) list shares.0
      (λ some low to. let behind = covers-behind (mine.at + mine.len) low a kept_a.2 kept_a.1 (omega arith) in shares.1 low ∙ rw behind refl),
  λ byte. let behind = covers-behind (theirs.at + theirs.len) byte b kept_b.2 kept_b.1 in
      let apart : (in_range mine byte && covers b byte) ≡ false = grind (arith, nat_tests, behind) in
      let first : in_range (overlap mine theirs) byte ≡ (in_range mine byte && in_range theirs byte) = grind (arith, nat_tests) in
      covers-unless (overlap mine theirs) list byte ∙ rw (first, shares.1 byte) (apart-mine (in_range mine byte) (in_range theirs byte) (covers a byte) (covers b byte) apart),
)

past-theirs : (mine theirs : Range) (a b list : List Range) → IsRangeList (mine ∷ a) → IsRangeList (theirs ∷ b) → theirs.at + theirs.len ≤ mine.at + mine.len
    → Shares (mine ∷ a) b list → Shares (mine ∷ a) (theirs ∷ b) (unless_empty (overlap mine theirs) ++ list)
past-theirs mine theirs a b list kept_a kept_b ends shares =
    let turned = past-mine theirs mine b a list kept_b kept_a ends (shares.0, λ byte. shares.1 byte ∙ and_comm (covers (mine ∷ a) byte) (covers b byte)) in
    rw (max_comm mine.at theirs.at, min_comm (mine.at + mine.len) (theirs.at + theirs.len))
    (turned.0, λ byte. turned.1 byte ∙ and_comm (covers (theirs ∷ b) byte) (covers (mine ∷ a) byte))

-- what is written, and what the ranges that are left share, are what the sets share
abbrev pub SharedSoFar : List Range → List Range → List Range → ℕ → ℕ → Type 0
SharedSoFar a b out left right = (list : List Range) → Shares (drop left a) (drop right b) list → Shares a b (out ++ list)

-- both sets are at ranges of theirs
abbrev pub Within : List Range → List Range → ℕ → ℕ → Type 0
Within a b left right = (left < length a) × (right < length b) × IsRangeList a × IsRangeList b

pub shared-mine : (a b out out' : List Range) (left right : ℕ) (d : Range) → SharedSoFar a b out left right → Within a b left right
    → (get_or a left d).at + (get_or a left d).len ≤ (get_or b right d).at + (get_or b right d).len
    → out' ≡ out ++ unless_empty (overlap (get_or a left d) (get_or b right d)) → SharedSoFar a b out' (left + 1) right
shared-mine a b out out' left right d so_far within ends wrote list shares =
    let first = drop_more a left d within.0 in
    let second = drop_more b right d within.1 in
    let kept_a = subst IsRangeList first (kept-drop a left within.2) in
    let kept_b = subst IsRangeList second (kept-drop b right within.3) in
    let mine : Range = get_or a left d in
    let theirs : Range = get_or b right d in
    rw (wrote, append_assoc) (so_far (unless_empty (overlap mine theirs) ++ list)
    (rw (first, second) (past-mine mine theirs (drop (left + 1) a) (drop (right + 1) b) list kept_a kept_b ends (rw second at shares))))

pub shared-theirs : (a b out out' : List Range) (left right : ℕ) (d : Range) → SharedSoFar a b out left right → Within a b left right
    → (get_or b right d).at + (get_or b right d).len < (get_or a left d).at + (get_or a left d).len
    → out' ≡ out ++ unless_empty (overlap (get_or a left d) (get_or b right d)) → SharedSoFar a b out' left (right + 1)
shared-theirs a b out out' left right d so_far within ends wrote list shares =
    let first = drop_more a left d within.0 in
    let second = drop_more b right d within.1 in
    let kept_a = subst IsRangeList first (kept-drop a left within.2) in
    let kept_b = subst IsRangeList second (kept-drop b right within.3) in
    let mine : Range = get_or a left d in
    let theirs : Range = get_or b right d in
    rw (wrote, append_assoc) (so_far (unless_empty (overlap mine theirs) ++ list)
    (rw (first, second) (past-theirs mine theirs (drop (left + 1) a) (drop (right + 1) b) list kept_a kept_b (omega arith) (rw first at shares))))

-- where one set has no more ranges, nothing is shared any more
pub shared-ends : (a b out : List Range) (left right : ℕ) → SharedSoFar a b out left right → (length a ≤ left) ⊎ (length b ≤ right) → Shares a b out
shared-ends a b out left right so_far done =
    subst (Shares a b) (append-nil out) (so_far [] (tt, λ byte. sym (none byte)))
  where
    none : (byte : ℕ) → both (drop left a) (drop right b) byte ≡ false
    none byte = ⊎_elim
        (λ first. ap (λ (left : List Range). both left (drop right b) byte) (drop_all left a first))
        (λ second. ap (λ (right : List Range). both (drop left a) right byte) (drop_all right b second) ∙ and_right (covers (drop left a) byte) false refl)
        done

-- it ends in reach
pub shared-reach : (a b list : List Range) → All EndsInReach a → Shares a b list → All EndsInReach list
shared-reach a b list reach shares = ends_where_covered list REACH shares.0 (λ byte past. shares.1 byte ∙ rw (covers-past REACH byte a reach past) refl)
