-- The ranges that a set leaves free.
use Rattle.std.proofs.Common.{◌≡◌, ℕ, zero, suc, ◌+◌, ◌-◌, ◌<◌, ◌≤◌, false, ◌&&◌, not, nat_le, nat_lt, List, [], ◌∷◌, ◌++◌, length, drop, get_or, refl, sym, ◌∙◌, subst, append_assoc, append-nil, arith}
use Rattle.std.specs.List.{All}
use Rattle.std.proofs.lemmas.List.{drop_more, drop_all}
use Rattle.std.proofs.lemmas.List.Elements.{All-get_or}
use Rattle.std.proofs.lemmas.Bool.Decides.{nat_tests}
use Rattle.range_defs.specs.declared.Range.{Range}
use Rattle.range_defs.specs.declared.TheConstants.{REACH}
use Rattle.range_defs.specs.Places.{covers, BeginsBehind, IsRangeList, EndsInReach}
use Rattle.range_defs.proofs.RangeLaws.{ends_where_covered}
use Rattle.rx_ranges.specs.Hull.{unless_empty}
use Rattle.rx_ranges.proofs.Meeting.{covers-before}
use Rattle.rx_ranges.proofs.Merging.{covers-unless, with-unless}

-- no byte up to one behind which a canonical list begins is in it
pub covers-behind : (end byte : ℕ) (ranges : List Range) → IsRangeList ranges → BeginsBehind end ranges → byte ≤ end → covers ranges byte ≡ false
covers-behind end byte [] kept behind low = refl
covers-behind end byte (range ∷ ranges) kept behind low = covers-before (range ∷ ranges) byte kept (omega arith)

-- a canonical list begins behind a byte where it has none up to that byte
begins-behind : (byte : ℕ) (ranges : List Range) → IsRangeList ranges → ((low : ℕ) → low ≤ byte → covers ranges low ≡ false) → BeginsBehind byte ranges
begins-behind byte [] kept free = tt
begins-behind byte (range ∷ ranges) kept free = grind (arith, nat_tests, free range.at)

-- a range and a canonical list that has no byte up to the one right behind it are a canonical list
pub kept-unless : (range : Range) (ranges : List Range) → IsRangeList ranges → (0 < range.len → (low : ℕ) → low ≤ range.at + range.len → covers ranges low ≡ false)
    → IsRangeList (unless_empty range ++ ranges)
kept-unless range ranges kept free =
    with-unless IsRangeList range ranges (λ some. (some, begins-behind (range.at + range.len) ranges kept (free some), kept)) kept

pub kept-drop : (ranges : List Range) (i : ℕ) → IsRangeList ranges → IsRangeList (drop i ranges)
kept-drop ranges zero kept = kept
kept-drop [] (suc i) kept = tt
kept-drop (range ∷ ranges) (suc i) kept = kept-drop ranges i kept.2

-- a canonical list of the bytes in reach, from one on, that ranges leave free
abbrev pub Leaves : ℕ → List Range → List Range → Type 0
Leaves from ranges free = IsRangeList free × ((byte : ℕ) → covers free byte ≡ (nat_le from byte && (nat_lt byte REACH && not (covers ranges byte))))

-- the range from a byte to in front of another
abbrev pub between : ℕ → ℕ → Range
between from to = record { at = from; len = to - from }

pub leaves-last : (from : ℕ) → from ≤ REACH → Leaves from [] (unless_empty (between from REACH))
leaves-last from reach = (
  subst IsRangeList (append-nil (unless_empty (between from REACH))) (kept-unless (between from REACH) [] tt (λ some low to. refl)),
  λ byte. grind (arith, nat_tests),
)

leaves-more : (from : ℕ) (range : Range) (ranges free : List Range) → IsRangeList (range ∷ ranges) → EndsInReach range → from ≤ range.at
    → Leaves (range.at + range.len) ranges free → Leaves from (range ∷ ranges) (unless_empty (between from range.at) ++ free)
leaves-more from range ranges free kept reach begins leaves = (
  kept-unless (between from range.at) free leaves.0 (λ some low to. grind (arith, nat_tests, leaves.1 low)),
  λ byte. let behind = covers-behind (range.at + range.len) byte ranges kept.2 kept.1 in
      covers-unless (between from range.at) free byte ∙ grind (arith, nat_tests, leaves.1 byte, behind),
)

-- the ranges begin at a byte or behind it
abbrev pub BeginsFrom : ℕ → List Range → Type 0
BeginsFrom from [] = Unit {0}
BeginsFrom from (range ∷ ranges) = from ≤ range.at

begins-from : (from : ℕ) (ranges : List Range) → BeginsBehind from ranges → BeginsFrom from ranges
begins-from from [] behind = tt
begins-from from (range ∷ ranges) behind = omega arith

-- what is written, and what the ranges that are left leave free, are what all leave free
abbrev pub FreeSoFar : List Range → List Range → ℕ → ℕ → Type 0
FreeSoFar ranges out from i = (from ≤ REACH) × BeginsFrom from (drop i ranges) × ((free : List Range) → Leaves from (drop i ranges) free → Leaves 0 ranges (out ++ free))

pub free-starts : (ranges : List Range) → FreeSoFar ranges [] 0 0
free-starts [] = (omega arith, tt, λ free leaves. leaves)
free-starts (range ∷ ranges) = (omega arith, omega arith, λ free leaves. leaves)

-- the next range begins behind what is written
pub free-begins : (ranges out : List Range) (from i : ℕ) (d : Range) → FreeSoFar ranges out from i → i < length ranges → from ≤ (get_or ranges i d).at
free-begins ranges out from i d so_far within = subst (BeginsFrom from) (drop_more ranges i d within) so_far.1

pub free-more : (ranges out out' : List Range) (from from' i : ℕ) (d : Range) → FreeSoFar ranges out from i → IsRangeList ranges → All EndsInReach ranges
    → i < length ranges → out' ≡ out ++ unless_empty (between from (get_or ranges i d).at) → from' ≡ (get_or ranges i d).at + (get_or ranges i d).len
    → FreeSoFar ranges out' from' (i + 1)
free-more ranges out out' from from' i d so_far kept reach within wrote moved =
    let range : Range = get_or ranges i d in
    let start = drop_more ranges i d within in
    let left : IsRangeList (range ∷ drop (i + 1) ranges) = subst IsRangeList start (kept-drop ranges i kept) in
    let ends : EndsInReach range = All-get_or EndsInReach ranges i d within reach in
    let begins : from ≤ range.at = free-begins ranges out from i d so_far within in
    rw (wrote, moved) (
      ends,
      begins-from (range.at + range.len) (drop (i + 1) ranges) left.1,
      λ free leaves. rw append_assoc (so_far.2 (unless_empty (between from range.at) ++ free) (rw start (leaves-more from range (drop (i + 1) ranges) free left ends begins leaves))),
    )

pub free-ends : (ranges out out' : List Range) (from i : ℕ) → FreeSoFar ranges out from i → length ranges ≤ i → out' ≡ out ++ unless_empty (between from REACH) → Leaves 0 ranges out'
free-ends ranges out out' from i so_far done wrote =
    subst (Leaves 0 ranges) (sym wrote)
    (so_far.2 (unless_empty (between from REACH)) (subst (λ (left : List Range). Leaves from left (unless_empty (between from REACH))) (sym (drop_all i ranges done)) (leaves-last from so_far.0)))

-- and it ends in reach
pub free-reach : (from : ℕ) (ranges free : List Range) → Leaves from ranges free → All EndsInReach free
free-reach from ranges free leaves = ends_where_covered free REACH leaves.0 (λ byte past. leaves.1 byte ∙ grind (arith, nat_tests))
