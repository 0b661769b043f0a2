-- Ranges that are sorted by where they begin, with those joined that overlap or touch.
use Rattle.std.proofs.Common.{◌≡◌, ℕ, suc, ◌+◌, ◌<◌, ◌≤◌, Bool, false, ◌||◌, nat_le, nat_lt, if◌then◌else◌, List, [], ◌∷◌, ◌++◌, length, drop, get_or, refl, sym, ◌∙◌, ap, subst, append_assoc, arith}
use Rattle.std.specs.List.{All, list_any}
use Rattle.std.specs.List.Sorted.{IsNonDecreasingBy, IsPermutation}
use Rattle.std.proofs.lemmas.List.{drop_more, drop_all}
use Rattle.std.proofs.lemmas.List.Elements.{All-nil, All-cons, All-head, All-tail, All-get_or}
use Rattle.std.proofs.lemmas.List.Sorted.{list_any-IsPermutation}
use Rattle.std.proofs.lemmas.Bool.{cond_both, ltb-true, leb-false}
use Rattle.std.proofs.Math.Bool.{or_assoc}
use Rattle.std.proofs.lemmas.Bool.Decides.{nat_tests}
use Rattle.range_defs.specs.declared.Range.{Range}
use Rattle.range_defs.specs.Places.{in_range, covers, BeginsBehind, IsRangeList, EndsInReach}
use Rattle.rx_ranges.specs.Hull.{hull, unless_empty}

-- ranges in another order have the same bytes
covers-any : (ranges : List Range) (byte : ℕ) → covers ranges byte ≡ list_any (λ range. in_range range byte) ranges
covers-any [] byte = refl
covers-any (range ∷ ranges) byte = ap (λ (rest : Bool). in_range range byte || rest) (covers-any ranges byte)

pub covers-permutation : (a b : List Range) (byte : ℕ) → IsPermutation a b → covers b byte ≡ covers a byte
covers-permutation a b byte moved = covers-any b byte ∙ sym (list_any-IsPermutation (λ range. in_range range byte) a b moved) ∙ sym (covers-any a byte)

-- each range begins at a byte or behind it, and no later than the next one
abbrev pub Rise : ℕ → List Range → Type 0
Rise from [] = Unit {0}
Rise from (range ∷ ranges) = (from ≤ range.at) × Rise range.at ranges

rise-from : (from : ℕ) (ranges : List Range) → All (λ range. from ≤ range.at) ranges → IsNonDecreasingBy (λ range. range.at) ranges → Rise from ranges
rise-from from [] low sorted = tt
rise-from from (range ∷ ranges) low sorted = (
  All-head (λ range. from ≤ range.at) range ranges low,
  rise-from range.at ranges (λ k d within. sorted 0 (suc k) d (omega arith) (omega arith)) (λ i j d order within. sorted (suc i) (suc j) d (omega arith) (omega arith)),
)

pub rise : (ranges : List Range) → IsNonDecreasingBy (λ range. range.at) ranges → Rise 0 ranges
rise ranges sorted = rise-from 0 ranges (λ k d within. omega arith) sorted

-- a range in front of sorted ranges, with those joined that overlap or touch
unfoldable pub merged_to : Range → List Range → List Range
merged_to last [] = unless_empty last
merged_to last (next ∷ ranges) =
    if nat_le next.at (last.at + last.len) then merged_to (hull last next) ranges else unless_empty last ++ merged_to next ranges

pub merged-none : (last : Range) → merged_to last [] ≡ unless_empty last
unfolding merged_to
merged-none last = refl

pub merged-joins : (last next : Range) (ranges : List Range) → next.at ≤ last.at + last.len → merged_to last (next ∷ ranges) ≡ merged_to (hull last next) ranges
unfolding merged_to
merged-joins last next ranges touches = grind (arith, nat_tests)

pub merged-apart : (last next : Range) (ranges : List Range) → last.at + last.len < next.at → merged_to last (next ∷ ranges) ≡ unless_empty last ++ merged_to next ranges
unfolding merged_to
merged-apart last next ranges apart = grind (arith, nat_tests)

-- what holds with a range in front and without one holds with one that is left out where it is empty
pub with-unless : (P : List Range → Type 0) (range : Range) (ranges : List Range) → (0 < range.len → P (range ∷ ranges)) → P ranges → P (unless_empty range ++ ranges)
with-unless P range ranges some none =
    cond_both (nat_lt 0 range.len) (range ∷ []) [] (λ (list : List Range). P (list ++ ranges)) (λ is. some (ltb-true 0 range.len is)) (λ empty. none)

pub covers-unless : (range : Range) (ranges : List Range) (byte : ℕ) → covers (unless_empty range ++ ranges) byte ≡ (in_range range byte || covers ranges byte)
covers-unless range ranges byte = grind (arith, nat_tests)

-- the range round the first two begins where the first does
rise-hull : (last next : Range) (ranges : List Range) → Rise last.at (next ∷ ranges) → Rise (hull last next).at ranges
rise-hull last next [] sorted = tt
rise-hull last next (range ∷ ranges) sorted = (omega (arith, sorted.0, sorted.1.0), sorted.1.1)

-- the same bytes
covers-merged : (last : Range) (ranges : List Range) (byte : ℕ) → Rise last.at ranges → covers (merged_to last ranges) byte ≡ (in_range last byte || covers ranges byte)
unfolding merged_to
covers-merged last [] byte sorted = grind (arith, nat_tests)
covers-merged last (next ∷ ranges) byte sorted =
    cond_both (nat_le next.at (last.at + last.len)) (merged_to (hull last next) ranges) (unless_empty last ++ merged_to next ranges)
    (λ (list : List Range). covers list byte ≡ (in_range last byte || (in_range next byte || covers ranges byte)))
    (λ touches. let both : in_range (hull last next) byte ≡ (in_range last byte || in_range next byte) = grind (arith, nat_tests) in
    covers-merged (hull last next) ranges byte (rise-hull last next ranges sorted) ∙ ap (λ (first : Bool). first || covers ranges byte) both
    ∙ or_assoc (in_range last byte) (in_range next byte) (covers ranges byte))
    (λ apart. covers-unless last (merged_to next ranges) byte ∙ ap (λ (rest : Bool). in_range last byte || rest) (covers-merged next ranges byte sorted.1))

pub covers-all : (ranges : List Range) (byte : ℕ) → Rise 0 ranges → covers (merged_to (record { at = 0; len = 0 }) ranges) byte ≡ covers ranges byte
covers-all ranges byte sorted =
    let out : in_range (record { at = 0; len = 0 }) byte ≡ false = grind (arith, nat_tests) in
    covers-merged (record { at = 0; len = 0 }) ranges byte sorted ∙ ap (λ (first : Bool). first || covers ranges byte) out

begins-merged : (byte : ℕ) (last : Range) (ranges : List Range) → byte < last.at → Rise last.at ranges → BeginsBehind byte (merged_to last ranges)
unfolding merged_to
begins-merged byte last [] before sorted = cond_both (nat_lt 0 last.len) (last ∷ []) [] (BeginsBehind byte) (λ some. before) (λ empty. tt)
begins-merged byte last (next ∷ ranges) before sorted =
    cond_both (nat_le next.at (last.at + last.len)) (merged_to (hull last next) ranges) (unless_empty last ++ merged_to next ranges) (BeginsBehind byte)
    (λ touches. begins-merged byte (hull last next) ranges (omega (arith, sorted.0)) (rise-hull last next ranges sorted))
    (λ apart. with-unless (BeginsBehind byte) last (merged_to next ranges) (λ some. before) (begins-merged byte next ranges (omega (arith, sorted.0)) sorted.1))

-- they are in the kept form
pub kept-merged : (last : Range) (ranges : List Range) → Rise last.at ranges → IsRangeList (merged_to last ranges)
unfolding merged_to
kept-merged last [] sorted = cond_both (nat_lt 0 last.len) (last ∷ []) [] IsRangeList (λ some. (ltb-true 0 last.len some, tt, tt)) (λ empty. tt)
kept-merged last (next ∷ ranges) sorted =
    cond_both (nat_le next.at (last.at + last.len)) (merged_to (hull last next) ranges) (unless_empty last ++ merged_to next ranges) IsRangeList
    (λ touches. kept-merged (hull last next) ranges (rise-hull last next ranges sorted))
    (λ apart. let rest : IsRangeList (merged_to next ranges) = kept-merged next ranges sorted.1 in
    with-unless IsRangeList last (merged_to next ranges)
    (λ some. (some, begins-merged (last.at + last.len) next ranges (leb-false next.at (last.at + last.len) apart) sorted.1, rest)) rest)

-- and end in reach
pub reach-merged : (last : Range) (ranges : List Range) → EndsInReach last → All EndsInReach ranges → All EndsInReach (merged_to last ranges)
unfolding merged_to
reach-merged last [] reach reaches = cond_both (nat_lt 0 last.len) (last ∷ []) [] (All EndsInReach) (λ some. All-cons EndsInReach last [] reach (All-nil EndsInReach)) (λ empty. All-nil EndsInReach)
reach-merged last (next ∷ ranges) reach reaches =
    let next_reach : EndsInReach next = All-head EndsInReach next ranges reaches in
    let rest : All EndsInReach ranges = All-tail EndsInReach next ranges reaches in
    cond_both (nat_le next.at (last.at + last.len)) (merged_to (hull last next) ranges) (unless_empty last ++ merged_to next ranges) (All EndsInReach)
    (λ touches. reach-merged (hull last next) ranges (omega (arith, reach, next_reach)) rest)
    (λ apart. let others : All EndsInReach (merged_to next ranges) = reach-merged next ranges next_reach rest in
    with-unless (All EndsInReach) last (merged_to next ranges) (λ some. All-cons EndsInReach last (merged_to next ranges) reach others) others)

-- what is written, and the last range with those that are left merged, are the whole
abbrev pub SoFar : List Range → List Range → List Range → Range → ℕ → Type 0
SoFar whole ranges out last i = (out ++ merged_to last (drop i ranges) ≡ whole) × EndsInReach last

pub so_far-joins : (whole ranges out out' : List Range) (last last' d : Range) (i : ℕ) → SoFar whole ranges out last i → All EndsInReach ranges
    → i < length ranges → (get_or ranges i d).at ≤ last.at + last.len → out' ≡ out → last' ≡ hull last (get_or ranges i d) → SoFar whole ranges out' last' (i + 1)
so_far-joins whole ranges out out' last last' d i so_far reach within touches same joined =
    let next : Range = get_or ranges i d in
    let next_reach : EndsInReach next = All-get_or EndsInReach ranges i d within reach in
    let hull_reach : EndsInReach (hull last next) = omega (arith, so_far.1) in (
      rw (same, joined, ← merged-joins last next (drop (i + 1) ranges) touches, ← drop_more ranges i d within) so_far.0,
      subst EndsInReach (sym joined) hull_reach,
    )

pub so_far-apart : (whole ranges out out' : List Range) (last last' d : Range) (i : ℕ) → SoFar whole ranges out last i → All EndsInReach ranges
    → i < length ranges → last.at + last.len < (get_or ranges i d).at → out' ≡ out ++ unless_empty last → last' ≡ get_or ranges i d
    → SoFar whole ranges out' last' (i + 1)
so_far-apart whole ranges out out' last last' d i so_far reach within apart wrote taken =
    let next : Range = get_or ranges i d in (
      rw (wrote, taken, append_assoc, ← merged-apart last next (drop (i + 1) ranges) apart, ← drop_more ranges i d within) so_far.0,
      subst EndsInReach (sym taken) (All-get_or EndsInReach ranges i d within reach),
    )

pub so_far-done : (whole ranges out out' : List Range) (last : Range) (i : ℕ) → SoFar whole ranges out last i → length ranges ≤ i
    → out' ≡ out ++ unless_empty last → out' ≡ whole
so_far-done whole ranges out out' last i so_far done wrote =
    wrote ∙ ap (λ (xs : List Range). out ++ xs) (sym (merged-none last) ∙ ap (merged_to last) (sym (drop_all i ranges done))) ∙ so_far.0
