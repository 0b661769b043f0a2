-- Laws on sets of places. Ranges are claims of one paint, so the canonical list of a set is the one list of the longest
-- ranges, and the only one.
use Rattle.std.proofs.Common.{◌≡◌, ℕ, zero, suc, ◌+◌, ◌<◌, ◌≤◌, Bool, true, false, ◌||◌, cond, Option, Some, None, is_some, List, [], ◌∷◌, ◌++◌, map, refl, sym, ◌∙◌, ap, subst, arith}
use Rattle.std.specs.List.{All}
use Rattle.std.proofs.lemmas.List.Elements.{All-head, All-tail, All-map, All-same}
use Rattle.std.proofs.lemmas.Bool.{cond_both, or_right}
use Rattle.std.proofs.lemmas.Bool.Decides.{nat_tests}
use Rattle.range_defs.specs.declared.Range.{Range}
use Rattle.range_defs.specs.declared.Claim.{Claim}
use Rattle.range_defs.specs.Places.{in_range, covers, IsRangeList, in_front, longest_ranges}
use Rattle.range_defs.specs.Claims.{painted, lesser_paint, IsFillMap, ranges_of, longest_claims}
use Rattle.range_defs.specs.Claims as claims
use Rattle.range_defs.proofs.ClaimLaws as laws
use Rattle.range_defs.proofs.ClaimLaws.{longest-covers, longest_claims_kept, longest_claims_ends, same_fill_map, same_as_longest_claims, ends_where_painted}

-- a range ends at most at this byte
abbrev pub EndsBy : ℕ → Range → Type 0
EndsBy end range = range.at + range.len ≤ end

-- a byte lies in one list behind another where it lies in one of the two
pub covers_append : (ranges others : List Range) (byte : ℕ) → covers (ranges ++ others) byte ≡ (covers ranges byte || covers others byte)
covers_append [] others byte = refl
covers_append (range ∷ ranges) others byte = grind (arith, nat_tests, covers_append ranges others byte)

pub covers_front : (ranges others : List Range) (byte : ℕ) → covers ranges byte ≡ true → covers (ranges ++ others) byte ≡ true
covers_front ranges others byte covered = covers_append ranges others byte ∙ ap (λ first. first || covers others byte) covered

pub covers_back : (ranges others : List Range) (byte : ℕ) → covers others byte ≡ true → covers (ranges ++ others) byte ≡ true
covers_back ranges others byte covered = covers_append ranges others byte ∙ or_right (covers ranges byte) (covers others byte) covered

-- ranges that end by a byte have none from there on
pub covers-past : (end byte : ℕ) (ranges : List Range) → All (EndsBy end) ranges → end ≤ byte → covers ranges byte ≡ false
covers-past end byte [] ends past = refl
covers-past end byte (range ∷ ranges) ends past =
    let fits : range.at + range.len ≤ end = All-head (EndsBy end) range ranges ends in
    grind (arith, nat_tests, covers-past end byte ranges (All-tail (EndsBy end) range ranges ends))

-- the ranges as claims of one rule with one fill
as_claim : Range → Claim
as_claim range = record { range = range; rule = 0; fill = 0 }

abbrev as_claims : List Range → List Claim
as_claims ranges = map as_claim ranges

-- the one paint, where a test passes
abbrev one_paint : Bool → Option (ℕ × ℕ)
one_paint passes = cond passes (Some (0, 0)) None

ranges_of-as_claims : (ranges : List Range) → ranges_of (as_claims ranges) ≡ ranges
unfolding as_claim
ranges_of-as_claims [] = refl
ranges_of-as_claims (range ∷ ranges) = ap (λ rest. range ∷ rest) (ranges_of-as_claims ranges)

same_ranges : (a b : List Range) → as_claims a ≡ as_claims b → a ≡ b
same_ranges a b same = sym (ranges_of-as_claims a) ∙ ap ranges_of same ∙ ranges_of-as_claims b

painted-as_claims : (ranges : List Range) (byte : ℕ) → painted (as_claims ranges) byte ≡ one_paint (covers ranges byte)
unfolding as_claim
painted-as_claims [] byte = refl
painted-as_claims (range ∷ ranges) byte =
    ap (lesser_paint (one_paint (in_range range byte))) (painted-as_claims ranges byte) ∙ either (in_range range byte) (covers ranges byte)
  where
    either : (a b : Bool) → lesser_paint (one_paint a) (one_paint b) ≡ one_paint (a || b)
    either true true = refl
    either true false = refl
    either false b = refl

claims-kept : (ranges : List Range) → IsRangeList ranges → IsFillMap (as_claims ranges)
unfolding as_claim
claims-kept [] kept = tt
claims-kept (range ∷ []) kept = (kept.0, tt, tt)
claims-kept (range ∷ next ∷ ranges) kept = (kept.0, (omega (arith, kept.1), λ at. absurd (omega (arith, kept.1))), claims-kept (next ∷ ranges) kept.2)

ranges-kept : (ranges : List Range) → IsFillMap (as_claims ranges) → IsRangeList ranges
unfolding as_claim
ranges-kept [] kept = tt
ranges-kept (range ∷ []) kept = (kept.0, tt, tt)
ranges-kept (range ∷ next ∷ ranges) kept =
    let away : range.at + range.len ≡ next.at → ⊥ = λ at. kept.1.1 at refl in (kept.0, omega (arith, kept.1.0), ranges-kept (next ∷ ranges) kept.2)

-- the longest ranges are the longest claims of the one paint
in_front-claims : (byte : ℕ) (ranges : List Range) → as_claims (in_front byte ranges) ≡ claims.in_front byte (Some (0, 0)) (as_claims ranges)
unfolding as_claim
in_front-claims byte [] = refl
in_front-claims byte (range ∷ ranges) = grind (arith, nat_tests)

longest-claims : (test : ℕ → Bool) (from count : ℕ) → as_claims (longest_ranges test from count) ≡ longest_claims (λ byte. one_paint (test byte)) from count
unfolding longest_ranges longest_claims
longest-claims test from zero = refl
longest-claims test from (suc count) =
    let rest : List Range = longest_ranges test (suc from) count in
    cond_both (test from) (in_front from rest) rest
    (λ (list : List Range). as_claims list ≡ claims.in_front from (one_paint (test from)) (longest_claims (λ byte. one_paint (test byte)) (suc from) count))
    (λ passes. rw passes (in_front-claims from rest ∙ ap (claims.in_front from (Some (0, 0))) (longest-claims test (suc from) count)))
    (λ fails. rw fails (longest-claims test (suc from) count))

-- two canonical lists with the same bytes are one
pub same_range_list : (a b : List Range) → IsRangeList a → IsRangeList b → ((byte : ℕ) → covers a byte ≡ covers b byte) → a ≡ b
same_range_list a b kept_a kept_b agree =
    same_ranges a b
    (same_fill_map (as_claims a) (as_claims b) (claims-kept a kept_a) (claims-kept b kept_b)
    (λ byte. painted-as_claims a byte ∙ ap one_paint (agree byte) ∙ sym (painted-as_claims b byte)))

-- a canonical list with the bytes that pass a test, no range of which ends behind a byte, is the list of the longest
-- ranges in front of that byte
pub same_as_longest_ranges : (test : ℕ → Bool) (end : ℕ) (ranges : List Range) → IsRangeList ranges
    → ((byte : ℕ) → covers ranges byte ≡ test byte) → All (λ range. range.at + range.len ≤ end) ranges
    → ranges ≡ longest_ranges test 0 end
same_as_longest_ranges test end ranges kept agree within =
    same_ranges ranges (longest_ranges test 0 end)
    (same_as_longest_claims (λ byte. one_paint (test byte)) end (as_claims ranges) (claims-kept ranges kept)
    (λ byte. painted-as_claims ranges byte ∙ ap one_paint (agree byte)) (All-map (laws.EndsBy end) as_claim ranges (unfold as_claim in within))
    ∙ sym (longest-claims test 0 end))

ends-as_claims : (ranges : List Range) (end : ℕ) → All (laws.EndsBy end) (as_claims ranges) → All (EndsBy end) ranges
ends-as_claims ranges end ends =
    All-same (EndsBy end) ranges (ranges_of (as_claims ranges)) (sym (ranges_of-as_claims ranges)) (All-map (EndsBy end) (λ claim. claim.range) (as_claims ranges) ends)

-- a canonical list has no range behind the byte from which on it has no byte
pub ends_where_covered : (ranges : List Range) (end : ℕ) → IsRangeList ranges → ((byte : ℕ) → end ≤ byte → covers ranges byte ≡ false)
    → All (λ (range : Range). range.at + range.len ≤ end) ranges
ends_where_covered ranges end kept out =
    ends-as_claims ranges end
    (ends_where_painted (as_claims ranges) end (claims-kept ranges kept) (λ byte past. painted-as_claims ranges byte ∙ ap one_paint (out byte past)))

-- the longest ranges are a canonical list
pub longest_ranges_kept : (test : ℕ → Bool) (end : ℕ) → IsRangeList (longest_ranges test 0 end)
longest_ranges_kept test end =
    ranges-kept (longest_ranges test 0 end)
    (subst (λ (list : List Claim). IsFillMap list) (sym (longest-claims test 0 end)) (longest_claims_kept (λ byte. one_paint (test byte)) end))

-- they end with the last byte
pub longest_ranges_ends : (test : ℕ → Bool) (end : ℕ) → All (EndsBy end) (longest_ranges test 0 end)
longest_ranges_ends test end =
    ends-as_claims (longest_ranges test 0 end) end
    (All-same (laws.EndsBy end) (as_claims (longest_ranges test 0 end)) (longest_claims (λ byte. one_paint (test byte)) 0 end) (longest-claims test 0 end)
    (longest_claims_ends (λ byte. one_paint (test byte)) end))

-- and have the bytes that pass the test
pub longest_ranges_covers : (test : ℕ → Bool) (end byte : ℕ) → byte < end → covers (longest_ranges test 0 end) byte ≡ test byte
longest_ranges_covers test end byte inside =
    let within : in_range (record { at = 0; len = end }) byte ≡ true = grind (arith, nat_tests) in
    ap (λ (list : List Range). covers list byte) (sym (ranges_of-as_claims (longest_ranges test 0 end)) ∙ ap ranges_of (longest-claims test 0 end))
    ∙ longest-covers (λ b. one_paint (test b)) 0 end byte ∙ rw within (passes (test byte))
  where
    passes : (test : Bool) → is_some (one_paint test) ≡ test
    passes true = refl
    passes false = refl
