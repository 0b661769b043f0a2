-- The loop that joins claims.
use Rattle.std.proofs.Common.{◌≡◌, ℕ, ◌+◌, ◌<◌, ◌≤◌, true, false, List, [], ◌∷◌, ◌++◌, length, drop, get_or, sym, ◌∙◌, ap, subst, append_assoc, arith}
use Rattle.std.specs.List.{All}
use Rattle.std.proofs.lemmas.List.{drop_more, drop_all}
use Rattle.std.proofs.lemmas.List.Elements.{All-get_or}
use Rattle.range_defs.specs.declared.Claim.{Claim}
use Rattle.range_defs.specs.Places.{EndsInReach}
use Rattle.rx_ranges.proofs.Joining.{joins, grown, joined_to, joined-none, joined-grows, joined-apart}

-- what is written, and the last claim with those that are left joined, are the whole
abbrev pub SoFar : List Claim → List Claim → List Claim → Claim → ℕ → Type 0
SoFar whole others out last i = (out ++ joined_to last (drop i others) ≡ whole) × EndsInReach last.range

pub so_far-grows : (whole others out out' : List Claim) (last last' d : Claim) (i : ℕ) → SoFar whole others out last i
    → All (λ (claim : Claim). EndsInReach claim.range) others → i < length others → joins last (get_or others i d) ≡ true
    → (get_or others i d).range.at ≡ last.range.at + last.range.len → out' ≡ out → last' ≡ grown last (get_or others i d) → SoFar whole others out' last' (i + 1)
so_far-grows whole others out out' last last' d i so_far reach within touches at same grew =
    let next : Claim = get_or others i d in
    let next_reach : EndsInReach next.range = All-get_or (λ (claim : Claim). EndsInReach claim.range) others i d within reach in
    let grown_reach : EndsInReach (grown last next).range = omega arith in (
      ap (λ (xs : List Claim). xs ++ joined_to last' (drop (i + 1) others)) same
          ∙ ap (λ (claim : Claim). out ++ joined_to claim (drop (i + 1) others)) grew
          ∙ ap (λ (xs : List Claim). out ++ xs) (sym (joined-grows last next (drop (i + 1) others) touches))
          ∙ ap (λ (xs : List Claim). out ++ joined_to last xs) (sym (drop_more others i d within))
          ∙ so_far.0,
      subst (λ (claim : Claim). EndsInReach claim.range) (sym grew) grown_reach,
    )

pub so_far-apart : (whole others out out' : List Claim) (last last' d : Claim) (i : ℕ) → SoFar whole others out last i
    → All (λ (claim : Claim). EndsInReach claim.range) others → i < length others → joins last (get_or others i d) ≡ false
    → out' ≡ out ++ last ∷ [] → last' ≡ get_or others i d → SoFar whole others out' last' (i + 1)
so_far-apart whole others out out' last last' d i so_far reach within apart wrote taken =
    let next : Claim = get_or others i d in
    let next_reach : EndsInReach next.range = All-get_or (λ (claim : Claim). EndsInReach claim.range) others i d within reach in (
      ap (λ (xs : List Claim). xs ++ joined_to last' (drop (i + 1) others)) wrote
          ∙ append_assoc out (last ∷ []) (joined_to last' (drop (i + 1) others))
          ∙ ap (λ (claim : Claim). out ++ (last ∷ joined_to claim (drop (i + 1) others))) taken
          ∙ ap (λ (xs : List Claim). out ++ xs) (sym (joined-apart last next (drop (i + 1) others) apart))
          ∙ ap (λ (xs : List Claim). out ++ joined_to last xs) (sym (drop_more others i d within))
          ∙ so_far.0,
      subst (λ (claim : Claim). EndsInReach claim.range) (sym taken) next_reach,
    )

pub so_far-done : (whole others out out' : List Claim) (last : Claim) (i : ℕ) → SoFar whole others out last i → length others ≤ i
    → out' ≡ out ++ last ∷ [] → out' ≡ whole
so_far-done whole others out out' last i so_far done wrote =
    wrote ∙ ap (λ (xs : List Claim). out ++ xs) (sym (joined-none last)) ∙ ap (λ (xs : List Claim). out ++ joined_to last xs) (sym (drop_all i others done)) ∙ so_far.0
