-- The loop that lays a claim over others.
use Rattle.std.proofs.Common.{◌≡◌, ℕ, ◌+◌, ◌<◌, ◌≤◌, List, ◌++◌, length, drop, get_or, sym, ◌∙◌, ap, subst, append_assoc}
use Rattle.std.specs.List.{All}
use Rattle.std.proofs.lemmas.List.{drop_more, drop_all}
use Rattle.std.proofs.lemmas.List.Elements.{All-get_or}
use Rattle.range_defs.specs.declared.Claim.{Claim}
use Rattle.range_defs.specs.Places.{EndsInReach}
use Rattle.rx_ranges.specs.Laying.{part_of, laid_on, unless_empty}
use Rattle.rx_ranges.proofs.Overlay.{laid_over, over-none, over-more}
use Rattle.rx_ranges.proofs.OverlayKeeps.{part-reach}

-- what is written, and what the rest of the claim laid over the claims that are left gives, are the whole
abbrev pub SoFar : List Claim → List Claim → List Claim → Claim → ℕ → Type 0
SoFar whole laid out rest i = (out ++ laid_over rest (drop i laid) ≡ whole) × EndsInReach rest.range

pub so_far-more : (whole laid out out' : List Claim) (rest rest' d : Claim) (i : ℕ) → SoFar whole laid out rest i → All (λ (claim : Claim). EndsInReach claim.range) laid
    → i < length laid → out' ≡ out ++ laid_on (get_or laid i d) rest
    → rest' ≡ part_of rest ((get_or laid i d).range.at + (get_or laid i d).range.len) (rest.range.at + rest.range.len) → SoFar whole laid out' rest' (i + 1)
so_far-more whole laid out out' rest rest' d i so_far reach within wrote cut =
    let next : Claim = get_or laid i d in
    let end : ℕ = next.range.at + next.range.len in
    let to : ℕ = rest.range.at + rest.range.len in
    let next_reach : EndsInReach next.range = All-get_or (λ (claim : Claim). EndsInReach claim.range) laid i d within reach in (
      ap (λ (xs : List Claim). xs ++ laid_over rest' (drop (i + 1) laid)) wrote
          ∙ append_assoc out (laid_on next rest) (laid_over rest' (drop (i + 1) laid))
          ∙ ap (λ (part : Claim). out ++ (laid_on next rest ++ laid_over part (drop (i + 1) laid))) cut
          ∙ ap (λ (xs : List Claim). out ++ xs) (sym (over-more rest next (drop (i + 1) laid)))
          ∙ ap (λ (xs : List Claim). out ++ laid_over rest xs) (sym (drop_more laid i d within))
          ∙ so_far.0,
      subst (λ (part : Claim). EndsInReach part.range) (sym cut) (part-reach rest end to next_reach so_far.1),
    )

pub so_far-done : (whole laid out out' : List Claim) (rest : Claim) (i : ℕ) → SoFar whole laid out rest i → length laid ≤ i
    → out' ≡ out ++ unless_empty rest → out' ≡ whole
so_far-done whole laid out out' rest i so_far done wrote =
    wrote ∙ ap (λ (xs : List Claim). out ++ xs) (sym (over-none rest)) ∙ ap (λ (xs : List Claim). out ++ laid_over rest xs) (sym (drop_all i laid done)) ∙ so_far.0
