-- Claims that are laid over one another.
use Rattle.std.specs.Prelude.{◌≡◌, ℕ, ◌+◌, ◌-◌, ◌<◌, ◌≤◌, min, max, nat_le, nat_lt, if◌then◌else◌, List, [], ◌∷◌, ◌++◌}
use Rattle.range_defs.specs.declared.Claim.{Claim}

-- the claims are sorted from a byte on, none is empty, and none lies over another
abbrev pub AreApart : ℕ → List Claim → Type 0
AreApart from [] = Unit {0}
AreApart from (claim ∷ claims) = (from ≤ claim.range.at) × (0 < claim.range.len) × AreApart (claim.range.at + claim.range.len) claims

-- a claim has the fill of its rule
abbrev pub HasFill : (ℕ → ℕ) → Claim → Type 0
HasFill fill claim = claim.fill ≡ fill claim.rule

-- the bytes of a claim from one byte on to in front of another
unfoldable pub part_of : Claim → ℕ → ℕ → Claim
part_of claim from to = record {
  range = record { at = max claim.range.at from; len = min (claim.range.at + claim.range.len) to - max claim.range.at from };
  rule = claim.rule;
  fill = claim.fill;
}

-- the bytes that two claims share, with the lesser rule of the two
unfoldable pub shared_part : Claim → Claim → Claim
shared_part next claim =
    if nat_le next.rule claim.rule
    then part_of next claim.range.at (claim.range.at + claim.range.len)
    else part_of claim next.range.at (next.range.at + next.range.len)

-- a claim, unless it is empty
unfoldable pub unless_empty : Claim → List Claim
unless_empty claim = if nat_lt 0 claim.range.len then claim ∷ [] else []

-- a claim up to the end of another one, and that other one
unfoldable pub laid_on : Claim → Claim → List Claim
laid_on next claim =
    unless_empty (part_of claim claim.range.at next.range.at) ++ unless_empty (part_of next next.range.at claim.range.at)
    ++ unless_empty (shared_part next claim)
    ++ unless_empty (part_of next (claim.range.at + claim.range.len) (next.range.at + next.range.len))
