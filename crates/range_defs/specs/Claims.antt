-- Claims: which rule has a byte, and with what it fills it.
use Rattle.std.specs.Prelude.{◌≡◌, ◌≢◌, AllPairs, ℕ, zero, suc, ◌+◌, ◌<◌, ◌≤◌, ◌&&◌, ◌==◌, if◌then◌else◌, nat_le, Option, Some, None, List, [], ◌∷◌, map}
use Rattle.range_defs.specs.declared.Range.{Range}
use Rattle.range_defs.specs.declared.Claim.{Claim}
use Rattle.range_defs.specs.Places.{in_range}

-- the rule and the fill that a claim gives a byte
abbrev pub paint_of : Claim → ℕ → Option (ℕ × ℕ)
paint_of claim byte = if in_range claim.range byte then Some (claim.rule, claim.fill) else None

-- of two paints of one byte the one of the lesser rule, and the first of equal ones
abbrev pub lesser_paint : Option (ℕ × ℕ) → Option (ℕ × ℕ) → Option (ℕ × ℕ)
lesser_paint None other = other
lesser_paint (Some paint) None = Some paint
lesser_paint (Some paint) (Some other) = if nat_le paint.0 other.0 then Some paint else Some other

-- a byte has the least rule that claims it, with that rule's fill
abbrev pub painted : List Claim → ℕ → Option (ℕ × ℕ)
painted [] byte = None
painted (claim ∷ claims) byte = lesser_paint (paint_of claim byte) (painted claims byte)

-- the claim of one byte
abbrev pub one_byte : ℕ → ℕ × ℕ → Claim
one_byte byte paint = record { range = record { at = byte; len = 1 }; rule = paint.0; fill = paint.1 }

-- the next claim begins at this byte or behind it, and at it only for another rule
abbrev pub BeginsApart : ℕ → ℕ → List Claim → Type 0
BeginsApart byte rule [] = Unit {0}
BeginsApart byte rule (claim ∷ claims) = (byte ≤ claim.range.at) × (byte ≡ claim.range.at → rule ≢ claim.rule)

-- the canonical list of claims: sorted, none empty, none over another, and two that touch have different rules
abbrev pub IsFillMap : List Claim → Type 0
IsFillMap [] = Unit {0}
IsFillMap (claim ∷ claims) = (0 < claim.range.len) × BeginsApart (claim.range.at + claim.range.len) claim.rule claims × IsFillMap claims

-- claims of one rule have one fill
abbrev pub HaveOneFill : List Claim → Type 0
HaveOneFill claims = AllPairs (λ a b. a.rule ≡ b.rule → a.fill ≡ b.fill) claims

-- a byte with this paint is put in front of the claims of the bytes behind it: it joins the first of them
-- where that begins right behind it and has its rule
abbrev pub in_front : ℕ → Option (ℕ × ℕ) → List Claim → List Claim
in_front byte None claims = claims
in_front byte (Some paint) [] = one_byte byte paint ∷ []
in_front byte (Some paint) (claim ∷ claims) =
    if claim.range.at == suc byte && claim.rule == paint.0
    then record { range = record { at = byte; len = suc claim.range.len }; rule = paint.0; fill = paint.1 } ∷ claims
    else (one_byte byte paint ∷ claim ∷ claims)

-- the longest claims of equal rule over `count` bytes from `from` on, where each byte has the paint that the
-- function gives it
unfoldable pub longest_claims : (ℕ → Option (ℕ × ℕ)) → ℕ → ℕ → List Claim
longest_claims paint from zero = []
longest_claims paint from (suc count) = in_front from (paint from) (longest_claims paint (suc from) count)

-- two bytes side by side that have one rule have one fill
abbrev pub NeighboursAgree : (ℕ → Option (ℕ × ℕ)) → Type 0
NeighboursAgree paint = (byte : ℕ) (this next : ℕ × ℕ) → paint byte ≡ Some this → paint (suc byte) ≡ Some next → this.0 ≡ next.0 → this.1 ≡ next.1

-- the range of each claim
abbrev pub ranges_of : List Claim → List Range
ranges_of claims = map (λ claim. claim.range) claims
