-- The claim that holds a byte.
use Rattle.std.proofs.Common.{◌≡◌, ℕ, zero, suc, ◌-◌, ◌<◌, ◌≤◌, None, List, [], ◌∷◌, length, get_or, refl, sym, ◌∙◌, ap, arith, add-one}
use Rattle.std.specs.List.{AllWithin}
use Rattle.std.specs.List.Sorted.{IsNonDecreasingBy}
use Rattle.std.proofs.lemmas.List.Sorted.{IsNonDecreasingBy-from_all_adjacent}
use Rattle.range_defs.specs.declared.Claim.{Claim}
use Rattle.range_defs.specs.Claims.{paint_of, lesser_paint, painted, IsFillMap}
use Rattle.range_defs.proofs.ClaimLaws.{painted-before, painted-after, lesser-none}

-- the claims of a map rise
rises : (claims : List Claim) (k : ℕ) (d : Claim) → IsFillMap claims → suc k < length claims → (get_or claims k d).range.at ≤ (get_or claims (suc k) d).range.at
rises [] k d kept within = absurd (omega arith)
rises (claim ∷ []) k d kept within = absurd (omega arith)
rises (claim ∷ next ∷ claims) zero d kept within = omega (arith, kept.1.0)
rises (claim ∷ next ∷ claims) (suc k) d kept within = rises (next ∷ claims) k d kept.2 (omega arith)

pub non_decreasing : (claims : List Claim) → IsFillMap claims → IsNonDecreasingBy (λ claim. claim.range.at) claims
non_decreasing claims kept =
    IsNonDecreasingBy-from_all_adjacent (λ claim. claim.range.at) claims (λ k d within. rw add-one (rises claims k d kept (omega arith)))

-- where all begin behind a byte, none has it
pub held-none : (claims : List Claim) (begun byte : ℕ) → begun ≡ 0 → IsFillMap claims → AllWithin (λ claim. byte < claim.range.at) claims begun (length claims) → painted claims byte ≡ None
held-none [] begun byte none kept behind = refl
held-none (claim ∷ claims) begun byte none kept behind = painted-before (claim ∷ claims) byte kept (behind 0 claim (omega arith) (omega arith))

-- else the last one that does not begin behind it may have it, and no other does
held-last : (claims : List Claim) (last byte : ℕ) (d : Claim) → IsFillMap claims → last < length claims
    → AllWithin (λ claim. claim.range.at ≤ byte) claims 0 (suc last) → AllWithin (λ claim. byte < claim.range.at) claims (suc last) (length claims)
    → painted claims byte ≡ paint_of (get_or claims last d) byte
held-last [] last byte d kept within begun behind = absurd (omega arith)
held-last (claim ∷ claims) zero byte d kept within begun behind =
    ap (lesser_paint (paint_of claim byte)) (held-none claims 0 byte refl kept.2 (λ i e low inside. behind (suc i) e (omega arith) (omega arith)))
    ∙ lesser-none (paint_of claim byte)
held-last (claim ∷ []) (suc last) byte d kept within begun behind = absurd (omega arith)
held-last (claim ∷ next ∷ claims) (suc last) byte d kept within begun behind =
    let first : next.range.at ≤ byte = begun 1 next (omega arith) (omega arith) in
    painted-after claim (next ∷ claims) byte (omega (arith, kept.1.0, first))
    ∙ held-last (next ∷ claims) last byte d kept.2 (omega arith) (λ i e low inside. begun (suc i) e (omega arith) (omega arith)) (λ i e low inside. behind (suc i) e (omega arith) (omega arith))

pub held : (claims : List Claim) (begun byte : ℕ) (claim : Claim) → IsFillMap claims → 0 < begun → begun ≤ length claims
    → AllWithin (λ claim. claim.range.at ≤ byte) claims 0 begun → AllWithin (λ claim. byte < claim.range.at) claims begun (length claims)
    → claim ≡ get_or claims (begun - 1) claim → (claim.range.at ≤ byte) × (painted claims byte ≡ paint_of claim byte)
held claims begun byte claim kept some within up_to behind is = (
  rw is (up_to (begun - 1) claim (omega arith) (omega arith)),
  held-last claims (begun - 1) byte claim kept (omega arith) (λ i e low inside. up_to i e low (omega arith)) (λ i e low inside. behind i e (omega arith) inside)
      ∙ ap (λ (c : Claim). paint_of c byte) (sym is),
)
