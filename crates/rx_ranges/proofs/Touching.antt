-- Whether a range has a claimed byte: the last claim that begins with the range's last byte, or in front of it, tells.
use Rattle.std.proofs.Common.{◌≡◌, ℕ, zero, suc, ◌+◌, ◌-◌, ◌<◌, ◌≤◌, max, Bool, true, false, ◌&&◌, nat_lt, is_some, List, [], ◌∷◌, length, get_or, refl, sym, subst, ◌∙◌, arith}
use Rattle.std.specs.List.{AllWithin}
use Rattle.std.proofs.lemmas.Bool.{and_right}
use Rattle.std.proofs.lemmas.List.{get_or_default}
use Rattle.std.proofs.lemmas.Bool.Decides.{nat_tests}
use Rattle.range_defs.specs.declared.Claim.{Claim}
use Rattle.range_defs.specs.declared.Range.{Range}
use Rattle.range_defs.specs.AnyByte.{TellsIfAny}
use Rattle.range_defs.specs.Claims.{painted, paint_of, IsFillMap}
use Rattle.range_defs.proofs.ClaimLaws.{paint_inside, paint_behind}
use Rattle.range_defs.specs.Places.{in_range}
use Rattle.rx_ranges.proofs.Holding.{held, held-none, non_decreasing}

-- no claim of a map is empty
not_empty : (claims : List Claim) (k : ℕ) (d : Claim) → IsFillMap claims → k < length claims → 0 < (get_or claims k d).range.len
not_empty [] k d kept within = absurd (omega arith)
not_empty (claim ∷ claims) zero d kept within = kept.0
not_empty (claim ∷ claims) (suc k) d kept within = not_empty claims k d kept.2 (omega arith)

-- a byte behind the begin of that claim, and not behind the range, has its paint
its_paint : (claims : List Claim) (begun last byte : ℕ) (claim : Claim) → IsFillMap claims → 0 < begun → begun ≤ length claims
    → AllWithin (λ c. last < c.range.at) claims begun (length claims) → claim ≡ get_or claims (begun - 1) claim
    → claim.range.at ≤ byte → byte ≤ last → painted claims byte ≡ paint_of claim byte
its_paint claims begun last byte claim kept some within behind is from to =
    let at_most : (get_or claims (begun - 1) claim).range.at ≤ byte = subst (λ (c : Claim). c.range.at ≤ byte) is from in
    let up_to : AllWithin (λ c. c.range.at ≤ byte) claims 0 begun =
    λ k d low inside. let rise : (get_or claims k claim).range.at ≤ (get_or claims (begun - 1) claim).range.at = non_decreasing claims kept k (begun - 1) claim (omega arith) (omega arith) in
    let same : get_or claims k claim ≡ get_or claims k d = get_or_default claims k claim d (omega arith) in
    subst (λ (c : Claim). c.range.at ≤ byte) same (omega arith) in
    (held claims begun byte claim kept some within up_to (λ k d low inside. let later = behind k d low inside in omega (arith, later)) is).1

-- where that claim ends behind the range's first byte, they share a byte
shares : (claims : List Claim) (range : Range) (begun : ℕ) (claim : Claim) → IsFillMap claims → 0 < range.len → 0 < begun → begun ≤ length claims
    → AllWithin (λ c. range.at + (range.len - 1) < c.range.at) claims begun (length claims) → claim ≡ get_or claims (begun - 1) claim
    → claim.range.at ≤ range.at + (range.len - 1) → 0 < claim.range.len → range.at - claim.range.at < claim.range.len
    → TellsIfAny (λ byte. is_some (painted claims byte) && in_range range byte) true
shares claims range begun claim kept long some within behind is begins full ends =
    let byte : ℕ = max range.at claim.range.at in
    let paint = its_paint claims begun (range.at + (range.len - 1)) byte claim kept some within behind is (omega arith) (omega arith)
    ∙ paint_inside claim byte (omega arith) (omega arith) in
    let inside : in_range range byte ≡ true = grind (arith, nat_tests) in
    (byte, rw (paint, inside) refl)

-- else none
shares_none : (claims : List Claim) (range : Range) (begun : ℕ) (claim : Claim) → IsFillMap claims → 0 < range.len → 0 < begun → begun ≤ length claims
    → AllWithin (λ c. range.at + (range.len - 1) < c.range.at) claims begun (length claims) → claim ≡ get_or claims (begun - 1) claim
    → 0 < claim.range.len → claim.range.len ≤ range.at - claim.range.at
    → TellsIfAny (λ byte. is_some (painted claims byte) && in_range range byte) false
shares_none claims range begun claim kept long some within behind is full ends byte =
    elim (in_range range byte) as (λ test. in_range range byte ≡ test → (is_some (painted claims byte) && test) ≡ false) [
      | true ↦ λ inside.
          let from : range.at ≤ byte = grind (arith, nat_tests) in
          let to : byte < range.at + range.len = grind (arith, nat_tests) in
          let paint = its_paint claims begun (range.at + (range.len - 1)) byte claim kept some within behind is (omega arith) (omega arith)
          ∙ paint_behind claim byte (omega arith) in
          rw paint refl
      | false ↦ λ outside. and_right (is_some (painted claims byte)) false refl
    ] refl

-- a range without a byte has none that is claimed
pub tells-empty : (claims : List Claim) (range : Range) → range.len ≡ 0 → TellsIfAny (λ byte. is_some (painted claims byte) && in_range range byte) false
tells-empty claims range empty byte =
    let outside : in_range range byte ≡ false = grind (arith, nat_tests) in
    and_right (is_some (painted claims byte)) (in_range range byte) outside

-- nor has one that ends in front of the first claim
pub tells-first : (claims : List Claim) (range : Range) (begun : ℕ) → IsFillMap claims → begun ≡ 0
    → AllWithin (λ c. range.at + (range.len - 1) < c.range.at) claims begun (length claims)
    → TellsIfAny (λ byte. is_some (painted claims byte) && in_range range byte) false
tells-first claims range begun kept none behind byte =
    elim (in_range range byte) as (λ test. in_range range byte ≡ test → (is_some (painted claims byte) && test) ≡ false) [
      | true ↦ λ inside.
          let from : range.at ≤ byte = grind (arith, nat_tests) in
          let to : byte < range.at + range.len = grind (arith, nat_tests) in
          rw (held-none claims begun byte none kept (λ k d low within. let later = behind k d low within in omega (arith, later))) refl
      | false ↦ λ outside. and_right (is_some (painted claims byte)) false refl
    ] refl

-- else it has one exactly where the last claim that begins by its last byte ends behind its first
pub tells-last : (claims : List Claim) (range : Range) (begun : ℕ) (claim : Claim) (answer : Bool) → IsFillMap claims → 0 < range.len → 0 < begun → begun ≤ length claims
    → AllWithin (λ c. c.range.at ≤ range.at + (range.len - 1)) claims 0 begun
    → AllWithin (λ c. range.at + (range.len - 1) < c.range.at) claims begun (length claims) → claim ≡ get_or claims (begun - 1) claim
    → answer ≡ nat_lt (range.at - claim.range.at) claim.range.len
    → TellsIfAny (λ byte. is_some (painted claims byte) && in_range range byte) answer
tells-last claims range begun claim answer kept long some within up_to behind is answer_is =
    let full : 0 < claim.range.len = subst (λ (c : Claim). 0 < c.range.len) (sym is) (not_empty claims (begun - 1) claim kept (omega arith)) in
    let begins : claim.range.at ≤ range.at + (range.len - 1) =
    subst (λ (c : Claim). c.range.at ≤ range.at + (range.len - 1)) (sym is) (up_to (begun - 1) claim (omega arith) (omega arith)) in
    elim answer as (λ a. a ≡ nat_lt (range.at - claim.range.at) claim.range.len → TellsIfAny (λ byte. is_some (painted claims byte) && in_range range byte) a) [
      | true ↦ λ test. shares claims range begun claim kept long some within behind is begins full (grind (arith, nat_tests))
      | false ↦ λ test. shares_none claims range begun claim kept long some within behind is full (grind (arith, nat_tests))
    ] answer_is
