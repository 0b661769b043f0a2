-- What claims give a byte, one after the other.
use Rattle.std.proofs.Common.{◌≡◌, ℕ, ◌+◌, ◌<◌, ◌≤◌, Option, Some, None, List, [], ◌∷◌, ◌++◌, length, take, get_or, refl, sym, ◌∙◌, ap, ⊎_elim, arith}
use Rattle.std.proofs.lemmas.List.{take_more}
use Rattle.std.proofs.lemmas.Bool.{cases_lt, lt-ltb, le-ltb}
use Rattle.std.proofs.lemmas.Bool.Decides.{nat_tests}
use Rattle.range_defs.specs.declared.Claim.{Claim}
use Rattle.range_defs.specs.Claims.{paint_of, lesser_paint, painted}
use Rattle.range_defs.proofs.ClaimLaws.{paint_before, lesser-none}
use Rattle.rx_ranges.specs.Laying.{AreApart, part_of, unless_empty}

lesser_assoc-some : (a b c : ℕ × ℕ) → lesser_paint (lesser_paint (Some a) (Some b)) (Some c) ≡ lesser_paint (Some a) (lesser_paint (Some b) (Some c))
lesser_assoc-some a b c = grind (arith, nat_tests)

pub lesser_assoc : (a b c : Option (ℕ × ℕ)) → lesser_paint (lesser_paint a b) c ≡ lesser_paint a (lesser_paint b c)
lesser_assoc None b c = refl
lesser_assoc (Some a) None c = refl
lesser_assoc (Some a) (Some b) None = lesser-none (lesser_paint (Some a) (Some b))
lesser_assoc (Some a) (Some b) (Some c) = lesser_assoc-some a b c

pub painted-append : (a b : List Claim) (byte : ℕ) → painted (a ++ b) byte ≡ lesser_paint (painted a byte) (painted b byte)
painted-append [] b byte = refl
painted-append (claim ∷ a) b byte =
    ap (λ paint. lesser_paint (paint_of claim byte) paint) (painted-append a b byte)
    ∙ sym (lesser_assoc (paint_of claim byte) (painted a byte) (painted b byte))

-- one claim more
pub painted-take : (claims : List Claim) (i : ℕ) (d : Claim) (byte : ℕ) → i < length claims
    → painted (take (i + 1) claims) byte ≡ lesser_paint (painted (take i claims) byte) (paint_of (get_or claims i d) byte)
painted-take claims i d byte within =
    ap (λ (xs : List Claim). painted xs byte) (take_more claims i d within)
    ∙ painted-append (take i claims) (get_or claims i d ∷ []) byte
    ∙ ap (λ paint. lesser_paint (painted (take i claims) byte) paint) (lesser-none (paint_of (get_or claims i d) byte))

paint_of-empty : (claim : Claim) (byte : ℕ) → claim.range.len ≡ 0 → paint_of claim byte ≡ None
paint_of-empty claim byte empty = grind (arith, nat_tests)

pub kept-unless : (claim : Claim) → 0 < claim.range.len → unless_empty claim ≡ claim ∷ []
unfolding unless_empty
kept-unless claim some = rw (lt-ltb 0 claim.range.len some) refl

pub none-unless : (claim : Claim) → claim.range.len ≡ 0 → unless_empty claim ≡ []
unfolding unless_empty
none-unless claim empty = let least : claim.range.len ≤ 0 = omega arith in rw (le-ltb 0 claim.range.len least) refl

pub painted-unless : (claim : Claim) (claims : List Claim) (byte : ℕ) → painted (unless_empty claim ++ claims) byte ≡ lesser_paint (paint_of claim byte) (painted claims byte)
painted-unless claim claims byte =
    ⊎_elim
    (λ some. ap (λ (xs : List Claim). painted (xs ++ claims) byte) (kept-unless claim some))
    (λ empty. let none : claim.range.len ≡ 0 = omega arith in
    ap (λ (xs : List Claim). painted (xs ++ claims) byte) (none-unless claim none)
    ∙ ap (λ paint. lesser_paint paint (painted claims byte)) (sym (paint_of-empty claim byte none)))
    (cases_lt 0 claim.range.len)

-- what a part of a claim gives a byte
pub part-in : (claim : Claim) (from to byte : ℕ) → from ≤ byte → byte < to → paint_of (part_of claim from to) byte ≡ paint_of claim byte
unfolding part_of
part-in claim from to byte begun inside = grind (arith, nat_tests)

pub part-before : (claim : Claim) (from to byte : ℕ) → byte < from → paint_of (part_of claim from to) byte ≡ None
unfolding part_of
part-before claim from to byte before = grind (arith, nat_tests)

pub part-behind : (claim : Claim) (from to byte : ℕ) → to ≤ byte → paint_of (part_of claim from to) byte ≡ None
unfolding part_of
part-behind claim from to byte behind = grind (arith, nat_tests)

-- a part has no byte that the claim does not have
pub part-out : (claim : Claim) (from to byte : ℕ) → paint_of claim byte ≡ None → paint_of (part_of claim from to) byte ≡ None
part-out claim from to byte out =
    ⊎_elim
    (λ before. part-before claim from to byte before)
    (λ begun. ⊎_elim
    (λ inside. part-in claim from to byte begun inside ∙ out)
    (λ behind. part-behind claim from to byte behind)
    (cases_lt byte to))
    (cases_lt byte from)

-- no byte in front of claims that lie apart is claimed
pub apart-before : (claims : List Claim) (from byte : ℕ) → AreApart from claims → byte < from → painted claims byte ≡ None
apart-before [] from byte apart before = refl
apart-before (claim ∷ claims) from byte apart before =
    let rest : painted claims byte ≡ None = apart-before claims (claim.range.at + claim.range.len) byte apart.2 (omega (arith, apart.0)) in
    rw (paint_before claim byte (omega (arith, apart.0))) rest
