-- Claims of one rule have one fill, and the claims taken so far.
use Rattle.std.proofs.Common.{◌≡◌, ℕ, suc, ◌+◌, ◌<◌, ◌==◌, if◌then◌else◌, List, [], ◌∷◌, length, take, get_or, refl, sym, ◌∙◌, ap, ⊎_elim, arith}
use Rattle.std.specs.List.{All}
use Rattle.std.proofs.lemmas.List.Elements.{All-nil, All-cons}
use Rattle.std.proofs.lemmas.Bool.{cases_eq, eq-eqb, ne_eqb}
use Rattle.range_defs.specs.declared.Claim.{Claim}
use Rattle.range_defs.specs.Places.{EndsInReach}
use Rattle.range_defs.specs.Claims.{paint_of, lesser_paint, painted, HaveOneFill}
use Rattle.rx_ranges.specs.Laying.{AreApart, HasFill}
use Rattle.rx_ranges.proofs.Paints.{painted-take}

-- the fill of a rule's first claim
unfoldable pub fill_of : List Claim → ℕ → ℕ
fill_of [] rule = 0
fill_of (claim ∷ claims) rule = if claim.rule == rule then claim.fill else fill_of claims rule

fill-first : (claim : Claim) (claims : List Claim) (rule : ℕ) → claim.rule ≡ rule → fill_of (claim ∷ claims) rule ≡ claim.fill
unfolding fill_of
fill-first claim claims rule same = rw (eq-eqb claim.rule rule same) refl

fill-later : (claim : Claim) (claims : List Claim) (rule : ℕ) → (claim.rule ≡ rule → ⊥) → fill_of (claim ∷ claims) rule ≡ fill_of claims rule
unfolding fill_of
fill-later claim claims rule other = rw (ne_eqb claim.rule rule other) refl

one_fill-tail : (claim : Claim) (claims : List Claim) → HaveOneFill (claim ∷ claims) → HaveOneFill claims
one_fill-tail claim claims one = λ i j d before within. one (suc i) (suc j) d (omega arith) (omega arith)

later-has : (claim : Claim) (claims : List Claim) (x : Claim) → (claim.rule ≡ x.rule → claim.fill ≡ x.fill) → HasFill (fill_of claims) x → HasFill (fill_of (claim ∷ claims)) x
later-has claim claims x one has =
    ⊎_elim
    (λ same. sym (one same) ∙ sym (fill-first claim claims x.rule same))
    (λ other. has ∙ sym (fill-later claim claims x.rule other))
    (cases_eq claim.rule x.rule)

-- each claim has the fill of its rule
pub all-have : (claims : List Claim) → HaveOneFill claims → All (HasFill (fill_of claims)) claims
all-have [] one = All-nil (HasFill (fill_of []))
all-have (claim ∷ claims) one =
    All-cons (HasFill (fill_of (claim ∷ claims))) claim claims (sym (fill-first claim claims claim.rule refl))
    (λ k d within. later-has claim claims (get_or claims k d) (λ same. one 0 (suc k) d (omega arith) (omega arith) same)
    (all-have claims (one_fill-tail claim claims one) k d within))

-- the claims that lie apart give each byte what the first so many claims give it
abbrev pub Laid : List Claim → List Claim → ℕ → Type 0
Laid claims laid i = AreApart 0 laid × All (λ (claim : Claim). EndsInReach claim.range) laid × All (HasFill (fill_of claims)) laid
    × ((byte : ℕ) → painted laid byte ≡ painted (take i claims) byte)

pub laid-more : (claims laid laid' : List Claim) (i : ℕ) (d : Claim) → Laid claims laid i → i < length claims → AreApart 0 laid'
    → All (λ (claim : Claim). EndsInReach claim.range) laid' → All (HasFill (fill_of claims)) laid'
    → ((byte : ℕ) → painted laid' byte ≡ lesser_paint (painted laid byte) (paint_of (get_or claims i d) byte)) → Laid claims laid' (i + 1)
laid-more claims laid laid' i d so_far within apart reach have added = (
  apart,
  reach,
  have,
  λ byte. added byte ∙ ap (λ paint. lesser_paint paint (paint_of (get_or claims i d) byte)) (so_far.3 byte) ∙ sym (painted-take claims i d byte within),
)
