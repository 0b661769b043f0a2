-- Claims that lie apart, with those joined that touch and have one rule.
use Rattle.std.proofs.Common.{◌≡◌, ◌≢◌, ℕ, ◌+◌, ◌<◌, ◌≤◌, Bool, true, false, ◌&&◌, ◌||◌, ◌==◌, if◌then◌else◌, Option, List, [], ◌∷◌, refl, sym, ◌∙◌, ap, subst, ⊎_elim, arith}
use Rattle.std.specs.List.{All}
use Rattle.std.proofs.lemmas.List.Elements.{All-nil, All-cons, All-head, All-tail}
use Rattle.std.proofs.lemmas.Bool.{cases_Bool, cond_both, and_parts, and_from, eqb-true, eq-eqb, ne_eqb, and_right, false≢true}
use Rattle.std.proofs.lemmas.Bool.Decides.{nat_tests}
use Rattle.range_defs.specs.declared.Claim.{Claim}
use Rattle.range_defs.specs.Places.{in_range, EndsInReach}
use Rattle.range_defs.specs.Claims.{paint_of, lesser_paint, painted, BeginsApart, IsFillMap}
use Rattle.range_defs.proofs.ClaimLaws.{paint_either}
use Rattle.rx_ranges.specs.Laying.{AreApart, HasFill}

-- whether a claim is joined to the one behind which it begins
abbrev pub joins : Claim → Claim → Bool
joins last next = next.rule == last.rule && next.range.at == last.range.at + last.range.len

-- a claim with the bytes of the next one
abbrev pub grown : Claim → Claim → Claim
grown last next = record { range = record { at = last.range.at; len = last.range.len + next.range.len }; rule = last.rule; fill = last.fill }

-- a claim in front of claims that lie apart, with those joined that touch and have one rule
unfoldable pub joined_to : Claim → List Claim → List Claim
joined_to last [] = last ∷ []
joined_to last (next ∷ laid) = if joins last next then joined_to (grown last next) laid else last ∷ joined_to next laid

pub joined-none : (last : Claim) → joined_to last [] ≡ last ∷ []
unfolding joined_to
joined-none last = refl

pub joined-grows : (last next : Claim) (laid : List Claim) → joins last next ≡ true → joined_to last (next ∷ laid) ≡ joined_to (grown last next) laid
unfolding joined_to
joined-grows last next laid touches = rw touches refl

pub joined-apart : (last next : Claim) (laid : List Claim) → joins last next ≡ false → joined_to last (next ∷ laid) ≡ last ∷ joined_to next laid
unfolding joined_to
joined-apart last next laid apart = rw apart refl

-- the bytes of two claims that touch, with one rule and one fill
grown-paint : (last next : Claim) (byte : ℕ) (rest : Option (ℕ × ℕ)) → next.rule ≡ last.rule → next.fill ≡ last.fill
    → next.range.at ≡ last.range.at + last.range.len
    → lesser_paint (paint_of (grown last next) byte) rest ≡ lesser_paint (paint_of last byte) (lesser_paint (paint_of next byte) rest)
grown-paint last next byte rest rule fill touches =
    let both : in_range (grown last next).range byte ≡ (in_range last.range byte || in_range next.range byte) = grind (arith, nat_tests) in
    rw (both, rule, fill) (paint_either (in_range last.range byte) (in_range next.range byte) (last.rule, last.fill) rest)

-- the same bytes are claimed
pub painted-joined : (fill : ℕ → ℕ) (last : Claim) (laid : List Claim) (byte : ℕ) → HasFill fill last → All (HasFill fill) laid
    → painted (joined_to last laid) byte ≡ lesser_paint (paint_of last byte) (painted laid byte)
painted-joined fill last [] byte has have = ap (λ (xs : List Claim). painted xs byte) (joined-none last)
painted-joined fill last (next ∷ laid) byte has have =
    let next_has : HasFill fill next = All-head (HasFill fill) next laid have in
    let rest_have : All (HasFill fill) laid = All-tail (HasFill fill) next laid have in
    ⊎_elim
    (λ touches. let both = and_parts (next.rule == last.rule) (next.range.at == last.range.at + last.range.len) touches in
    let rule : next.rule ≡ last.rule = eqb-true next.rule last.rule both.0 in
    let same_fill : next.fill ≡ last.fill = next_has ∙ ap fill rule ∙ sym has in
    ap (λ (xs : List Claim). painted xs byte) (joined-grows last next laid touches)
    ∙ painted-joined fill (grown last next) laid byte has rest_have
    ∙ grown-paint last next byte (painted laid byte) rule same_fill (eqb-true next.range.at (last.range.at + last.range.len) both.1))
    (λ apart. ap (λ (xs : List Claim). painted xs byte) (joined-apart last next laid apart)
    ∙ ap (λ paint. lesser_paint (paint_of last byte) paint) (painted-joined fill next laid byte next_has rest_have))
    (cases_Bool (joins last next))

-- where the joined claims begin
begins-joined : (byte rule : ℕ) (last : Claim) (laid : List Claim) → byte ≤ last.range.at → (byte ≡ last.range.at → rule ≢ last.rule) → BeginsApart byte rule (joined_to last laid)
begins-joined byte rule last [] begins apart = rw (joined-none last) (begins, apart)
begins-joined byte rule last (next ∷ laid) begins apart =
    ⊎_elim
    (λ touches. rw (joined-grows last next laid touches) (begins-joined byte rule (grown last next) laid begins apart))
    (λ away. rw (joined-apart last next laid away) (begins, apart))
    (cases_Bool (joins last next))

-- two claims that are not joined do not touch, or have two rules
away_of : (last next : Claim) → joins last next ≡ false → last.range.at + last.range.len ≡ next.range.at → last.rule ≡ next.rule → ⊥
away_of last next away at rule =
    false≢true (sym away ∙ and_from (next.rule == last.rule) (next.range.at == last.range.at + last.range.len)
    (eq-eqb next.rule last.rule (sym rule)) (eq-eqb next.range.at (last.range.at + last.range.len) (sym at)))

-- they are in the kept form
pub kept-joined : (last : Claim) (laid : List Claim) → 0 < last.range.len → AreApart (last.range.at + last.range.len) laid → IsFillMap (joined_to last laid)
kept-joined last [] some apart = rw (joined-none last) (some, tt, tt)
kept-joined last (next ∷ laid) some apart =
    ⊎_elim
    (λ touches. let both = and_parts (next.rule == last.rule) (next.range.at == last.range.at + last.range.len) touches in
    let at : next.range.at ≡ last.range.at + last.range.len = eqb-true next.range.at (last.range.at + last.range.len) both.1 in
    let end : next.range.at + next.range.len ≡ last.range.at + (last.range.len + next.range.len) = omega arith in
    rw (joined-grows last next laid touches)
    (kept-joined (grown last next) laid (omega (arith, some)) (subst (λ (byte : ℕ). AreApart byte laid) end apart.2)))
    (λ away. rw (joined-apart last next laid away) (
      some,
      begins-joined (last.range.at + last.range.len) last.rule next laid apart.0 (λ at rule. away_of last next away at rule),
      kept-joined next laid apart.1 apart.2,
    ))
    (cases_Bool (joins last next))

-- and end in reach
pub reach-joined : (last : Claim) (laid : List Claim) → EndsInReach last.range → All (λ (claim : Claim). EndsInReach claim.range) laid
    → All (λ (claim : Claim). EndsInReach claim.range) (joined_to last laid)
unfolding joined_to
reach-joined last [] reach reaches = All-cons (λ (claim : Claim). EndsInReach claim.range) last [] reach (All-nil (λ (claim : Claim). EndsInReach claim.range))
reach-joined last (next ∷ laid) reach reaches =
    let Reaches : Claim → Type 0 = λ claim. EndsInReach claim.range in
    let next_reach : EndsInReach next.range = All-head Reaches next laid reaches in
    let rest : All Reaches laid = All-tail Reaches next laid reaches in
    cond_both (joins last next) (joined_to (grown last next) laid) (last ∷ joined_to next laid) (All Reaches)
    (λ touches. let at : next.range.at ≡ last.range.at + last.range.len = grind (arith, nat_tests) in
    reach-joined (grown last next) laid (omega (arith, at, next_reach)) rest)
    (λ apart. All-cons Reaches last (joined_to next laid) reach (reach-joined next laid next_reach rest))

pub joins-both : (last next : Claim) → next.rule ≡ last.rule → next.range.at ≡ last.range.at + last.range.len → joins last next ≡ true
joins-both last next rule at =
    and_from (next.rule == last.rule) (next.range.at == last.range.at + last.range.len)
    (eq-eqb next.rule last.rule rule) (eq-eqb next.range.at (last.range.at + last.range.len) at)

pub joins-rule : (last next : Claim) → next.rule ≢ last.rule → joins last next ≡ false
joins-rule last next rule = ap (λ (b : Bool). b && next.range.at == last.range.at + last.range.len) (ne_eqb next.rule last.rule rule)

pub joins-away : (last next : Claim) → next.range.at ≢ last.range.at + last.range.len → joins last next ≡ false
joins-away last next away =
    ap (λ (b : Bool). next.rule == last.rule && b) (ne_eqb next.range.at (last.range.at + last.range.len) away) ∙ and_right (next.rule == last.rule) false refl
