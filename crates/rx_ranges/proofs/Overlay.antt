-- A claim laid over claims that lie apart.
use Rattle.std.proofs.Common.{◌≡◌, ℕ, ◌+◌, ◌<◌, ◌≤◌, Option, Some, None, List, [], ◌∷◌, ◌++◌, refl, sym, ◌∙◌, ap, ⊎_elim, inl, inr, ◌⊎◌, append_assoc, arith}
use Rattle.std.proofs.lemmas.List.{append-nil}
use Rattle.std.proofs.lemmas.Bool.{cases_lt, le-leb, lt-leb}
use Rattle.range_defs.specs.declared.Claim.{Claim}
use Rattle.range_defs.proofs.ClaimLaws.{paint_before, paint_behind, paint_inside, lesser-none}
use Rattle.range_defs.specs.Claims.{paint_of, lesser_paint, painted}
use Rattle.rx_ranges.specs.Laying.{AreApart, part_of, shared_part, laid_on, unless_empty}
use Rattle.rx_ranges.proofs.Paints.{painted-unless, part-in, part-before, part-behind, part-out, apart-before}

-- the claim has those of its bytes for which no lesser or equal rule is there
unfoldable pub laid_over : Claim → List Claim → List Claim
laid_over claim [] = unless_empty claim
laid_over claim (next ∷ laid) =
    laid_on next claim ++ laid_over (part_of claim (next.range.at + next.range.len) (claim.range.at + claim.range.len)) laid

-- the four parts of the claim and the next one, and what is behind them
painted-on : (next claim : Claim) (claims : List Claim) (byte : ℕ) (a b c d e : Option (ℕ × ℕ))
    → paint_of (part_of claim claim.range.at next.range.at) byte ≡ a → paint_of (part_of next next.range.at claim.range.at) byte ≡ b
    → paint_of (shared_part next claim) byte ≡ c → paint_of (part_of next (claim.range.at + claim.range.len) (next.range.at + next.range.len)) byte ≡ d
    → painted claims byte ≡ e → painted (laid_on next claim ++ claims) byte ≡ lesser_paint a (lesser_paint b (lesser_paint c (lesser_paint d e)))
unfolding laid_on
painted-on next claim claims byte a b c d e is_a is_b is_c is_d is_e =
    let first : List Claim = unless_empty (part_of claim claim.range.at next.range.at) in
    let second : List Claim = unless_empty (part_of next next.range.at claim.range.at) in
    let third : List Claim = unless_empty (shared_part next claim) in
    let last : List Claim = unless_empty (part_of next (claim.range.at + claim.range.len) (next.range.at + next.range.len)) in
    let grouped : (((first ++ second) ++ third) ++ last) ++ claims ≡ first ++ (second ++ (third ++ (last ++ claims))) = simp append_assoc in
    ap (λ (xs : List Claim). painted xs byte) grouped
    ∙ painted-unless (part_of claim claim.range.at next.range.at) (second ++ (third ++ (last ++ claims))) byte
    ∙ ap (λ paint. lesser_paint paint (painted (second ++ (third ++ (last ++ claims))) byte)) is_a
    ∙ ap (λ paint. lesser_paint a paint)
    (painted-unless (part_of next next.range.at claim.range.at) (third ++ (last ++ claims)) byte
    ∙ ap (λ paint. lesser_paint paint (painted (third ++ (last ++ claims)) byte)) is_b
    ∙ ap (λ paint. lesser_paint b paint)
    (painted-unless (shared_part next claim) (last ++ claims) byte
    ∙ ap (λ paint. lesser_paint paint (painted (last ++ claims) byte)) is_c
    ∙ ap (λ paint. lesser_paint c paint)
    (painted-unless (part_of next (claim.range.at + claim.range.len) (next.range.at + next.range.len)) claims byte
    ∙ ap (λ paint. lesser_paint paint (painted claims byte)) is_d
    ∙ ap (λ paint. lesser_paint d paint) is_e)))

-- the shared part, by what both claims give the byte
shared-of : (next claim : Claim) (byte : ℕ) (p : Option (ℕ × ℕ))
    → (next.rule ≤ claim.rule → paint_of (part_of next claim.range.at (claim.range.at + claim.range.len)) byte ≡ p)
    → (claim.rule < next.rule → paint_of (part_of claim next.range.at (next.range.at + next.range.len)) byte ≡ p)
    → paint_of (shared_part next claim) byte ≡ p
unfolding shared_part
shared-of next claim byte p by_next by_claim =
    ⊎_elim
    (λ lesser. rw (lt-leb next.rule claim.rule lesser) (by_claim lesser))
    (λ least. rw (le-leb next.rule claim.rule least) (by_next least))
    (cases_lt claim.rule next.rule)

-- in front of the next claim
on-before : (next claim : Claim) (claims : List Claim) (byte : ℕ) → byte < next.range.at → painted claims byte ≡ None
    → painted (laid_on next claim ++ claims) byte ≡ paint_of claim byte
on-before next claim claims byte before behind =
    let first : paint_of (part_of claim claim.range.at next.range.at) byte ≡ paint_of claim byte =
    ⊎_elim
    (λ not_yet. part-before claim claim.range.at next.range.at byte not_yet ∙ sym (paint_before claim byte not_yet))
    (λ begun. part-in claim claim.range.at next.range.at byte begun before)
    (cases_lt byte claim.range.at) in
    let shared : paint_of (shared_part next claim) byte ≡ None =
    shared-of next claim byte None
    (λ _. part-out next claim.range.at (claim.range.at + claim.range.len) byte (paint_before next byte before))
    (λ _. part-before claim next.range.at (next.range.at + next.range.len) byte before) in
    painted-on next claim claims byte (paint_of claim byte) None None None None first
    (part-before next next.range.at claim.range.at byte before) shared
    (part-out next (claim.range.at + claim.range.len) (next.range.at + next.range.len) byte (paint_before next byte before)) behind
    ∙ lesser-none (paint_of claim byte)

-- behind the next claim
on-behind : (next claim : Claim) (claims : List Claim) (byte : ℕ) → next.range.at + next.range.len ≤ byte
    → painted (laid_on next claim ++ claims) byte ≡ painted claims byte
on-behind next claim claims byte behind =
    let none : paint_of next byte ≡ None = paint_behind next byte behind in
    let shared : paint_of (shared_part next claim) byte ≡ None =
    shared-of next claim byte None
    (λ _. part-out next claim.range.at (claim.range.at + claim.range.len) byte none)
    (λ _. part-behind claim next.range.at (next.range.at + next.range.len) byte behind) in
    painted-on next claim claims byte None None None None (painted claims byte)
    (part-behind claim claim.range.at next.range.at byte (omega arith))
    (part-out next next.range.at claim.range.at byte none) shared
    (part-out next (claim.range.at + claim.range.len) (next.range.at + next.range.len) byte none) refl

-- in the next claim, where the claim does not have the byte
on-next : (next claim : Claim) (claims : List Claim) (byte : ℕ) → next.range.at ≤ byte → byte < next.range.at + next.range.len
    → ((byte < claim.range.at) ⊎ (claim.range.at + claim.range.len ≤ byte)) → painted claims byte ≡ None
    → painted (laid_on next claim ++ claims) byte ≡ Some (next.rule, next.fill)
on-next next claim claims byte begun inside out behind =
    let has : paint_of next byte ≡ Some (next.rule, next.fill) = paint_inside next byte begun inside in
    let first : paint_of (part_of claim claim.range.at next.range.at) byte ≡ None = part-behind claim claim.range.at next.range.at byte begun in
    ⊎_elim
    (λ before. painted-on next claim claims byte None (Some (next.rule, next.fill)) None None None first
    (part-in next next.range.at claim.range.at byte begun before ∙ has)
    (shared-of next claim byte None
    (λ _. part-before next claim.range.at (claim.range.at + claim.range.len) byte before)
    (λ _. part-out claim next.range.at (next.range.at + next.range.len) byte (paint_before claim byte before)))
    (part-before next (claim.range.at + claim.range.len) (next.range.at + next.range.len) byte (omega arith)) behind)
    (λ past. ⊎_elim
    (λ before. absurd (omega arith))
    (λ from. painted-on next claim claims byte None None None (Some (next.rule, next.fill)) None first
    (part-behind next next.range.at claim.range.at byte from)
    (shared-of next claim byte None
    (λ _. part-behind next claim.range.at (claim.range.at + claim.range.len) byte past)
    (λ _. part-out claim next.range.at (next.range.at + next.range.len) byte (paint_behind claim byte past)))
    (part-in next (claim.range.at + claim.range.len) (next.range.at + next.range.len) byte past inside ∙ has) behind)
    (cases_lt byte claim.range.at))
    out

-- in both claims
on-both : (next claim : Claim) (claims : List Claim) (byte : ℕ) → next.range.at ≤ byte → byte < next.range.at + next.range.len
    → claim.range.at ≤ byte → byte < claim.range.at + claim.range.len → painted claims byte ≡ None
    → painted (laid_on next claim ++ claims) byte ≡ lesser_paint (Some (next.rule, next.fill)) (Some (claim.rule, claim.fill))
on-both next claim claims byte begun inside from to behind =
    let both : Option (ℕ × ℕ) = lesser_paint (Some (next.rule, next.fill)) (Some (claim.rule, claim.fill)) in
    let shared : paint_of (shared_part next claim) byte ≡ both =
    shared-of next claim byte both
    (λ least. part-in next claim.range.at (claim.range.at + claim.range.len) byte from to ∙ paint_inside next byte begun inside ∙ sym (rw (le-leb next.rule claim.rule least) refl))
    (λ lesser. part-in claim next.range.at (next.range.at + next.range.len) byte begun inside ∙ paint_inside claim byte from to ∙ sym (rw (lt-leb next.rule claim.rule lesser) refl)) in
    painted-on next claim claims byte None None both None None
    (part-behind claim claim.range.at next.range.at byte begun) (part-behind next next.range.at claim.range.at byte from) shared
    (part-before next (claim.range.at + claim.range.len) (next.range.at + next.range.len) byte to) behind
    ∙ lesser-none both

pub over-none : (claim : Claim) → laid_over claim [] ≡ unless_empty claim
unfolding laid_over
over-none claim = refl

pub over-more : (claim next : Claim) (laid : List Claim) → laid_over claim (next ∷ laid)
    ≡ laid_on next claim ++ laid_over (part_of claim (next.range.at + next.range.len) (claim.range.at + claim.range.len)) laid
unfolding laid_over
over-more claim next laid = refl

-- behind a byte, the rest of the claim from that byte on gives what the claim gives
rest-behind : (claim : Claim) (from byte : ℕ) → from ≤ byte → paint_of (part_of claim from (claim.range.at + claim.range.len)) byte ≡ paint_of claim byte
rest-behind claim from byte behind =
    ⊎_elim
    (λ inside. part-in claim from (claim.range.at + claim.range.len) byte behind inside)
    (λ past. part-behind claim from (claim.range.at + claim.range.len) byte past ∙ sym (paint_behind claim byte past))
    (cases_lt byte (claim.range.at + claim.range.len))

over-inside : (claim next : Claim) (laid claims : List Claim) (byte : ℕ) → next.range.at ≤ byte → byte < next.range.at + next.range.len
    → painted laid byte ≡ None → painted claims byte ≡ None
    → painted (laid_on next claim ++ claims) byte ≡ lesser_paint (painted (next ∷ laid) byte) (paint_of claim byte)
over-inside claim next laid claims byte begun inside front none =
    let had : painted (next ∷ laid) byte ≡ Some (next.rule, next.fill) =
    ap (λ paint. lesser_paint paint (painted laid byte)) (paint_inside next byte begun inside) ∙ ap (λ paint. lesser_paint (Some (next.rule, next.fill)) paint) front in
    ⊎_elim
    (λ before. on-next next claim claims byte begun inside (inl before) none
    ∙ sym (ap (λ paint. lesser_paint paint (paint_of claim byte)) had ∙ ap (λ paint. lesser_paint (Some (next.rule, next.fill)) paint) (paint_before claim byte before)))
    (λ from. ⊎_elim
    (λ to. on-both next claim claims byte begun inside from to none
    ∙ sym (ap (λ paint. lesser_paint paint (paint_of claim byte)) had ∙ ap (λ paint. lesser_paint (Some (next.rule, next.fill)) paint) (paint_inside claim byte from to)))
    (λ past. on-next next claim claims byte begun inside (inr past) none
    ∙ sym (ap (λ paint. lesser_paint paint (paint_of claim byte)) had ∙ ap (λ paint. lesser_paint (Some (next.rule, next.fill)) paint) (paint_behind claim byte past)))
    (cases_lt byte (claim.range.at + claim.range.len)))
    (cases_lt byte claim.range.at)

-- each byte has the lesser of what it had and what the claim gives it
pub painted-over : (claim : Claim) (laid : List Claim) (from byte : ℕ) → AreApart from laid
    → painted (laid_over claim laid) byte ≡ lesser_paint (painted laid byte) (paint_of claim byte)
painted-over claim [] from byte apart =
    ap (λ (xs : List Claim). painted xs byte) (over-none claim ∙ sym (append-nil (unless_empty claim)))
    ∙ painted-unless claim [] byte ∙ lesser-none (paint_of claim byte)
painted-over claim (next ∷ laid) from byte apart =
    let end : ℕ = next.range.at + next.range.len in
    let rest : Claim = part_of claim end (claim.range.at + claim.range.len) in
    let later : painted (laid_over rest laid) byte ≡ lesser_paint (painted laid byte) (paint_of rest byte) = painted-over rest laid end byte apart.2 in
    let front : byte < end → painted laid byte ≡ None = λ before. apart-before laid end byte apart.2 before in
    let none : byte < end → painted (laid_over rest laid) byte ≡ None =
    λ before. later ∙ ap (λ paint. lesser_paint paint (paint_of rest byte)) (front before) ∙ part-before claim end (claim.range.at + claim.range.len) byte before in
    ap (λ (xs : List Claim). painted xs byte) (over-more claim next laid)
    ∙ ⊎_elim
    (λ before. let low : byte < end = omega arith in
    on-before next claim (laid_over rest laid) byte before (none low)
    ∙ sym (ap (λ paint. lesser_paint (lesser_paint paint (painted laid byte)) (paint_of claim byte)) (paint_before next byte before)
    ∙ ap (λ paint. lesser_paint paint (paint_of claim byte)) (front low)))
    (λ begun. ⊎_elim
    (λ inside. over-inside claim next laid (laid_over rest laid) byte begun inside (front inside) (none inside))
    (λ behind. on-behind next claim (laid_over rest laid) byte behind ∙ later
    ∙ ap (λ paint. lesser_paint (painted laid byte) paint) (rest-behind claim end byte behind)
    ∙ sym (ap (λ paint. lesser_paint (lesser_paint paint (painted laid byte)) (paint_of claim byte)) (paint_behind next byte behind)))
    (cases_lt byte end))
    (cases_lt byte next.range.at)
