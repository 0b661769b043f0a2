-- What a claim laid over others keeps: they lie apart, end within reach, and have the fills of their rules.
use Rattle.std.proofs.Common.{◌≡◌, ℕ, ◌+◌, ◌<◌, ◌≤◌, min, max, List, [], ◌∷◌, ◌++◌, sym, ◌∙◌, subst, ⊎_elim, append_assoc, arith}
use Rattle.std.specs.List.{All}
use Rattle.std.proofs.lemmas.List.{append-nil}
use Rattle.std.proofs.lemmas.List.Elements.{All-nil, All-cons, All-head, All-tail, All-append, All-same}
use Rattle.std.proofs.lemmas.Bool.{cases_lt, le-leb, lt-leb}
use Rattle.range_defs.specs.declared.Claim.{Claim}
use Rattle.range_defs.specs.declared.TheConstants.{REACH}
use Rattle.range_defs.specs.Places.{EndsInReach}
use Rattle.rx_ranges.specs.Laying.{AreApart, HasFill, part_of, shared_part, laid_on, unless_empty}
use Rattle.rx_ranges.proofs.Paints.{kept-unless, none-unless}
use Rattle.rx_ranges.proofs.Overlay.{laid_over, over-none, over-more}

apart_later : (from later : ℕ) (claims : List Claim) → from ≤ later → AreApart later claims → AreApart from claims
apart_later from later [] less apart = tt
apart_later from later (claim ∷ claims) less apart = (omega (arith, apart.0), apart.1, apart.2)

-- a claim between two bytes, in front of claims that lie apart from the second on
apart-unless : (from to : ℕ) (claim : Claim) (claims : List Claim) → from ≤ to
    → (0 < claim.range.len → (from ≤ claim.range.at) × (claim.range.at + claim.range.len ≤ to))
    → AreApart to claims → AreApart from (unless_empty claim ++ claims)
apart-unless from to claim claims order lies apart =
    ⊎_elim
    (λ some. subst (λ (xs : List Claim). AreApart from (xs ++ claims)) (sym (kept-unless claim some))
    ((lies some).0, some, apart_later (claim.range.at + claim.range.len) to claims (lies some).1 apart))
    (λ empty. let none : claim.range.len ≡ 0 = omega arith in
    subst (λ (xs : List Claim). AreApart from (xs ++ claims)) (sym (none-unless claim none)) (apart_later from to claims order apart))
    (cases_lt 0 claim.range.len)

-- where the part of a claim lies, if it is not empty
part-lies : (claim : Claim) (from to : ℕ) → 0 < (part_of claim from to).range.len
    → (max claim.range.at from ≤ (part_of claim from to).range.at) × ((part_of claim from to).range.at + (part_of claim from to).range.len ≤ min (claim.range.at + claim.range.len) to)
unfolding part_of
part-lies claim from to some = (omega arith, omega arith)

-- the shared part is a part of either
shared-has : (P : Claim → Type 0) (next claim : Claim) → P (part_of next claim.range.at (claim.range.at + claim.range.len))
    → P (part_of claim next.range.at (next.range.at + next.range.len)) → P (shared_part next claim)
unfolding shared_part
shared-has P next claim of_next of_claim =
    ⊎_elim
    (λ lesser. rw (lt-leb next.rule claim.rule lesser) of_claim)
    (λ least. rw (le-leb next.rule claim.rule least) of_next)
    (cases_lt claim.rule next.rule)

-- where a claim lies that is in both of two others, if it is not empty
abbrev LiesIn : Claim → Claim → Claim → Type 0
LiesIn next claim part = 0 < part.range.len
    → (max next.range.at claim.range.at ≤ part.range.at) × (part.range.at + part.range.len ≤ min (next.range.at + next.range.len) (claim.range.at + claim.range.len))

shared-lies : (next claim : Claim) → LiesIn next claim (shared_part next claim)
shared-lies next claim =
    shared-has (λ part. LiesIn next claim part) next claim
    (λ some. part-lies next claim.range.at (claim.range.at + claim.range.len) some)
    (λ some. let lies = part-lies claim next.range.at (next.range.at + next.range.len) some in (omega (arith, lies.0), omega (arith, lies.1)))

apart-on : (from : ℕ) (next claim : Claim) (claims : List Claim) → from ≤ next.range.at → from ≤ claim.range.at
    → AreApart (next.range.at + next.range.len) claims → AreApart from (laid_on next claim ++ claims)
unfolding laid_on
apart-on from next claim claims from_next from_claim apart =
    let first : Claim = part_of claim claim.range.at next.range.at in
    let second : Claim = part_of next next.range.at claim.range.at in
    let third : Claim = shared_part next claim in
    let last : Claim = part_of next (claim.range.at + claim.range.len) (next.range.at + next.range.len) in
    let cut : ℕ = max next.range.at (min (next.range.at + next.range.len) claim.range.at) in
    let end : ℕ = max cut (min (next.range.at + next.range.len) (claim.range.at + claim.range.len)) in
    let grouped : (((unless_empty first ++ unless_empty second) ++ unless_empty third) ++ unless_empty last) ++ claims
    ≡ unless_empty first ++ (unless_empty second ++ (unless_empty third ++ (unless_empty last ++ claims))) = simp append_assoc in
    subst (λ (xs : List Claim). AreApart from xs) (sym grouped)
    (apart-unless from next.range.at first (unless_empty second ++ (unless_empty third ++ (unless_empty last ++ claims))) from_next
    (λ some. let lies = part-lies claim claim.range.at next.range.at some in (omega (arith, lies.0), omega (arith, lies.1)))
    (apart-unless next.range.at cut second (unless_empty third ++ (unless_empty last ++ claims)) (omega arith)
    (λ some. let lies = part-lies next next.range.at claim.range.at some in (omega (arith, lies.0), omega (arith, lies.1)))
    (apart-unless cut end third (unless_empty last ++ claims) (omega arith)
    (λ some. let lies = shared-lies next claim some in (omega (arith, lies.0), omega (arith, lies.1)))
    (apart-unless end (next.range.at + next.range.len) last claims (omega arith)
    (λ some. let lies = part-lies next (claim.range.at + claim.range.len) (next.range.at + next.range.len) some in (omega (arith, lies.0), omega (arith, lies.1)))
    apart))))

rest-begins : (claim : Claim) (from to : ℕ) → from ≤ (part_of claim from to).range.at
unfolding part_of
rest-begins claim from to = omega arith

pub apart-over : (claim : Claim) (laid : List Claim) (from : ℕ) → from ≤ claim.range.at → AreApart from laid → AreApart from (laid_over claim laid)
apart-over claim [] from begins apart =
    subst (λ (xs : List Claim). AreApart from xs) (sym (over-none claim ∙ sym (append-nil (unless_empty claim))))
    (apart-unless from (from + (claim.range.at + claim.range.len)) claim [] (omega arith) (λ some. (begins, omega arith)) tt)
apart-over claim (next ∷ laid) from begins apart =
    let end : ℕ = next.range.at + next.range.len in
    let rest : Claim = part_of claim end (claim.range.at + claim.range.len) in
    subst (λ (xs : List Claim). AreApart from xs) (sym (over-more claim next laid))
    (apart-on from next claim (laid_over rest laid) apart.0 begins
    (apart-over rest laid end (rest-begins claim end (claim.range.at + claim.range.len)) apart.2))

-- a fact of a claim that each of its parts has
all-unless : (P : Claim → Type 0) (claim : Claim) → P claim → All P (unless_empty claim)
all-unless P claim holds =
    ⊎_elim
    (λ some. All-same P (unless_empty claim) (claim ∷ []) (kept-unless claim some) (All-cons P claim [] holds (All-nil P)))
    (λ empty. let none : claim.range.len ≡ 0 = omega arith in All-same P (unless_empty claim) [] (none-unless claim none) (All-nil P))
    (cases_lt 0 claim.range.len)

all-on : (P : Claim → Type 0) (next claim : Claim) → P (part_of claim claim.range.at next.range.at) → P (part_of next next.range.at claim.range.at)
    → P (shared_part next claim) → P (part_of next (claim.range.at + claim.range.len) (next.range.at + next.range.len)) → All P (laid_on next claim)
unfolding laid_on
all-on P next claim first second third last =
    let a : List Claim = unless_empty (part_of claim claim.range.at next.range.at) in
    let b : List Claim = unless_empty (part_of next next.range.at claim.range.at) in
    let c : List Claim = unless_empty (shared_part next claim) in
    let d : List Claim = unless_empty (part_of next (claim.range.at + claim.range.len) (next.range.at + next.range.len)) in
    All-append P ((a ++ b) ++ c) d
    (All-append P (a ++ b) c
    (All-append P a b (all-unless P (part_of claim claim.range.at next.range.at) first) (all-unless P (part_of next next.range.at claim.range.at) second))
    (all-unless P (shared_part next claim) third))
    (all-unless P (part_of next (claim.range.at + claim.range.len) (next.range.at + next.range.len)) last)

pub part-reach : (claim : Claim) (from to : ℕ) → from ≤ REACH → EndsInReach claim.range → EndsInReach (part_of claim from to).range
unfolding part_of
part-reach claim from to low reach = omega arith

part-fill : (fill : ℕ → ℕ) (claim : Claim) (from to : ℕ) → HasFill fill claim → HasFill fill (part_of claim from to)
unfolding part_of
part-fill fill claim from to has = has

abbrev Reaches : Claim → Type 0
Reaches claim = EndsInReach claim.range

pub reach-over : (claim : Claim) (laid : List Claim) → EndsInReach claim.range → All (λ (claim : Claim). EndsInReach claim.range) laid
    → All (λ (claim : Claim). EndsInReach claim.range) (laid_over claim laid)
reach-over claim [] reach reaches = All-same Reaches (laid_over claim []) (unless_empty claim) (over-none claim) (all-unless Reaches claim reach)
reach-over claim (next ∷ laid) reach reaches =
    let end : ℕ = next.range.at + next.range.len in
    let to : ℕ = claim.range.at + claim.range.len in
    let rest : Claim = part_of claim end to in
    let next_reach : EndsInReach next.range = All-head Reaches next laid reaches in
    All-same Reaches (laid_over claim (next ∷ laid)) (laid_on next claim ++ laid_over rest laid) (over-more claim next laid)
    (All-append Reaches (laid_on next claim) (laid_over rest laid)
    (all-on Reaches next claim (part-reach claim claim.range.at next.range.at (omega (arith, reach)) reach) (part-reach next next.range.at claim.range.at (omega arith) next_reach)
    (shared-has Reaches next claim (part-reach next claim.range.at to (omega (arith, reach)) next_reach) (part-reach claim next.range.at end (omega arith) reach))
    (part-reach next to end reach next_reach))
    (reach-over rest laid (part-reach claim end to next_reach reach) (All-tail Reaches next laid reaches)))

pub fill-over : (fill : ℕ → ℕ) (claim : Claim) (laid : List Claim) → HasFill fill claim → All (HasFill fill) laid → All (HasFill fill) (laid_over claim laid)
fill-over fill claim [] has have = All-same (HasFill fill) (laid_over claim []) (unless_empty claim) (over-none claim) (all-unless (HasFill fill) claim has)
fill-over fill claim (next ∷ laid) has have =
    let end : ℕ = next.range.at + next.range.len in
    let to : ℕ = claim.range.at + claim.range.len in
    let rest : Claim = part_of claim end to in
    let next_has : HasFill fill next = All-head (HasFill fill) next laid have in
    All-same (HasFill fill) (laid_over claim (next ∷ laid)) (laid_on next claim ++ laid_over rest laid) (over-more claim next laid)
    (All-append (HasFill fill) (laid_on next claim) (laid_over rest laid)
    (all-on (HasFill fill) next claim (part-fill fill claim claim.range.at next.range.at has) (part-fill fill next next.range.at claim.range.at next_has)
    (shared-has (HasFill fill) next claim (part-fill fill next claim.range.at to next_has) (part-fill fill claim next.range.at end has))
    (part-fill fill next to end next_has))
    (fill-over fill rest laid (part-fill fill claim end to has) (All-tail (HasFill fill) next laid have)))
