-- Laws on claims: the longest claims are a canonical list with the paints of their function, and there is one canonical
-- list for each painting.
use Rattle.std.proofs.Common.{◌≡◌, ◌≢◌, ℕ, zero, suc, ◌+◌, ◌-◌, ◌<◌, ◌≤◌, Bool, true, false, ◌&&◌, ◌||◌, ◌==◌, cond, Option, Some, None, is_some, nat_le, List, [], ◌∷◌, refl, sym, ◌∙◌, ap, subst, ⊎_elim, arith}
use Rattle.std.specs.List.{All}
use Rattle.std.proofs.lemmas.List.Elements.{All-head, All-tail, All-cons, All-nil}
use Rattle.std.proofs.lemmas.Bool.{cases_lt, cond_both, cond-true, eqb-true, eqb-false}
use Rattle.std.proofs.lemmas.Bool.Decides.{nat_tests}
use Rattle.range_defs.specs.declared.Claim.{Claim}
use Rattle.range_defs.specs.Places.{in_range, covers}
use Rattle.range_defs.specs.Claims.{paint_of, lesser_paint, painted, one_byte, BeginsApart, IsFillMap, NeighboursAgree, ranges_of, in_front, longest_claims}

pub paint_before : (claim : Claim) (byte : ℕ) → byte < claim.range.at → paint_of claim byte ≡ None
paint_before claim byte before = grind (arith, nat_tests)

pub paint_inside : (claim : Claim) (byte : ℕ) → claim.range.at ≤ byte → byte < claim.range.at + claim.range.len → paint_of claim byte ≡ Some (claim.rule, claim.fill)
paint_inside claim byte begun inside = grind (arith, nat_tests)

pub paint_behind : (claim : Claim) (byte : ℕ) → claim.range.at + claim.range.len ≤ byte → paint_of claim byte ≡ None
paint_behind claim byte behind = grind (arith, nat_tests)

-- a claim ends at most at this byte
abbrev pub EndsBy : ℕ → Claim → Type 0
EndsBy end claim = claim.range.at + claim.range.len ≤ end

-- the first claim begins at this byte or behind it
abbrev pub BeginsFrom : ℕ → List Claim → Type 0
BeginsFrom byte [] = Unit {0}
BeginsFrom byte (claim ∷ claims) = byte ≤ claim.range.at

begins_from : (byte end rule : ℕ) (claims : List Claim) → byte ≤ end → BeginsApart end rule claims → BeginsFrom byte claims
begins_from byte end rule [] less apart = tt
begins_from byte end rule (claim ∷ claims) less apart = omega (arith, apart.0)

-- no claim of a canonical list has a byte in front of it
pub painted-before : (claims : List Claim) (byte : ℕ) → IsFillMap claims → BeginsFrom (suc byte) claims → painted claims byte ≡ None
painted-before [] byte kept before = refl
painted-before (claim ∷ claims) byte kept before =
    let rest : painted claims byte ≡ None =
    painted-before claims byte kept.2 (begins_from (suc byte) (claim.range.at + claim.range.len) claim.rule claims (omega (arith, before)) kept.1) in
    rw (paint_before claim byte before) rest

pub painted-after : (claim : Claim) (claims : List Claim) (byte : ℕ) → claim.range.at + claim.range.len ≤ byte → painted (claim ∷ claims) byte ≡ painted claims byte
painted-after claim claims byte behind = rw (paint_behind claim byte behind) refl

-- nor has a claim behind the first one a byte in front of that one's end
tail-before : (claim : Claim) (claims : List Claim) (byte : ℕ) → IsFillMap (claim ∷ claims) → byte < claim.range.at + claim.range.len → painted claims byte ≡ None
tail-before claim claims byte kept before =
    painted-before claims byte kept.2 (begins_from (suc byte) (claim.range.at + claim.range.len) claim.rule claims (omega arith) kept.1)

pub painted-inside : (claim : Claim) (claims : List Claim) (byte : ℕ) → IsFillMap (claim ∷ claims) → claim.range.at ≤ byte → byte < claim.range.at + claim.range.len
    → painted (claim ∷ claims) byte ≡ Some (claim.rule, claim.fill)
painted-inside claim claims byte kept begun inside =
    rw (paint_inside claim byte begun inside) (rw (tail-before claim claims byte kept inside) refl)

painted-first : (claim : Claim) (claims : List Claim) → IsFillMap (claim ∷ claims) → painted (claim ∷ claims) claim.range.at ≡ Some (claim.rule, claim.fill)
painted-first claim claims kept = painted-inside claim claims claim.range.at kept (omega arith) (omega (arith, kept.0))

-- no claim has a byte behind which none ends
pub painted-past : (claims : List Claim) (end byte : ℕ) → All (EndsBy end) claims → end ≤ byte → painted claims byte ≡ None
painted-past [] end byte within past = refl
painted-past (claim ∷ claims) end byte within past =
    let ends : claim.range.at + claim.range.len ≤ end = All-head (EndsBy end) claim claims within in
    painted-after claim claims byte (omega arith) ∙ painted-past claims end byte (All-tail (EndsBy end) claim claims within) past

some_none : (paint : ℕ × ℕ) → Some paint ≡ None → ⊥
some_none paint same = cc

-- a canonical list has no claim behind the byte from which on it paints no byte
pub ends_where_painted : (claims : List Claim) (end : ℕ) → IsFillMap claims → ((byte : ℕ) → end ≤ byte → painted claims byte ≡ None)
    → All (λ (claim : Claim). claim.range.at + claim.range.len ≤ end) claims
ends_where_painted [] end kept out = All-nil (EndsBy end)
ends_where_painted (claim ∷ claims) end kept out =
    let last : ℕ = claim.range.at + (claim.range.len - 1) in
    let fits : claim.range.at + claim.range.len ≤ end =
    ⊎_elim
    (λ before. omega (arith, kept.0))
    (λ past. absurd (some_none (claim.rule, claim.fill) (sym (painted-inside claim claims last kept (omega arith) (omega (arith, kept.0))) ∙ out last past)))
    (cases_lt last end) in
    All-cons (EndsBy end) claim claims fits
    (ends_where_painted claims end kept.2 (λ byte behind. sym (painted-after claim claims byte (omega arith)) ∙ out byte behind))

-- the claim with its first byte left out
abbrev shorter : Claim → Claim
shorter claim = record { range = record { at = suc claim.range.at; len = claim.range.len - 1 }; rule = claim.rule; fill = claim.fill }

-- the claims without one byte, in front of which none begins
abbrev cut : ℕ → List Claim → List Claim
cut from [] = []
cut from (claim ∷ claims) = cond (claim.range.at == from) (cond (claim.range.len == 1) claims (shorter claim ∷ claims)) (claim ∷ claims)

-- what holds of claims that lie behind a byte, of a longer one with its first byte left out, and of the others behind one
-- of one byte, holds of the claims without the byte
cut-both : (P : List Claim → Type 0) (from : ℕ) (claim : Claim) (claims : List Claim) → IsFillMap (claim ∷ claims)
    → (claim.range.at ≡ from → claim.range.len ≡ 1 → P claims) → (claim.range.at ≡ from → 1 < claim.range.len → P (shorter claim ∷ claims))
    → (claim.range.at ≢ from → P (claim ∷ claims)) → P (cut from (claim ∷ claims))
cut-both P from claim claims kept one long other =
    cond_both (claim.range.at == from) (cond (claim.range.len == 1) claims (shorter claim ∷ claims)) (claim ∷ claims) P
    (λ at. cond_both (claim.range.len == 1) claims (shorter claim ∷ claims) P
    (λ len. one (eqb-true claim.range.at from at) (eqb-true claim.range.len 1 len))
    (λ len. let more : claim.range.len ≢ 1 = eqb-false claim.range.len 1 len in long (eqb-true claim.range.at from at) (omega (arith, kept.0))))
    (λ away. other (eqb-false claim.range.at from away))

cut-kept : (from : ℕ) (claims : List Claim) → IsFillMap claims → BeginsFrom from claims → IsFillMap (cut from claims) × BeginsFrom (suc from) (cut from claims)
cut-kept from [] kept begins = (tt, tt)
cut-kept from (claim ∷ claims) kept begins =
    cut-both (λ list. IsFillMap list × BeginsFrom (suc from) list) from claim claims kept
    (λ at one. (kept.2, begins_from (suc from) (claim.range.at + claim.range.len) claim.rule claims (omega arith) kept.1))
    (λ at long. let same : claim.range.at + claim.range.len ≡ suc claim.range.at + (claim.range.len - 1) = omega arith in
    ((omega arith, subst (λ (end : ℕ). BeginsApart end claim.rule claims) same kept.1, kept.2), omega arith))
    (λ away. (kept, omega arith))

cut-painted : (from byte : ℕ) (claims : List Claim) → from < byte → painted (cut from claims) byte ≡ painted claims byte
cut-painted from byte [] behind = refl
cut-painted from byte (claim ∷ claims) behind = grind (arith, nat_tests)

in_front-apart : (claim : Claim) (claims : List Claim) → claim.range.len ≡ 1 → BeginsApart (claim.range.at + claim.range.len) claim.rule claims
    → claim ∷ claims ≡ in_front claim.range.at (Some (claim.rule, claim.fill)) claims
in_front-apart claim [] one apart = grind (arith, nat_tests)
in_front-apart claim (next ∷ claims) one apart = grind (arith, nat_tests)

in_front-joins : (claim : Claim) (claims : List Claim) → 0 < claim.range.len
    → claim ∷ claims ≡ in_front claim.range.at (Some (claim.rule, claim.fill)) (shorter claim ∷ claims)
in_front-joins claim claims some =
    let same : suc (claim.range.len - 1) ≡ claim.range.len = omega arith in
    grind (arith, nat_tests)

-- with the byte's paint in front they are the claims again
cut-front : (from : ℕ) (claims : List Claim) → IsFillMap claims → BeginsFrom from claims → claims ≡ in_front from (painted claims from) (cut from claims)
cut-front from [] kept begins = refl
cut-front from (claim ∷ claims) kept begins =
    cut-both (λ list. claim ∷ claims ≡ in_front from (painted (claim ∷ claims) from) list) from claim claims kept
    (λ at one. rw (← at, painted-first claim claims kept) (in_front-apart claim claims one kept.1))
    (λ at long. rw (← at, painted-first claim claims kept) (in_front-joins claim claims kept.0))
    (λ away. rw (painted-before (claim ∷ claims) from kept (omega arith)) refl)

-- a canonical list that begins at a byte or behind it, with the paints of a function from there on, is the list of the
-- longest claims, where the function has no paint behind them
same_as_longest : (paint : ℕ → Option (ℕ × ℕ)) (from count : ℕ) (claims : List Claim) → IsFillMap claims → BeginsFrom from claims
    → ((byte : ℕ) → from ≤ byte → painted claims byte ≡ paint byte) → ((byte : ℕ) → from + count ≤ byte → paint byte ≡ None) → claims ≡ longest_claims paint from count
unfolding longest_claims
same_as_longest paint from zero [] kept begins same past = refl
same_as_longest paint from zero (claim ∷ claims) kept begins same past =
    absurd (some_none (claim.rule, claim.fill) (sym (painted-first claim claims kept) ∙ same claim.range.at begins ∙ past claim.range.at (omega arith)))
same_as_longest paint from (suc count) claims kept begins same past =
    let rest = cut-kept from claims kept begins in
    cut-front from claims kept begins ∙ ap (λ first. in_front from first (cut from claims)) (same from (omega arith))
    ∙ ap (in_front from (paint from)) (same_as_longest paint (suc from) count (cut from claims) rest.0 rest.1
    (λ byte behind. cut-painted from byte claims behind ∙ same byte (omega arith)) (λ byte behind. past byte (omega arith)))

begins_anywhere : (claims : List Claim) → BeginsFrom 0 claims
begins_anywhere [] = tt
begins_anywhere (claim ∷ claims) = omega arith

-- a canonical list of claims that paints each byte as a function says, and no claim of which ends behind a byte, is
-- the list of the longest claims in front of that byte
pub same_as_longest_claims : (paint : ℕ → Option (ℕ × ℕ)) (end : ℕ) (claims : List Claim) → IsFillMap claims
    → ((byte : ℕ) → painted claims byte ≡ paint byte) → All (λ claim. claim.range.at + claim.range.len ≤ end) claims
    → claims ≡ longest_claims paint 0 end
same_as_longest_claims paint end claims kept same within =
    same_as_longest paint 0 end claims kept (begins_anywhere claims) (λ byte begun. same byte)
    (λ byte past. sym (same byte) ∙ painted-past claims end byte within (omega arith))

-- a byte behind which no claim of a list ends
end_of : List Claim → ℕ
end_of [] = 0
end_of (claim ∷ claims) = claim.range.at + claim.range.len + end_of claims

end_of-ends : (claims : List Claim) (end : ℕ) → end_of claims ≤ end → All (EndsBy end) claims
unfolding end_of
end_of-ends [] end fits = All-nil (EndsBy end)
end_of-ends (claim ∷ claims) end fits = All-cons (EndsBy end) claim claims (omega (arith, fits)) (end_of-ends claims end (omega (arith, fits)))

-- two canonical lists of claims that paint each byte alike are one
pub same_fill_map : (a b : List Claim) → IsFillMap a → IsFillMap b → ((byte : ℕ) → painted a byte ≡ painted b byte) → a ≡ b
same_fill_map a b kept_a kept_b alike =
    let end : ℕ = end_of a + end_of b in
    same_as_longest_claims (painted b) end a kept_a alike (end_of-ends a end (omega arith))
    ∙ sym (same_as_longest_claims (painted b) end b kept_b (λ byte. refl) (end_of-ends b end (omega arith)))

-- a byte with this paint is put in front of claims: the list is canonical again
in_front-kept : (from : ℕ) (paint : Option (ℕ × ℕ)) (claims : List Claim) → IsFillMap claims → BeginsFrom (suc from) claims
    → IsFillMap (in_front from paint claims) × BeginsFrom from (in_front from paint claims)
in_front-kept from None [] kept begins = (tt, tt)
in_front-kept from None (claim ∷ claims) kept begins = (kept, omega arith)
in_front-kept from (Some paint) [] kept begins = ((omega arith, tt, tt), omega arith)
in_front-kept from (Some paint) (claim ∷ claims) kept begins =
    cond_both (claim.range.at == suc from && claim.rule == paint.0)
    (record { range = record { at = from; len = suc claim.range.len }; rule = paint.0; fill = paint.1 } ∷ claims) (one_byte from paint ∷ claim ∷ claims)
    (λ (list : List Claim). IsFillMap list × BeginsFrom from list)
    (λ meets. let end : claim.range.at + claim.range.len ≡ from + suc claim.range.len = grind (arith, nat_tests) in
    let rule : claim.rule ≡ paint.0 = grind (arith, nat_tests) in
    ((omega arith, subst (λ (byte : ℕ). BeginsApart byte paint.0 claims) end (subst (λ (r : ℕ). BeginsApart (claim.range.at + claim.range.len) r claims) rule kept.1), kept.2), omega arith))
    (λ misses. ((omega arith, (omega arith, λ at rule. grind (arith, nat_tests)), kept), omega arith))

longest-kept : (paint : ℕ → Option (ℕ × ℕ)) (from count : ℕ) → IsFillMap (longest_claims paint from count) × BeginsFrom from (longest_claims paint from count)
unfolding longest_claims
longest-kept paint from zero = (tt, tt)
longest-kept paint from (suc count) =
    let later = longest-kept paint (suc from) count in
    in_front-kept from (paint from) (longest_claims paint (suc from) count) later.0 later.1

-- the longest claims are a canonical list
pub longest_claims_kept : (paint : ℕ → Option (ℕ × ℕ)) (end : ℕ) → IsFillMap (longest_claims paint 0 end)
longest_claims_kept paint end = (longest-kept paint 0 end).0

-- a byte that is put in front of claims is added to their bytes where it has a paint
covers-in_front : (from : ℕ) (paint : Option (ℕ × ℕ)) (claims : List Claim) (byte : ℕ)
    → covers (ranges_of (in_front from paint claims)) byte ≡ ((byte == from && is_some paint) || covers (ranges_of claims) byte)
covers-in_front from None claims byte = grind (arith, nat_tests)
covers-in_front from (Some paint) [] byte = grind (arith, nat_tests)
covers-in_front from (Some paint) (claim ∷ claims) byte = grind (arith, nat_tests)

-- the bytes of a range that pass a test are the first of them and those behind
one_more : (test : ℕ → Bool) (from count byte : ℕ) → ((byte == from && test from) || (in_range (record { at = suc from; len = count }) byte && test byte))
    ≡ (in_range (record { at = from; len = suc count }) byte && test byte)
one_more test from count byte = grind (arith, nat_tests)

-- the longest claims have the bytes that have a paint
pub longest-covers : (paint : ℕ → Option (ℕ × ℕ)) (from count byte : ℕ)
    → covers (ranges_of (longest_claims paint from count)) byte ≡ (in_range (record { at = from; len = count }) byte && is_some (paint byte))
unfolding longest_claims
longest-covers paint from zero byte =
    let out : in_range (record { at = from; len = 0 }) byte ≡ false = grind (arith, nat_tests) in
    rw out refl
longest-covers paint from (suc count) byte =
    covers-in_front from (paint from) (longest_claims paint (suc from) count) byte
    ∙ ap (λ rest. (byte == from && is_some (paint from)) || rest) (longest-covers paint (suc from) count byte)
    ∙ one_more (λ b. is_some (paint b)) from count byte

pub lesser-none : (paint : Option (ℕ × ℕ)) → lesser_paint paint None ≡ paint
lesser-none None = refl
lesser-none (Some paint) = refl

lesser_twice : (paint : ℕ × ℕ) (rest : Option (ℕ × ℕ)) → lesser_paint (Some paint) (lesser_paint (Some paint) rest) ≡ lesser_paint (Some paint) rest
lesser_twice paint None = grind (arith, nat_tests)
lesser_twice paint (Some other) = grind (arith, nat_tests)

-- one paint on the bytes of one set or of another
pub paint_either : (a b : Bool) (paint : ℕ × ℕ) (rest : Option (ℕ × ℕ))
    → lesser_paint (cond (a || b) (Some paint) None) rest ≡ lesser_paint (cond a (Some paint) None) (lesser_paint (cond b (Some paint) None) rest)
paint_either false b paint rest = refl
paint_either true false paint rest = refl
paint_either true true paint rest = sym (lesser_twice paint rest)

-- a byte that is put in front of claims has its paint, and the others keep theirs, where the joined bytes have one fill
painted-in_front : (from : ℕ) (paint : Option (ℕ × ℕ)) (claims : List Claim) (byte : ℕ) → IsFillMap claims
    → ((this next : ℕ × ℕ) → paint ≡ Some this → painted claims (suc from) ≡ Some next → this.0 ≡ next.0 → this.1 ≡ next.1)
    → painted (in_front from paint claims) byte ≡ lesser_paint (cond (byte == from) paint None) (painted claims byte)
painted-in_front from None claims byte kept agree = grind (arith, nat_tests)
painted-in_front from (Some paint) [] byte kept agree = grind (arith, nat_tests)
painted-in_front from (Some paint) (claim ∷ claims) byte kept agree =
    cond_both (claim.range.at == suc from && claim.rule == paint.0)
    (record { range = record { at = from; len = suc claim.range.len }; rule = paint.0; fill = paint.1 } ∷ claims) (one_byte from paint ∷ claim ∷ claims)
    (λ (list : List Claim). painted list byte ≡ lesser_paint (cond (byte == from) (Some paint) None) (painted (claim ∷ claims) byte))
    (λ meets. let at : claim.range.at ≡ suc from = grind (arith, nat_tests) in
    let rule : claim.rule ≡ paint.0 = grind (arith, nat_tests) in
    let next : painted (claim ∷ claims) (suc from) ≡ Some (claim.rule, claim.fill) = ap (λ b. painted (claim ∷ claims) b) (sym at) ∙ painted-first claim claims kept in
    let fill : paint.1 ≡ claim.fill = agree paint (claim.rule, claim.fill) refl next (sym rule) in
    let joined : in_range (record { at = from; len = suc claim.range.len }) byte ≡ (byte == from || in_range claim.range byte) = grind (arith, nat_tests) in
    rw (joined, rule, ← fill) (paint_either (byte == from) (in_range claim.range byte) paint (painted claims byte)))
    (λ misses. grind (arith, nat_tests))

one_more_paint : (paint : ℕ → Option (ℕ × ℕ)) (from count byte : ℕ)
    → lesser_paint (cond (byte == from) (paint from) None) (cond (in_range (record { at = suc from; len = count }) byte) (paint byte) None)
    ≡ cond (in_range (record { at = from; len = suc count }) byte) (paint byte) None
one_more_paint paint from count byte = grind (arith, nat_tests, lesser-none)

longest-painted : (paint : ℕ → Option (ℕ × ℕ)) (from count byte : ℕ) → NeighboursAgree paint
    → painted (longest_claims paint from count) byte ≡ cond (in_range (record { at = from; len = count }) byte) (paint byte) None
unfolding longest_claims
longest-painted paint from zero byte agree =
    let out : in_range (record { at = from; len = 0 }) byte ≡ false = grind (arith, nat_tests) in
    rw out refl
longest-painted paint from (suc count) byte agree =
    let rest : List Claim = longest_claims paint (suc from) count in
    painted-in_front from (paint from) rest byte (longest-kept paint (suc from) count).0
    (λ this next has has_next rule. agree from this next has
    (cond_some (in_range (record { at = suc from; len = count }) (suc from)) (paint (suc from)) next (sym (longest-painted paint (suc from) count (suc from) agree) ∙ has_next)) rule)
    ∙ ap (lesser_paint (cond (byte == from) (paint from) None)) (longest-painted paint (suc from) count byte agree)
    ∙ one_more_paint paint from count byte
  where
    cond_some : (test : Bool) (o : Option (ℕ × ℕ)) (p : ℕ × ℕ) → cond test o None ≡ Some p → o ≡ Some p
    cond_some true o p same = same
    cond_some false o p same = absurd cc

inside_first : (end byte : ℕ) → byte < end → in_range (record { at = 0; len = end }) byte ≡ true
inside_first end byte inside = grind (arith, nat_tests)

-- and these paints, where side by side one rule has one fill
pub longest_claims_paint : (paint : ℕ → Option (ℕ × ℕ)) (end byte : ℕ) → NeighboursAgree paint → byte < end → painted (longest_claims paint 0 end) byte ≡ paint byte
longest_claims_paint paint end byte agree inside =
    longest-painted paint 0 end byte agree ∙ cond-true (in_range (record { at = 0; len = end }) byte) (paint byte) None (inside_first end byte inside)

some-lesser_paint : (paint : ℕ × ℕ) (other : Option (ℕ × ℕ)) → true ≡ is_some (lesser_paint (Some paint) other)
some-lesser_paint paint None = refl
some-lesser_paint paint (Some other) =
    elim (nat_le paint.0 other.0) as (λ test. true ≡ is_some (cond test (Some paint) (Some other))) [ true ↦ refl | false ↦ refl ]

some-paint : (test : Bool) (paint : ℕ × ℕ) (other : Option (ℕ × ℕ))
    → (test || is_some other) ≡ is_some (lesser_paint (cond test (Some paint) None) other)
some-paint true paint other = some-lesser_paint paint other
some-paint false paint other = refl

-- the claimed bytes are those of the claims' ranges
pub covers-claims : (claims : List Claim) (byte : ℕ) → covers (ranges_of claims) byte ≡ is_some (painted claims byte)
covers-claims [] byte = refl
covers-claims (claim ∷ claims) byte =
    ap (λ rest. in_range claim.range byte || rest) (covers-claims claims byte)
    ∙ some-paint (in_range claim.range byte) (claim.rule, claim.fill) (painted claims byte)

-- the longest claims claim the bytes that have a paint
pub longest_claims_claim : (paint : ℕ → Option (ℕ × ℕ)) (end byte : ℕ) → byte < end → is_some (painted (longest_claims paint 0 end) byte) ≡ is_some (paint byte)
longest_claims_claim paint end byte inside =
    sym (covers-claims (longest_claims paint 0 end) byte) ∙ longest-covers paint 0 end byte
    ∙ rw (inside_first end byte inside) refl

none_from : (paint : Option (ℕ × ℕ)) → is_some paint ≡ false → paint ≡ None
none_from None none = refl
none_from (Some paint) none = absurd cc

longest-past : (paint : ℕ → Option (ℕ × ℕ)) (end byte : ℕ) → end ≤ byte → painted (longest_claims paint 0 end) byte ≡ None
longest-past paint end byte past =
    let out : in_range (record { at = 0; len = end }) byte ≡ false = grind (arith, nat_tests) in
    none_from (painted (longest_claims paint 0 end) byte)
    (sym (covers-claims (longest_claims paint 0 end) byte) ∙ longest-covers paint 0 end byte ∙ rw out refl)

-- they end with the last byte
pub longest_claims_ends : (paint : ℕ → Option (ℕ × ℕ)) (end : ℕ) → All (EndsBy end) (longest_claims paint 0 end)
longest_claims_ends paint end = ends_where_painted (longest_claims paint 0 end) end (longest_claims_kept paint end) (longest-past paint end)
