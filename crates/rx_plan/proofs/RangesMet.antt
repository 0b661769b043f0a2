-- Whether ranges have a claimed byte, range by range.
use Rattle.std.proofs.Common.{◌≡◌, ℕ, zero, suc, ◌+◌, ◌<◌, ◌≤◌, Bool, true, false, ◌&&◌, ◌||◌, is_some, List, [], ◌∷◌, length, get_or, take, refl, sym, ap, ◌∙◌, arith}
use Rattle.std.proofs.lemmas.Bool.{false≢true}
use Rattle.std.proofs.lemmas.List.{take_all}
use Rattle.range_defs.specs.declared.Claim.{Claim}
use Rattle.range_defs.specs.declared.Range.{Range}
use Rattle.range_defs.specs.AnyByte.{TellsIfAny}
use Rattle.range_defs.specs.Claims.{painted}
use Rattle.range_defs.specs.Places.{covers, in_range}

or-assoc : (a b c : Bool) → (a || (b || c)) ≡ ((a || b) || c)
or-assoc true b c = refl
or-assoc false b c = refl

or-none : (a : Bool) → (a || false) ≡ (false || a)
or-none true = refl
or-none false = refl

-- the bytes of one more range
covers-more : (ranges : List Range) (i byte : ℕ) (d : Range) → i < length ranges
    → covers (take (suc i) ranges) byte ≡ (covers (take i ranges) byte || in_range (get_or ranges i d) byte)
covers-more [] i byte d inside = absurd (omega arith)
covers-more (range ∷ ranges) zero byte d inside = or-none (in_range range byte)
covers-more (range ∷ ranges) (suc i) byte d inside =
    ap (λ rest. in_range range byte || rest) (covers-more ranges i byte d (omega arith))
    ∙ or-assoc (in_range range byte) (covers (take i ranges) byte) (in_range (get_or ranges i d) byte)

covers-one : (ranges : List Range) (i byte : ℕ) (d : Range) → i < length ranges → in_range (get_or ranges i d) byte ≡ true → covers ranges byte ≡ true
covers-one [] i byte d inside here = absurd (omega arith)
covers-one (range ∷ ranges) zero byte d inside here = rw here refl
covers-one (range ∷ ranges) (suc i) byte d inside here =
    or-right (in_range range byte) (covers ranges byte) (covers-one ranges i byte d (omega arith) here)
  where
    or-right : (a b : Bool) → b ≡ true → (a || b) ≡ true
    or-right true b h = refl
    or-right false b h = h

both : (a b : Bool) → (a && b) ≡ true → (a ≡ true) × (b ≡ true)
both true b h = (refl, h)
both false b h = absurd (false≢true h)

and-or : (a b c : Bool) → (a && b) ≡ false → (a && c) ≡ false → (a && (b || c)) ≡ false
and-or true true c h k = h
and-or true false c h k = k
and-or false b c h k = refl

-- a range that has one
pub meets-here : (claims : List Claim) (ranges : List Range) (i : ℕ) (d : Range) (answer : Bool) → i < length ranges
    → TellsIfAny (λ byte. is_some (painted claims byte) && in_range (get_or ranges i d) byte) answer → answer ≡ true
    → TellsIfAny (λ byte. is_some (painted claims byte) && covers ranges byte) true
meets-here claims ranges i d true inside some is =
    let parts = both (is_some (painted claims some.0)) (in_range (get_or ranges i d) some.0) some.1 in
    (some.0, ap (λ t. t && covers ranges some.0) parts.0 ∙ covers-one ranges i some.0 d inside parts.1)
meets-here claims ranges i d false inside none is = absurd (false≢true is)

-- one more that has none
pub meets-none_more : (claims : List Claim) (ranges : List Range) (i : ℕ) (d : Range) (answer : Bool) → i < length ranges
    → TellsIfAny (λ byte. is_some (painted claims byte) && in_range (get_or ranges i d) byte) answer → answer ≡ false
    → ((byte : ℕ) → (is_some (painted claims byte) && covers (take i ranges) byte) ≡ false)
    → (byte : ℕ) → (is_some (painted claims byte) && covers (take (i + 1) ranges) byte) ≡ false
meets-none_more claims ranges i d true inside some is so_far byte = absurd (false≢true (sym is))
meets-none_more claims ranges i d false inside none is so_far byte =
    let next : i + 1 ≡ suc i = omega arith in
    ap (λ n. is_some (painted claims byte) && covers (take n ranges) byte) next
    ∙ ap (λ t. is_some (painted claims byte) && t) (covers-more ranges i byte d inside)
    ∙ and-or (is_some (painted claims byte)) (covers (take i ranges) byte) (in_range (get_or ranges i d) byte) (so_far byte) (none byte)

-- after the last range
pub meets-none : (claims : List Claim) (ranges : List Range) (i : ℕ) → length ranges ≤ i
    → ((byte : ℕ) → (is_some (painted claims byte) && covers (take i ranges) byte) ≡ false)
    → TellsIfAny (λ byte. is_some (painted claims byte) && covers ranges byte) false
meets-none claims ranges i past so_far byte =
    sym (ap (λ (list : List Range). is_some (painted claims byte) && covers list byte) (take_all i ranges past)) ∙ so_far byte
