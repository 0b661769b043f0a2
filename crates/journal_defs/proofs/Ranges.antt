-- The ranges of a journal: what is read where ranges were written, and what was written where they pass their checks.
use Rattle.std.specs.Prelude.{◌≡◌, ℕ, zero, suc, ◌+◌, ◌*◌, ◌^◌, ◌<◌, ◌≤◌, ◌==◌, ◌&&◌, not, nat_le, nat_lt, true, false, All, None, List, [], ◌∷◌, ◌++◌, length, drop, refl}
use Rattle.std.specs.List.{flat_map}
use Rattle.std.proofs.Common.{ap, sym, subst, ◌∙◌, arith}
use Rattle.std.proofs.lemmas.Bool.{and_from, and_parts, both_ways, eq-eqb, eqb-true, false_from_ne_true, le-leb, leb-true, lt-ltb, ltb-true, not-true, not_from_false}
use Rattle.std.proofs.lemmas.List.{append_assoc}
use Rattle.std.proofs.lemmas.List.Elements.{All-cons, All-head, All-nil, All-tail}
use Rattle.bytes_defs.specs.Numbers.{little_at}
use Rattle.journal_defs.specs.Form.{little, range_bytes}
use Rattle.journal_defs.specs.Reading.{image_len_in, claim_in, claims_in}
use Rattle.journal_defs.specs.Checks.{first_failing, is_rule, range_checks, ranges_checks}
use Rattle.journal_defs.proofs.Fields.{AreBytes, byte_behind, byte_reads, byte_written, number_behind, number_reads, number_written, stands_at}
use Rattle.journal_defs.proofs.Passing.{both_pass, nothing_fails, pass_all, pass_with, passes}
use Rattle.range_defs.specs.Claims.{BeginsApart, IsFillMap}
use Rattle.range_defs.specs.declared.Claim.{Claim}
use Rattle.rx_ranges.specs.PlanChecks.{IsRule, IsClaimIn}

-- ---- one range

-- the numbers of a claim fit their fields
pub record FitsFields (claim : Claim) : Type 0 where
  pub at : claim.range.at < 256 ^ 8
  pub len : claim.range.len < 256 ^ 8
  pub rule : claim.rule < 256 ^ 4

-- this claim and three zeros are read at a place, and this stands behind them
pub record IsRangeAt (bytes : List ℕ) (at : ℕ) (claim : Claim) (rest : List ℕ) : Type 0 where
  pub is : claim_in bytes at ≡ claim
  pub zeros : little_at 3 bytes (at + 21) ≡ 0
  pub behind : drop (at + 24) bytes ≡ rest

pub range_reads : (bytes rest : List ℕ) (at : ℕ) (claim : Claim) → FitsFields claim → drop at bytes ≡ range_bytes claim ++ rest → IsRangeAt bytes at claim rest
unfolding range_bytes little
range_reads bytes rest at claim fits stands =
    let zeros = little 3 0 ++ rest in
    let fill = claim.fill ∷ zeros in
    let rule = little 4 claim.rule ++ fill in
    let len = little 8 claim.range.len ++ rule in
    let begin : drop at bytes ≡ little 8 claim.range.at ++ len = stands in
    let at_len : drop (at + 8) bytes ≡ len = number_behind bytes len at 8 claim.range.at begin in
    let at_rule : drop (at + 16) bytes ≡ rule = stands_at bytes (at + 8 + 8) (at + 16) rule (omega arith) (number_behind bytes rule (at + 8) 8 claim.range.len at_len) in
    let at_fill : drop (at + 20) bytes ≡ fill = stands_at bytes (at + 16 + 4) (at + 20) fill (omega arith) (number_behind bytes fill (at + 16) 4 claim.rule at_rule) in
    let at_zeros : drop (at + 21) bytes ≡ zeros = stands_at bytes (at + 20 + 1) (at + 21) zeros (omega arith) (byte_behind bytes zeros (at + 20) claim.fill at_fill) in
    let at_is = number_reads bytes len at 8 claim.range.at fits.at begin in
    let len_is = number_reads bytes rule (at + 8) 8 claim.range.len fits.len at_len in
    let rule_is = number_reads bytes fill (at + 16) 4 claim.rule fits.rule at_rule in
    let fill_is = byte_reads bytes zeros (at + 20) claim.fill at_fill in record {
      is = rw (at_is, len_is, rule_is, fill_is) refl;
      zeros = number_reads bytes rest (at + 21) 3 0 (omega arith) at_zeros;
      behind = stands_at bytes (at + 21 + 3) (at + 24) rest (omega arith) (number_behind bytes rest (at + 21) 3 0 at_zeros);
    }

pub range_written : (bytes : List ℕ) (at : ℕ) → AreBytes bytes → at + 24 ≤ length bytes → little_at 3 bytes (at + 21) ≡ 0
    → drop at bytes ≡ range_bytes (claim_in bytes at) ++ drop (at + 24) bytes
unfolding range_bytes little
range_written bytes at fit long no_zeros =
    let claim = claim_in bytes at in
    let at_begin = number_written bytes at 8 fit (omega arith) in
    let at_len = number_written bytes (at + 8) 8 fit (omega arith) in
    let at_rule = number_written bytes (at + 16) 4 fit (omega arith) in
    let at_fill = byte_written bytes (at + 20) (omega arith) in
    let at_zeros = number_written bytes (at + 21) 3 fit (omega arith) in
    let to_rule : at + 8 + 8 ≡ at + 16 = omega arith in
    let to_fill : at + 16 + 4 ≡ at + 20 = omega arith in
    let to_zeros : at + 20 + 1 ≡ at + 21 = omega arith in
    let to_end : at + 21 + 3 ≡ at + 24 = omega arith in
    at_begin
    ∙ ap (λ rest. little 8 claim.range.at ++ rest) (at_len ∙ ap (λ place. little 8 claim.range.len ++ drop place bytes) to_rule)
    ∙ ap (λ rest. little 8 claim.range.at ++ (little 8 claim.range.len ++ rest)) (at_rule ∙ ap (λ place. little 4 claim.rule ++ drop place bytes) to_fill)
    ∙ ap (λ rest. little 8 claim.range.at ++ (little 8 claim.range.len ++ (little 4 claim.rule ++ rest))) (at_fill ∙ ap (λ place. claim.fill ∷ drop place bytes) to_zeros)
    ∙ ap (λ rest. little 8 claim.range.at ++ (little 8 claim.range.len ++ (little 4 claim.rule ++ claim.fill ∷ rest)))
    (at_zeros ∙ ap (λ zeros. little 3 zeros ++ drop (at + 21 + 3) bytes) no_zeros ∙ ap (λ place. little 3 0 ++ drop place bytes) to_end)

-- what the checks of a range say, where the last one ended here and had this rule
pub record IsRangeHere (image_len last_end last_rule : ℕ) (claim : Claim) : Type 0 where
  pub behind : last_end ≤ claim.range.at
  pub some : 0 < claim.range.len
  pub inside : claim.range.at + claim.range.len ≤ image_len
  pub rule : IsRule claim.rule
  pub apart : last_end ≡ claim.range.at → last_rule ≡ claim.rule → ⊥

pub is_rule_true : (rule : ℕ) → IsRule rule → is_rule rule ≡ true
is_rule_true rule is = and_from (nat_le 1 rule) (nat_le rule 1000) (le-leb 1 rule is.0) (le-leb rule 1000 is.1)

pub rule_is : (rule : ℕ) → is_rule rule ≡ true → IsRule rule
rule_is rule true_here =
    let parts = and_parts (nat_le 1 rule) (nat_le rule 1000) true_here in
    (leb-true 1 rule parts.0, leb-true rule 1000 parts.1)

pub range_passes : (bytes : List ℕ) (at last_end last_rule : ℕ) → IsRangeHere (image_len_in bytes) last_end last_rule (claim_in bytes at) → little_at 3 bytes (at + 21) ≡ 0
    → first_failing (range_checks bytes at last_end last_rule) ≡ None
unfolding range_checks
range_passes bytes at last_end last_rule here zeros =
    let claim = claim_in bytes at in
    let begins : (nat_le last_end claim.range.at && nat_lt claim.range.at (image_len_in bytes)) ≡ true =
    and_from (nat_le last_end claim.range.at) (nat_lt claim.range.at (image_len_in bytes)) (le-leb last_end claim.range.at here.behind) (lt-ltb claim.range.at (image_len_in bytes) (omega (arith, here.some, here.inside))) in
    let ends : (nat_lt 0 claim.range.len && nat_le (claim.range.at + claim.range.len) (image_len_in bytes)) ≡ true =
    and_from (nat_lt 0 claim.range.len) (nat_le (claim.range.at + claim.range.len) (image_len_in bytes)) (lt-ltb 0 claim.range.len here.some) (le-leb (claim.range.at + claim.range.len) (image_len_in bytes) here.inside) in
    let touches = (last_end == claim.range.at && last_rule == claim.rule) in
    let apart : touches ≡ false = false_from_ne_true touches (λ both.
    let parts = and_parts (last_end == claim.range.at) (last_rule == claim.rule) both in
    here.apart (eqb-true last_end claim.range.at parts.0) (eqb-true last_rule claim.rule parts.1)) in
    let rule : (is_rule claim.rule && not touches) ≡ true = and_from (is_rule claim.rule) (not touches) (is_rule_true claim.rule here.rule) (not_from_false touches apart) in
    pass_with at _ _ begins ∙ pass_with (at + 8) _ _ ends ∙ pass_with (at + 16) _ _ rule ∙ pass_with (at + 21) _ [] (eq-eqb (little_at 3 bytes (at + 21)) 0 zeros) ∙ nothing_fails

pub range_holds : (bytes : List ℕ) (at last_end last_rule : ℕ) → first_failing (range_checks bytes at last_end last_rule) ≡ None
    → IsRangeHere (image_len_in bytes) last_end last_rule (claim_in bytes at) × (little_at 3 bytes (at + 21) ≡ 0)
unfolding range_checks
range_holds bytes at last_end last_rule none =
    let claim = claim_in bytes at in
    let touches = (last_end == claim.range.at && last_rule == claim.rule) in
    let one = passes at (nat_le last_end claim.range.at && nat_lt claim.range.at (image_len_in bytes)) _ none in
    let two = passes (at + 8) (nat_lt 0 claim.range.len && nat_le (claim.range.at + claim.range.len) (image_len_in bytes)) _ one.1 in
    let three = passes (at + 16) (is_rule claim.rule && not touches) _ two.1 in
    let four = passes (at + 21) (little_at 3 bytes (at + 21) == 0) [] three.1 in
    let begins = and_parts (nat_le last_end claim.range.at) (nat_lt claim.range.at (image_len_in bytes)) one.0 in
    let ends = and_parts (nat_lt 0 claim.range.len) (nat_le (claim.range.at + claim.range.len) (image_len_in bytes)) two.0 in
    let rule = and_parts (is_rule claim.rule) (not touches) three.0 in (
      record {
        behind = leb-true last_end claim.range.at begins.0;
        some = ltb-true 0 claim.range.len ends.0;
        inside = leb-true (claim.range.at + claim.range.len) (image_len_in bytes) ends.1;
        rule = rule_is claim.rule rule.0;
        apart = λ same_end same_rule. both_ways touches (not-true touches rule.1) (and_from (last_end == claim.range.at) (last_rule == claim.rule) (eq-eqb last_end claim.range.at same_end) (eq-eqb last_rule claim.rule same_rule));
      },
      eqb-true (little_at 3 bytes (at + 21)) 0 four.0,
    )

-- ---- all ranges

-- these claims pass their checks and are read, and this stands behind them
pub record AreRangesAt (bytes : List ℕ) (at last_end last_rule : ℕ) (claims : List Claim) (rest : List ℕ) : Type 0 where
  pub pass : first_failing (ranges_checks bytes at last_end last_rule (length claims)) ≡ None
  pub are : claims_in bytes at (length claims) ≡ claims
  pub behind : drop (at + 24 * length claims) bytes ≡ rest

pub ranges_read : (claims : List Claim) (bytes rest : List ℕ) (at last_end last_rule image_len : ℕ) → image_len < 256 ^ 8 → image_len_in bytes ≡ image_len → BeginsApart last_end last_rule claims
    → IsFillMap claims → All (IsClaimIn image_len) claims → drop at bytes ≡ flat_map range_bytes claims ++ rest → AreRangesAt bytes at last_end last_rule claims rest
unfolding ranges_checks
ranges_read [] bytes rest at last_end last_rule image_len reach is apart kept within stands =
    record { pass = nothing_fails; are = refl; behind = stands_at bytes at (at + 0) rest (omega arith) stands }
ranges_read (claim ∷ claims) bytes rest at last_end last_rule image_len reach is apart kept within stands =
    let here : IsClaimIn image_len claim = All-head (IsClaimIn image_len) claim claims within in
    let fits : FitsFields claim = record { at = omega (arith, here.0, reach); len = omega (arith, here.0, reach); rule = omega (arith, here.1.1) } in
    let front : drop at bytes ≡ range_bytes claim ++ (flat_map range_bytes claims ++ rest) = stands ∙ append_assoc (range_bytes claim) (flat_map range_bytes claims) rest in
    let read = range_reads bytes (flat_map range_bytes claims ++ rest) at claim fits front in
    let Here : ℕ → Claim → Type 0 = λ image_len claim. IsRangeHere image_len last_end last_rule claim in
    let place : IsRangeHere image_len last_end last_rule claim = record { behind = apart.0; some = kept.0; inside = here.0; rule = here.1; apart = apart.1 } in
    let place_in : IsRangeHere (image_len_in bytes) last_end last_rule (claim_in bytes at) = subst (λ len. Here len (claim_in bytes at)) (sym is) (subst (Here image_len) (sym read.is) place) in
    let rest_at = ranges_read claims bytes rest (at + 24) (claim.range.at + claim.range.len) claim.rule image_len reach is kept.1 kept.2 (All-tail (IsClaimIn image_len) claim claims within) read.behind in
    let Pass : Claim → Type 0 = λ claim. first_failing (ranges_checks bytes (at + 24) (claim.range.at + claim.range.len) claim.rule (length claims)) ≡ None in
    record {
      pass = pass_all (range_checks bytes at last_end last_rule) _ (range_passes bytes at last_end last_rule place_in read.zeros) ∙ subst Pass (sym read.is) rest_at.pass;
      are = ap (λ claim. claim ∷ claims_in bytes (at + 24) (length claims)) read.is ∙ ap (λ claims. claim ∷ claims) rest_at.are;
      behind = stands_at bytes (at + 24 + 24 * length claims) (at + 24 * suc (length claims)) rest (omega arith) rest_at.behind;
    }

-- ranges that pass their checks were written, and are what a plan's ranges have to be
pub record AreRangesWritten (bytes : List ℕ) (at last_end last_rule count : ℕ) : Type 0 where
  pub form : drop at bytes ≡ flat_map range_bytes (claims_in bytes at count) ++ drop (at + 24 * count) bytes
  pub apart : BeginsApart last_end last_rule (claims_in bytes at count)
  pub kept : IsFillMap (claims_in bytes at count)
  pub within : All (IsClaimIn (image_len_in bytes)) (claims_in bytes at count)
  pub counted : length (claims_in bytes at count) ≡ count

pub ranges_written : (count : ℕ) (bytes : List ℕ) (at last_end last_rule : ℕ) → AreBytes bytes → at + 24 * count ≤ length bytes
    → first_failing (ranges_checks bytes at last_end last_rule count) ≡ None → AreRangesWritten bytes at last_end last_rule count
unfolding ranges_checks
ranges_written zero bytes at last_end last_rule fit long none =
    let place : at ≡ at + 24 * 0 = omega arith in
    record { form = ap (λ at. drop at bytes) place; apart = tt; kept = tt; within = All-nil (IsClaimIn (image_len_in bytes)); counted = refl }
ranges_written (suc count) bytes at last_end last_rule fit long none =
    let claim = claim_in bytes at in
    let parts = both_pass (range_checks bytes at last_end last_rule) _ none in
    let holds = range_holds bytes at last_end last_rule parts.0 in
    let here = holds.0 in
    let rest = ranges_written count bytes (at + 24) (claim.range.at + claim.range.len) claim.rule fit (omega arith) parts.1 in
    let place : at + 24 + 24 * count ≡ at + 24 * suc count = omega arith in
    let claims = claims_in bytes (at + 24) count in
    record {
      form =
          range_written bytes at fit (omega arith) holds.1 ∙ ap (λ rest. range_bytes claim ++ rest) (rest.form ∙ ap (λ place. flat_map range_bytes claims ++ drop place bytes) place)
          ∙ sym (append_assoc (range_bytes claim) (flat_map range_bytes claims) (drop (at + 24 * suc count) bytes));
      apart = (here.behind, here.apart);
      kept = (here.some, rest.apart, rest.kept);
      within = All-cons (IsClaimIn (image_len_in bytes)) claim claims (here.inside, here.rule) rest.within;
      counted = ap (λ n. suc n) rest.counted;
    }
