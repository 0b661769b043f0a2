-- The canonical list of the bytes that a program looks at.
use Rattle.std.specs.Prelude.{◌≡◌, ℕ, ◌<◌, List, length}
use Rattle.std.proofs.Common.{ap, sym, ◌∙◌, arith, ⊎_elim}
use Rattle.std.proofs.lemmas.Bool.{cases_lt}
use Rattle.std.proofs.lemmas.Option.{slice_get_past}
use Rattle.range_defs.specs.declared.Range.{Range}
use Rattle.range_defs.specs.Places.{covers, longest_ranges}
use Rattle.range_defs.proofs.RangeLaws.{longest_ranges_covers}
use Rattle.image_defs.specs.Ask.{Ask, result_of, visits}
use Rattle.image_defs.specs.Agreement.{AgreeOn}
use Rattle.image_defs.proofs.Agreement.{result_agree, visits_agree}

-- the bytes of an image that a program looks at, as the longest ranges
unfoldable pub looked_at : {E X : Type 0} → List ℕ → Ask E X → List Range
looked_at image ask = longest_ranges (covers (visits image ask)) 0 (length image)

-- the bytes of the image that a program looks at are covered, and no others
pub looked_at-covers : {E X : Type 0} (image : List ℕ) (ask : Ask E X) (byte : ℕ) → byte < length image → covers (looked_at image ask) byte ≡ covers (visits image ask) byte
unfolding looked_at
looked_at-covers image ask byte inside = longest_ranges_covers (covers (visits image ask)) (length image) byte inside

-- images that agree on these bytes agree on the ranges
pub looked_at-agree : {E X : Type 0} (a b : List ℕ) (ask : Ask E X) → AgreeOn (looked_at a ask) a b → AgreeOn (visits a ask) a b
looked_at-agree a b ask agree = record {
  same_length = agree.same_length;
  same_bytes = λ byte covered.
      ⊎_elim
      (λ inside. agree.same_bytes byte (looked_at-covers a ask byte inside ∙ covered))
      (λ past. slice_get_past a byte past ∙ sym (slice_get_past b byte (omega (arith, past, agree.same_length))))
      (cases_lt byte (length a));
}

-- so a program gives the same on them, and looks at the same bytes
pub result_guarded : {E X : Type 0} (a b : List ℕ) (ask : Ask E X) → AgreeOn (looked_at a ask) a b → result_of b ask ≡ result_of a ask
result_guarded a b ask agree = result_agree ask a b (looked_at-agree a b ask agree)

pub looked_at_guarded : {E X : Type 0} (a b : List ℕ) (ask : Ask E X) → AgreeOn (looked_at a ask) a b → looked_at b ask ≡ looked_at a ask
unfolding looked_at
looked_at_guarded a b ask agree =
    ap (λ ranges. longest_ranges (covers ranges) 0 (length b)) (visits_agree ask a b (looked_at-agree a b ask agree))
    ∙ ap (λ len. longest_ranges (covers (visits a ask)) 0 len) (sym agree.same_length)
