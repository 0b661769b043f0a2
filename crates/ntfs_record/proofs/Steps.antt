-- A walk over the attributes of a record, one at a time.
use Rattle.std.proofs.Common.{◌≡◌, ℕ, zero, suc, ◌+◌, ◌-◌, ◌<◌, ◌≤◌, Bool, true, false, List, [], ◌∷◌, Option, Some, None, Result, Ok, Err, arith, lit≤, ap, sym, ◌∙◌, refl}
use Rattle.std.specs.Prelude.{nat_le}
use Rattle.std.specs.Option.{option_map}
use Rattle.std.proofs.lemmas.Bool.{lt-leb}
use Rattle.bytes_defs.specs.Bytes.{part}
use Rattle.image_defs.specs.Ask.{Ask, Done, result_of, ◌>>=◌}
use Rattle.image_defs.specs.Results.{with_value}
use Rattle.image_defs.proofs.Results.{result_next, result_bind, result_bind_ok, result_bind_err, result_check_false}
use Rattle.bytes_defs.specs.declared.order.Order.TheVariants.{Little}
use Rattle.bytes_defs.specs.Numbers.{little_at}
use Rattle.bytes_defs.proofs.NumberLaws.{number_at_part}
use Rattle.ntfs_record_defs.specs.declared.fault.RecordFault.{RecordFault}
use Rattle.ntfs_record_defs.specs.declared.fault.RecordFault.TheVariants.{BadField}
use Rattle.ntfs_record_defs.specs.Attributes.{Opened, is_resident, header_size, next_attribute, and_behind, attributes_within, attributes_from}
use Rattle.ntfs_record_defs.proofs.AttributeLaws.{attribute_lies, attribute_length, next_some}
use Rattle.ntfs_record_defs.specs.Lent.{Lent, lent, lent_next}
use Rattle.ntfs_record_defs.specs.LentLaws.{lent_of}
use Rattle.ntfs_record_defs.proofs.LentLaws.{next_lent}

-- where the attribute behind the one at a place begins
abbrev pub next_place : List ℕ → ℕ → ℕ
next_place bytes at = at + little_at 4 bytes (at + 4)

-- an attribute ends where the one behind it begins
pub record EndsBehind (bytes : List ℕ) (used at : ℕ) (found : Opened) : Type 0 where
  pub ends : found.attribute.at + found.attribute.len ≡ next_place bytes at
  pub rises : at + 24 ≤ next_place bytes at
  pub inside : next_place bytes at ≤ used

least_header : (resident : Bool) → 24 ≤ header_size resident
least_header true = lit≤ tt
least_header false = lit≤ tt

found_is : (bytes : List ℕ) (used at : ℕ) (found : Opened) → result_of bytes (next_attribute used at) ≡ Ok (Some found) → EndsBehind bytes used at found
found_is bytes used at found gives =
    let one = next_some bytes used at found gives in
    let lies = attribute_lies bytes used at found one in
    let long : found.attribute.len ≡ little_at 4 bytes (at + 4) = attribute_length bytes used at found one ∙ number_at_part Little 4 bytes at 16 4 (lit≤ tt) in
    record {
      ends = omega (arith, lies.begins, long);
      rises = omega (arith, long, lies.header_inside, least_header (is_resident (part bytes at 16)));
      inside = omega (arith, long, lies.inside);
    }

lent_gives : (bytes : List ℕ) (used at : ℕ) (result : Result (Option Opened) RecordFault) (one : Lent) → result_of bytes (next_attribute used at) ≡ result
    → with_value (option_map (lent_of bytes)) result ≡ Ok (Some one) → (found : Opened) × (result_of bytes (next_attribute used at) ≡ Ok (Some found)) × (lent bytes found.attribute ≡ one)
lent_gives bytes used at (Ok None) one gives is = absurd cc
lent_gives bytes used at (Ok (Some found)) one gives is = (found, gives, cc)
lent_gives bytes used at (Err fault) one gives is = absurd cc

-- the attribute of the program that is lent
pub record IsNext (bytes : List ℕ) (used at : ℕ) (one : Lent) : Type 0 where
  pub found : Opened
  pub gives : result_of bytes (next_attribute used at) ≡ Ok (Some found)
  pub is : lent bytes found.attribute ≡ one
  pub behind : EndsBehind bytes used at found

pub next_is : (bytes : List ℕ) (used at : ℕ) (one : Lent) → lent_next bytes used at ≡ Ok (Some one) → IsNext bytes used at one
next_is bytes used at one is =
    let given = lent_gives bytes used at (result_of bytes (next_attribute used at)) one refl (next_lent bytes used at ∙ is) in
    record {
      found = given.0;
      gives = given.1;
      is = given.2;
      behind = found_is bytes used at given.0 given.1;
    }

-- ---- as many steps as bytes are enough

past_refuses : (bytes : List ℕ) (used at : ℕ) (behind : ℕ → Ask RecordFault (List Opened)) → used ≤ at → result_of bytes (next_attribute used at >>= and_behind behind) ≡ Err (BadField at)
past_refuses bytes used at behind past =
    result_bind_err bytes (next_attribute used at) (and_behind behind) (BadField at)
    (result_check_false bytes (nat_le (at + 4) used) (BadField at) _ (lt-leb (at + 4) used (omega (arith, past))))

step_same : (bytes : List ℕ) (used at : ℕ) (a b : ℕ → Ask RecordFault (List Opened)) (result : Result (Option Opened) RecordFault) → result_of bytes (next_attribute used at) ≡ result
    → ((place : ℕ) → at < place → result_of bytes (a place) ≡ result_of bytes (b place)) → result_of bytes (next_attribute used at >>= and_behind a) ≡ result_of bytes (next_attribute used at >>= and_behind b)
step_same bytes used at a b (Err fault) gives same =
    result_bind_err bytes (next_attribute used at) (and_behind a) fault gives ∙ sym (result_bind_err bytes (next_attribute used at) (and_behind b) fault gives)
step_same bytes used at a b (Ok None) gives same =
    result_bind_ok bytes (next_attribute used at) (and_behind a) None gives ∙ sym (result_bind_ok bytes (next_attribute used at) (and_behind b) None gives)
step_same bytes used at a b (Ok (Some found)) gives same =
    let place = found.attribute.at + found.attribute.len in
    let is = found_is bytes used at found gives in
    result_bind_ok bytes (next_attribute used at) (and_behind a) (Some found) gives
    ∙ result_bind bytes (a place) (λ more. Done (found ∷ more))
    ∙ ap (λ result. result_next bytes result (λ more. Done (found ∷ more))) (same place (omega (arith, is.ends, is.rises)))
    ∙ sym (result_bind bytes (b place) (λ more. Done (found ∷ more)))
    ∙ sym (result_bind_ok bytes (next_attribute used at) (and_behind b) (Some found) gives)

enough : (bytes : List ℕ) (used : ℕ) (count other at : ℕ) → used - at ≤ count → used - at ≤ other → result_of bytes (attributes_within count used at) ≡ result_of bytes (attributes_within other used at)
unfolding attributes_within
enough bytes used zero zero at many more = refl
enough bytes used zero (suc other) at many more = sym (past_refuses bytes used at (attributes_within other used) (omega (arith, many)))
enough bytes used (suc count) zero at many more = past_refuses bytes used at (attributes_within count used) (omega (arith, more))
enough bytes used (suc count) (suc other) at many more =
    step_same bytes used at (attributes_within count used) (attributes_within other used) (result_of bytes (next_attribute used at)) refl
    (λ place behind. enough bytes used count other place (omega (arith, behind, many)) (omega (arith, behind, more)))

-- ---- the steps of a walk

unrolled : (bytes : List ℕ) (used at : ℕ) → result_of bytes (attributes_from used at) ≡ result_of bytes (next_attribute used at >>= and_behind (attributes_within (used - at) used))
unfolding attributes_within
unrolled bytes used at = enough bytes used (used - at) (suc (used - at)) at (omega arith) (omega arith)

refused : (bytes : List ℕ) (result : Result (Option Opened) RecordFault) (fault : RecordFault) → with_value (option_map (lent_of bytes)) result ≡ Err fault → result ≡ Err fault
refused bytes (Ok None) fault is = absurd cc
refused bytes (Ok (Some found)) fault is = absurd cc
refused bytes (Err other) fault is = let same : other ≡ fault = cc in ap Err same

ended : (bytes : List ℕ) (result : Result (Option Opened) RecordFault) → with_value (option_map (lent_of bytes)) result ≡ Ok None → result ≡ Ok None
ended bytes (Ok None) is = refl
ended bytes (Ok (Some found)) is = absurd cc
ended bytes (Err other) is = absurd cc

pub walk_refuses : (bytes : List ℕ) (used at : ℕ) (fault : RecordFault) → lent_next bytes used at ≡ Err fault → result_of bytes (attributes_from used at) ≡ Err fault
walk_refuses bytes used at fault is =
    unrolled bytes used at
    ∙ result_bind_err bytes (next_attribute used at) (and_behind (attributes_within (used - at) used)) fault (refused bytes (result_of bytes (next_attribute used at)) fault (next_lent bytes used at ∙ is))

pub walk_ends : (bytes : List ℕ) (used at : ℕ) → lent_next bytes used at ≡ Ok None → result_of bytes (attributes_from used at) ≡ Ok []
walk_ends bytes used at is =
    unrolled bytes used at
    ∙ result_bind_ok bytes (next_attribute used at) (and_behind (attributes_within (used - at) used)) None (ended bytes (result_of bytes (next_attribute used at)) (next_lent bytes used at ∙ is))

run_front : (bytes : List ℕ) (first : Opened) (result : Result (List Opened) RecordFault) → result_next {E = RecordFault} bytes result (λ more. Done (first ∷ more)) ≡ with_value (λ more. first ∷ more) result
run_front bytes first (Ok more) = refl
run_front bytes first (Err fault) = refl

pub walk_goes_on : (bytes : List ℕ) (used at : ℕ) (one : Lent) → (is : lent_next bytes used at ≡ Ok (Some one))
    → result_of bytes (attributes_from used at) ≡ with_value (λ more. (next_is bytes used at one is).found ∷ more) (result_of bytes (attributes_from used (next_place bytes at)))
walk_goes_on bytes used at one is =
    let next = next_is bytes used at one is in
    let place = next.found.attribute.at + next.found.attribute.len in
    unrolled bytes used at
    ∙ result_bind_ok bytes (next_attribute used at) (and_behind (attributes_within (used - at) used)) (Some next.found) next.gives
    ∙ result_bind bytes (attributes_within (used - at) used place) (λ more. Done (next.found ∷ more))
    ∙ run_front bytes next.found (result_of bytes (attributes_within (used - at) used place))
    ∙ ap (λ place. with_value (λ more. next.found ∷ more) (result_of bytes (attributes_within (used - at) used place))) next.behind.ends
    ∙ ap (with_value (λ more. next.found ∷ more)) (enough bytes used (used - at) (used - next_place bytes at) (next_place bytes at) (omega (arith, next.behind.rises)) (omega arith))
