-- Walks over the attributes of a record whose true bytes stand in place.
use Rattle.std.proofs.Common.{◌≡◌, ℕ, List, [], ◌∷◌, Some, None, Result, Ok, Err, ap, ◌∙◌, subst, refl}
use Rattle.std.specs.Prelude.{IsOk, map}
use Rattle.image_defs.specs.Ask.{result_of}
use Rattle.image_defs.specs.Results.{with_value}
use Rattle.ntfs_record_defs.specs.declared.fault.RecordFault.{RecordFault}
use Rattle.ntfs_record_defs.specs.Attributes.{Opened, attributes_from}
use Rattle.ntfs_record_defs.specs.Record.{header_of}
use Rattle.ntfs_record_defs.specs.Lent.{Lent, lent, lent_all, lent_from, lent_next}
use Rattle.ntfs_record.specs.Mending.{IsWalk, status, attributes_check_from}
use Rattle.ntfs_record.proofs.Steps.{next_place, next_is, walk_refuses, walk_ends, walk_goes_on}

abbrev used_of : List ℕ → ℕ
used_of bytes = (header_of bytes).used

rest_ok : (first : Opened) (result : Result (List Opened) RecordFault) → IsOk (with_value (λ more. first ∷ more) result) → IsOk result
rest_ok first (Ok more) is = refl
rest_ok first (Err fault) is = absurd cc

rest_lent : (bytes : List ℕ) (first : Opened) (one : Lent) (result : Result (List Opened) RecordFault) → lent bytes first.attribute ≡ one → IsOk result
    → lent_all bytes (with_value (λ more. first ∷ more) result) ≡ one ∷ lent_all bytes result
rest_lent bytes first one (Ok more) is ok = ap (λ one. one ∷ map (λ opened. lent bytes opened.attribute) more) is
rest_lent bytes first one (Err fault) is ok = absurd cc

-- one more attribute
pub record Steps (bytes : List ℕ) (at : ℕ) (one : Lent) : Type 0 where
  pub walk : IsWalk bytes (next_place bytes at)
  pub lent_is : lent_from bytes at ≡ one ∷ lent_from bytes (next_place bytes at)

pub walk_steps : (bytes : List ℕ) (at : ℕ) (one : Lent) → IsWalk bytes at → lent_next bytes (header_of bytes).used at ≡ Ok (Some one) → Steps bytes at one
unfolding lent_from
walk_steps bytes at one walk is =
    let next = next_is bytes (used_of bytes) at one is in
    let rest = result_of bytes (attributes_from (used_of bytes) (next_place bytes at)) in
    let goes = walk_goes_on bytes (used_of bytes) at one is in
    let ok : IsOk rest = rest_ok next.found rest (subst (λ (result : Result (List Opened) RecordFault). IsOk result) goes walk.sound) in
    record {
      walk = record { size = walk.size; inside = walk.inside; before = next.behind.inside; sound = ok };
      lent_is = ap (lent_all bytes) goes ∙ rest_lent bytes next.found one rest next.is ok;
    }

pub walk_is_over : (bytes : List ℕ) (at : ℕ) → lent_next bytes (header_of bytes).used at ≡ Ok None → lent_from bytes at ≡ []
unfolding lent_from
walk_is_over bytes at is = ap (lent_all bytes) (walk_ends bytes (used_of bytes) at is)

pub walk_is_sound : (bytes : List ℕ) (at : ℕ) (fault : RecordFault) → IsWalk bytes at → lent_next bytes (header_of bytes).used at ≡ Err fault → ⊥
walk_is_sound bytes at fault walk is =
    let ok : IsOk {T = List Opened} {E = RecordFault} (Err fault) = subst (λ (result : Result (List Opened) RecordFault). IsOk result) (walk_refuses bytes (used_of bytes) at fault is) walk.sound in
    cc

-- ---- the check of a walk

status_rest : (first : Opened) (result : Result (List Opened) RecordFault) → status (with_value (λ more. first ∷ more) result) ≡ status result
status_rest first (Ok more) = refl
status_rest first (Err fault) = refl

pub check_steps : (bytes : List ℕ) (at : ℕ) (one : Lent) → lent_next bytes (header_of bytes).used at ≡ Ok (Some one) → attributes_check_from bytes at ≡ attributes_check_from bytes (next_place bytes at)
check_steps bytes at one is =
    ap status (walk_goes_on bytes (used_of bytes) at one is) ∙ status_rest (next_is bytes (used_of bytes) at one is).found (result_of bytes (attributes_from (used_of bytes) (next_place bytes at)))

pub check_passes : (bytes : List ℕ) (at : ℕ) → lent_next bytes (header_of bytes).used at ≡ Ok None → attributes_check_from bytes at ≡ Ok tt
check_passes bytes at is = ap status (walk_ends bytes (used_of bytes) at is)

pub check_refuses : (bytes : List ℕ) (at : ℕ) (fault : RecordFault) → lent_next bytes (header_of bytes).used at ≡ Err fault → attributes_check_from bytes at ≡ Err fault
check_refuses bytes at fault is = ap status (walk_refuses bytes (used_of bytes) at fault is)
