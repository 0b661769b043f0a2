-- Stride ends that are filled one after the other.
use Rattle.std.proofs.Common.{◌≡◌, ℕ, ◌+◌, ◌-◌, ◌*◌, ◌/◌, ◌%◌, ◌<◌, ◌≤◌, true, false, List, length, get_or, arith, ap, sym, ◌∙◌, ⊎_elim, inl, refl}
use Rattle.std.specs.Prelude.{◌⊎◌, nat_lt}
use Rattle.std.proofs.lemmas.Bool.{cases_lt, lt-ltb, le-ltb}
use Rattle.std.proofs.lemmas.List.{ext_get_or}
use Rattle.image_defs.proofs.ViaLaws.{length_seen, seen_at}
use Rattle.ntfs_record.specs.Mending.{filling_place, filling_at, filled}

pub filling_kept : (from step i : ℕ) → i % 512 < 510 → filling_place from step i ≡ i
unfolding filling_place
filling_kept from step i front = let test : nat_lt (i % 512) 510 ≡ true = lt-ltb (i % 512) 510 front in rw test refl

pub filling_moved : (from step i : ℕ) → 510 ≤ i % 512 → filling_place from step i ≡ from + step * (i / 512) + (i % 512 - 510)
unfolding filling_place
filling_moved from step i last = let test : nat_lt (i % 512) 510 ≡ false = le-ltb (i % 512) 510 last in rw test refl

-- a byte behind the filling
pub filled_at : (from step : ℕ) (bytes : List ℕ) (i : ℕ) → i < length bytes → get_or (filled from step bytes) i 0 ≡ get_or bytes (filling_place from step i) 0
filled_at from step bytes i inside =
    let here : 0 + i ≡ i = omega arith in
    seen_at bytes (filling_at from step) 0 (length bytes) i inside ∙ ap (λ at. get_or bytes (filling_place from step at) 0) here

-- the ends of so many strides are filled
pub record AreFilled (old bytes : List ℕ) (from step strides : ℕ) : Type 0 where
  pub same_length : length bytes ≡ length old
  pub kept : (i : ℕ) → (i % 512 < 510) ⊎ (strides ≤ i / 512) → get_or bytes i 0 ≡ get_or old i 0
  pub done : (i : ℕ) → 510 ≤ i % 512 → i / 512 < strides → get_or bytes i 0 ≡ get_or old (from + step * (i / 512) + (i % 512 - 510)) 0

pub all_filled : (old bytes : List ℕ) (from step : ℕ) → length old % 512 ≡ 0 → AreFilled old bytes from step (length old / 512) → bytes ≡ filled from step old
all_filled old bytes from step whole are =
    ext_get_or 0 bytes (filled from step old) (are.same_length ∙ sym (length_seen old (filling_at from step) 0 (length old)))
    (λ i below.
    let inside : i < length old = omega (arith, below, are.same_length) in
    ⊎_elim
    (λ early. are.kept i (inl early) ∙ ap (λ at. get_or old at 0) (sym (filling_kept from step i early)) ∙ sym (filled_at from step old i inside))
    (λ last.
    are.done i last (omega (arith, inside, whole)) ∙ ap (λ at. get_or old at 0) (sym (filling_moved from step i last)) ∙ sym (filled_at from step old i inside))
    (cases_lt (i % 512) 510))
