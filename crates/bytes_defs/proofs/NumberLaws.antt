-- What a number at a place is in a part of the bytes, and what a read of it with `byteorder` gives.
use Rattle.std.specs.Prelude.{◌≡◌, length, ◌-◌, ℕ, zero, suc, ◌+◌, ◌≤◌, List, take, drop, slice_index, refl}
use Rattle.std.proofs.Common.{ap, sym, ◌∙◌, arith}
use Rattle.std.proofs.lemmas.List.{get_or-drop, get_or-take, length-drop}
use Rattle.std.proofs.Math.Seq.{take-length}
use Rattle.std.specs.Int.{Width, cast_signed}
use Rattle.byteorder.specs.Endian.{little_from, big_from, little_number, big_number}
use Rattle.bytes_defs.specs.Bytes.{part}
use Rattle.bytes_defs.specs.Numbers.{with_byte, number_at, bytes_of_width, signed_at}
use Rattle.bytes_defs.specs.declared.order.Order.{Order}
use Rattle.bytes_defs.specs.declared.order.Order.TheVariants.{Little, Big}

-- the number behind the bytes that were dropped
number_at_drop : (order : Order) (from at n : ℕ) (bytes : List ℕ) → number_at order n (drop from bytes) at ≡ number_at order n bytes (from + at)
unfolding number_at
number_at_drop order from at zero bytes = refl
number_at_drop order from at (suc n) bytes =
    let byte = get_or-drop from bytes at 0 in
    let rest = number_at_drop order from (suc at) n bytes in
    let next : from + suc at ≡ suc (from + at) = omega arith in
    rw (byte, rest, next) refl

-- the number in the first bytes
number_at_take : (order : Order) (len at n : ℕ) (bytes : List ℕ) → at + n ≤ len → number_at order n (take len bytes) at ≡ number_at order n bytes at
unfolding number_at
number_at_take order len at zero bytes fits = refl
number_at_take order len at (suc n) bytes fits =
    let byte = get_or-take len bytes at 0 (omega arith) in
    let rest = number_at_take order len (suc at) n bytes (omega arith) in
    rw (byte, rest) refl

-- a number inside a part of the bytes stands at that place of them all
pub number_at_part : (order : Order) (n : ℕ) (bytes : List ℕ) (at len i : ℕ) → i + n ≤ len → number_at order n (part bytes at len) i ≡ number_at order n bytes (at + i)
unfolding part
number_at_part order n bytes at len i fits = number_at_take order len i n (drop at bytes) fits ∙ number_at_drop order at i n bytes

-- a number that is all of a part
pub number_at_own : (order : Order) (n : ℕ) (bytes : List ℕ) (at : ℕ) → number_at order n (part bytes at n) 0 ≡ number_at order n bytes at
number_at_own order n bytes at =
    let place : at + 0 ≡ at = omega arith in
    number_at_part order n bytes at n 0 (omega arith) ∙ ap (number_at order n bytes) place

pub signed_at_own : (order : Order) (width : Width) (bytes : List ℕ) (at : ℕ) → signed_at order width (part bytes at (bytes_of_width width)) 0 ≡ signed_at order width bytes at
unfolding signed_at
signed_at_own order width bytes at = ap (cast_signed width) (number_at_own order (bytes_of_width width) bytes at)

-- the signed number is the reading of the number at its place
pub signed_at_number : (order : Order) (width : Width) (bytes : List ℕ) (at : ℕ) → signed_at order width bytes at ≡ cast_signed width (number_at order (bytes_of_width width) bytes at)
unfolding signed_at
signed_at_number order width bytes at = refl

-- the number at a place in the words of `byteorder`
little_at_from : (n : ℕ) (bytes : List ℕ) (at : ℕ) → number_at Little n bytes at ≡ little_from at n bytes
unfolding number_at
little_at_from zero bytes at = refl
little_at_from (suc n) bytes at = ap (with_byte Little n (slice_index bytes at)) (little_at_from n bytes (suc at))

big_at_from : (n : ℕ) (bytes : List ℕ) (at : ℕ) → number_at Big n bytes at ≡ big_from at n bytes
unfolding number_at
big_at_from zero bytes at = refl
big_at_from (suc n) bytes at = ap (with_byte Big n (slice_index bytes at)) (big_at_from n bytes (suc at))

-- the number at the start of the slice from a place on
number_at_slice : (order : Order) (n : ℕ) (bytes : List ℕ) (at : ℕ) → number_at order n bytes at ≡ number_at order n (take (length bytes - at) (drop at bytes)) 0
number_at_slice order n bytes at =
    let whole : take (length bytes - at) (drop at bytes) ≡ drop at bytes =
    ap (λ len. take len (drop at bytes)) (sym (length-drop at bytes)) ∙ take-length (drop at bytes) in
    let place : at + 0 ≡ at = omega arith in
    sym (ap (λ slice. number_at order n slice 0) whole ∙ number_at_drop order at 0 n bytes ∙ ap (number_at order n bytes) place)

-- what a read of that slice gives
pub little_at_slice : (n : ℕ) (bytes : List ℕ) (at : ℕ) → number_at Little n bytes at ≡ little_number n (take (length bytes - at) (drop at bytes))
little_at_slice n bytes at = number_at_slice Little n bytes at ∙ little_at_from n (take (length bytes - at) (drop at bytes)) 0

pub big_at_slice : (n : ℕ) (bytes : List ℕ) (at : ℕ) → number_at Big n bytes at ≡ big_number n (take (length bytes - at) (drop at bytes))
big_at_slice n bytes at = number_at_slice Big n bytes at ∙ big_at_from n (take (length bytes - at) (drop at bytes)) 0

-- the laws by which a function that reads a field of a part that has no other bytes proves
pub ruleset own_fields = (number_at_own, signed_at_own)

-- the laws by which a function that reads a field with `byteorder` proves
pub ruleset field_reads = (little_at_slice, big_at_slice, signed_at_number)
