-- Numbers that stand in a list of bytes: what is read where one was written, and what was written where one is read.
use Rattle.std.specs.Prelude.{◌≡◌, ℕ, zero, suc, ◌+◌, ◌-◌, ◌*◌, ◌/◌, ◌%◌, ◌^◌, ◌<◌, ◌≤◌, All, List, [], ◌∷◌, ◌++◌, length, take, drop, slice_index, refl}
use Rattle.std.proofs.Common.{ap, sym, subst, ◌∙◌, arith, inl, inr}
use Rattle.std.proofs.lemmas.Bool.{cases_lt}
use Rattle.std.proofs.lemmas.List.Elements.{All-drop, All-take}
use Rattle.std.proofs.Math.Nat.{div-div-eq-div-mul, pow-succ'}
use Rattle.std.proofs.lemmas.List.{append-nil, drop_at, drop-drop, drop_more, get_or-drop, get_or_past, length-drop, length-take-le, take-append-drop, take_all, take_at}
use Rattle.std.specs.Int.{byte_at, bytes_low_first}
use Rattle.byteorder.specs.Endian.{little_bytes, little_number}
use Rattle.byteorder.specs.Numbers.{length-bytes_low_first, little_from-lt, little_number-reads_back}
use Rattle.bytes_defs.specs.Bytes.{part}
use Rattle.bytes_defs.specs.Numbers.{number_at}
use Rattle.bytes_defs.specs.declared.order.Order.TheVariants.{Little}
use Rattle.bytes_defs.proofs.NumberLaws.{number_at_own, little_at_slice}
use Rattle.journal_defs.specs.Form.{little}

-- each item is a byte
abbrev pub AreBytes : List ℕ → Type 0
AreBytes bytes = All (λ byte. byte < 256) bytes

pub length_little : (n number : ℕ) → length (little n number) ≡ n
unfolding little
length_little n number = length-bytes_low_first 0 n number

-- ---- what is read where a number was written

number_at_start : (n : ℕ) (bytes : List ℕ) → number_at Little n bytes 0 ≡ little_number n bytes
number_at_start n bytes = little_at_slice n bytes 0 ∙ ap (little_number n) (take_all (length bytes - 0) bytes (omega arith))

number_of_little : (n number : ℕ) → number < 256 ^ n → number_at Little n (little n number) 0 ≡ number
unfolding little
number_of_little n number fits =
    number_at_start n (little_bytes n number) ∙ ap (little_number n) (sym (append-nil (little_bytes n number))) ∙ little_number-reads_back n number [] fits

-- what stands behind what is at a place
pub behind : (bytes front rest : List ℕ) (at : ℕ) → drop at bytes ≡ front ++ rest → drop (at + length front) bytes ≡ rest
behind bytes front rest at stands = sym (drop-drop (length front) at bytes) ∙ ap (drop (length front)) stands ∙ drop_at front rest (length front) refl

-- the part at a place
pub part_is : (bytes front rest : List ℕ) (at : ℕ) → drop at bytes ≡ front ++ rest → part bytes at (length front) ≡ front
unfolding part
part_is bytes front rest at stands = ap (take (length front)) stands ∙ take_at front rest (length front) refl

pub number_reads : (bytes rest : List ℕ) (at n number : ℕ) → number < 256 ^ n → drop at bytes ≡ little n number ++ rest → number_at Little n bytes at ≡ number
number_reads bytes rest at n number fits stands =
    let here : part bytes at n ≡ little n number = ap (part bytes at) (sym (length_little n number)) ∙ part_is bytes (little n number) rest at stands in
    sym (number_at_own Little n bytes at) ∙ ap (λ front. number_at Little n front 0) here ∙ number_of_little n number fits

pub number_behind : (bytes rest : List ℕ) (at n number : ℕ) → drop at bytes ≡ little n number ++ rest → drop (at + n) bytes ≡ rest
number_behind bytes rest at n number stands = ap (λ len. drop (at + len) bytes) (sym (length_little n number)) ∙ behind bytes (little n number) rest at stands

-- a byte that stands at a place, and what stands behind it
pub byte_reads : (bytes rest : List ℕ) (at byte : ℕ) → drop at bytes ≡ byte ∷ rest → slice_index bytes at ≡ byte
byte_reads bytes rest at byte stands =
    let place : at + 0 ≡ at = omega arith in
    ap (slice_index bytes) (sym place) ∙ sym (get_or-drop at bytes 0 0) ∙ ap (λ list. slice_index list 0) stands

pub byte_behind : (bytes rest : List ℕ) (at byte : ℕ) → drop at bytes ≡ byte ∷ rest → drop (at + 1) bytes ≡ rest
byte_behind bytes rest at byte stands = behind bytes (byte ∷ []) rest at stands

-- the same place in other words
pub stands_at : (bytes : List ℕ) (at place : ℕ) (rest : List ℕ) → at ≡ place → drop at bytes ≡ rest → drop place bytes ≡ rest
stands_at bytes at place rest same stands = ap (λ at. drop at bytes) (sym same) ∙ stands

-- ---- what was written where a number is read

-- the bytes of a number from the second on are those of what is left of it
byte_shifted : (i number : ℕ) → byte_at (suc i) number ≡ byte_at i (number / 256)
byte_shifted zero number = refl
byte_shifted (suc i) number = ap (λ power. number / power % 256) (pow-succ' 256 (suc i)) ∙ ap (λ left. left % 256) (sym (div-div-eq-div-mul number 256 (256 ^ suc i)))

bytes_shifted : (i n number : ℕ) → bytes_low_first (suc i) n number ≡ bytes_low_first i n (number / 256)
bytes_shifted i zero number = refl
bytes_shifted i (suc n) number =
    let byte = byte_shifted i number in
    let rest = bytes_shifted (suc i) n number in
    cc

little_of_number : (n : ℕ) (bytes : List ℕ) (at : ℕ) → AreBytes bytes → at + n ≤ length bytes → little n (number_at Little n bytes at) ≡ take n (drop at bytes)
unfolding little number_at
little_of_number zero bytes at fit long = refl
little_of_number (suc n) bytes at fit long =
    let byte : slice_index bytes at < 256 = fit at 0 (omega arith) in
    let rest = number_at Little n bytes (suc at) in
    let low : (slice_index bytes at + 256 * rest) % 256 ≡ slice_index bytes at = omega arith in
    let high : (slice_index bytes at + 256 * rest) / 256 ≡ rest = omega arith in
    let next : at + 1 ≡ suc at = omega arith in
    let here : drop at bytes ≡ slice_index bytes at ∷ drop (suc at) bytes = drop_more bytes at 0 (omega arith) ∙ ap (λ place. slice_index bytes at ∷ drop place bytes) next in
    let shifted : bytes_low_first 1 n (slice_index bytes at + 256 * rest) ≡ take n (drop (suc at) bytes) =
    bytes_shifted 0 n (slice_index bytes at + 256 * rest) ∙ ap (bytes_low_first 0 n) high ∙ little_of_number n bytes (suc at) fit (omega arith) in
    rw here (ap (λ byte. byte ∷ bytes_low_first 1 n (slice_index bytes at + 256 * rest)) low ∙ ap (λ tail. slice_index bytes at ∷ tail) shifted)

pub number_written : (bytes : List ℕ) (at n : ℕ) → AreBytes bytes → at + n ≤ length bytes → drop at bytes ≡ little n (number_at Little n bytes at) ++ drop (at + n) bytes
number_written bytes at n fit long =
    sym (take-append-drop n (drop at bytes)) ∙ ap (λ front. front ++ drop n (drop at bytes)) (sym (little_of_number n bytes at fit long))
    ∙ ap (λ rest. little n (number_at Little n bytes at) ++ rest) (drop-drop n at bytes)

pub part_written : (bytes : List ℕ) (at n : ℕ) → drop at bytes ≡ part bytes at n ++ drop (at + n) bytes
unfolding part
part_written bytes at n = sym (take-append-drop n (drop at bytes)) ∙ ap (λ rest. take n (drop at bytes) ++ rest) (drop-drop n at bytes)

pub byte_written : (bytes : List ℕ) (at : ℕ) → at < length bytes → drop at bytes ≡ slice_index bytes at ∷ drop (at + 1) bytes
byte_written bytes at long = drop_more bytes at 0 long

-- ---- lengths and bounds

pub length_part : (bytes : List ℕ) (at n : ℕ) → at + n ≤ length bytes → length (part bytes at n) ≡ n
unfolding part
length_part bytes at n long = length-take-le n (drop at bytes) (omega (arith, length-drop at bytes))

-- each place of a list of bytes has a byte, also one behind its end
pub byte_fits : (bytes : List ℕ) (at : ℕ) → AreBytes bytes → slice_index bytes at < 256
byte_fits bytes at fit = elim (cases_lt at (length bytes)) [
  | inl inside ↦ fit at 0 inside
  | inr past ↦
      let none : slice_index bytes at ≡ 0 = get_or_past bytes at 0 past in
      omega (arith, none)
]

pub number_fits : (bytes : List ℕ) (at n : ℕ) → AreBytes bytes → number_at Little n bytes at < 256 ^ n
number_fits bytes at n fit =
    let slice = take (length bytes - at) (drop at bytes) in
    let slice_fits : AreBytes slice = All-take (λ byte. byte < 256) (length bytes - at) (drop at bytes) (All-drop (λ byte. byte < 256) at bytes fit) in
    let Below : ℕ → Type 0 = λ number. number < 256 ^ n in
    subst Below (sym (little_at_slice n bytes at)) (little_from-lt 0 n slice (λ k. byte_fits slice k slice_fits))
