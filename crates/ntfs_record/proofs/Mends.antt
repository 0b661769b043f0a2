-- A record that passes its checks, its true bytes in place.
use Rattle.std.proofs.Common.{◌≡◌, ℕ, zero, suc, ◌+◌, ◌-◌, ◌*◌, ◌/◌, ◌%◌, ◌<◌, ◌≤◌, Bool, true, false, List, [], ◌∷◌, length, take, drop, get_or, Result, Ok, Err, arith, lit≤, ap, sym, ◌∙◌, subst, ⊎_elim, refl}
use Rattle.std.specs.Prelude.{◌&&◌, ◌==◌, nat_le, IsOk, if◌then◌else◌}
use Rattle.std.proofs.lemmas.Bool.{and_parts, leb-true, cases_lt, cases_Bool}
use Rattle.std.proofs.lemmas.List.{ext_get_or, get_or-take, get_or-drop}
use Rattle.std.proofs.lemmas.Slice.Eq.{bytes_eq-Decides}
use Rattle.std.specs.Str.{bytes_eq}
use Rattle.bytes_defs.specs.Bytes.{part}
use Rattle.image_defs.specs.Ask.{Ask, result_of, each, check, ◌>>◌}
use Rattle.image_defs.specs.Results.{with_value}
use Rattle.image_defs.proofs.Results.{result_next, result_bind, result_bind_done}
use Rattle.image_defs.proofs.ViaLaws.{result_via, seen_at, length_seen}
use Rattle.ntfs_record_defs.specs.declared.fault.RecordFault.{RecordFault}
use Rattle.ntfs_record_defs.specs.declared.fault.RecordFault.TheVariants.{NotFile, BadFixup, BadField}
use Rattle.ntfs_record_defs.specs.Stored.{stored_place, stored_at, entries, array_end, is_array, count_from, ends_with}
use Rattle.ntfs_record_defs.proofs.StoredLaws.{kept, replaced}
use Rattle.ntfs_record_defs.specs.Attributes.{attributes_from}
use Rattle.ntfs_record_defs.specs.Record.{Header, header_of, is_file, is_used_size, stored_attributes, record_within, record_behind, record_of}
use Rattle.ntfs_record_defs.proofs.LentLaws.{header_front, header_mended}
use Rattle.ntfs_record_defs.specs.Lent.{IsRecordSize, IsMended, mended}
use Rattle.ntfs_record.specs.Mending.{status, and_check, header_check, ends_check, ends_check_from, sizes_check, attributes_check, stored_check, record_check, filling_place, filling_at, filled}
use Rattle.ntfs_record.proofs.Filling.{filling_kept, filling_moved, filled_at}
use Rattle.ntfs_record.proofs.Strides.{is_end, end_passes, end_refuses}

-- ---- the header

take_front : (n m : ℕ) (bytes : List ℕ) → n ≤ m → take n (take m bytes) ≡ take n bytes
take_front zero m bytes within = refl
take_front (suc n) zero bytes within = absurd (omega (arith, within))
take_front (suc n) (suc m) [] within = refl
take_front (suc n) (suc m) (byte ∷ bytes) within = ap (λ rest. byte ∷ rest) (take_front n m bytes (omega (arith, within)))

file_front : (bytes : List ℕ) → is_file (part bytes 0 42) ≡ is_file bytes
unfolding part
file_front bytes = ap (λ front. bytes_eq front (70 ∷ 73 ∷ 76 ∷ 69 ∷ [])) (take_front 4 42 bytes (lit≤ tt))

-- ---- the checks of a record

module _ {X : Type 0} (bytes : List ℕ) where
  behind_test : (test : Bool) (fault : RecordFault) (next : Ask RecordFault X) → status (result_of bytes (check test fault >> next)) ≡ (if test then status (result_of bytes next) else Err fault)
  behind_test true fault next = refl
  behind_test false fault next = refl

  behind_all : (Y : Type 0) (first : Ask RecordFault Y) (next : Ask RecordFault X) → status (result_of bytes (first >> next)) ≡ and_check (status (result_of bytes first)) (status (result_of bytes next))
  behind_all Y first next = ap status (result_bind bytes first (λ x. next)) ∙ by_result (result_of bytes first)
    where
      by_result : (result : Result Y RecordFault) → status (result_next bytes result (λ x. next)) ≡ and_check (status result) (status (result_of bytes next))
      by_result (Ok x) = refl
      by_result (Err fault) = refl

-- the checks, nested as the program has them and one behind the other
nested : (file count array first used : Bool) (ends attributes : Result (Unit {0}) RecordFault)
    → (if file
    then (if count then (if array then and_check ends (if first then (if used then attributes else Err (BadField 24)) else Err (BadField 20)) else Err (BadField 4)) else Err (BadField 6))
    else Err NotFile)
    ≡ and_check (and_check (if file then (if count then (if array then Ok tt else Err (BadField 4)) else Err (BadField 6)) else Err NotFile)
    (and_check ends (if first then (if used then Ok tt else Err (BadField 24)) else Err (BadField 20)))) attributes
nested false count array first used ends attributes = refl
nested true false array first used ends attributes = refl
nested true true false first used ends attributes = refl
nested true true true first used (Err fault) attributes = refl
nested true true true false used (Ok passed) attributes = refl
nested true true true true false (Ok passed) attributes = refl
nested true true true true true (Ok passed) attributes = refl

status_change : {X Y : Type 0} (change : X → Y) (result : Result X RecordFault) → status (with_value change result) ≡ status result
status_change change (Ok x) = refl
status_change change (Err fault) = refl

attributes_checked : (bytes : List ℕ) → 42 ≤ length bytes → status (result_of bytes (stored_attributes (length bytes) (header_of bytes))) ≡ attributes_check (mended bytes)
attributes_checked bytes long =
    ap status (result_via bytes (stored_at (header_of bytes).array) (length bytes) (attributes_from (header_of bytes).used (header_of bytes).first))
    ∙ ap (λ (header : Header). status (result_of (mended bytes) (attributes_from header.used header.first))) (sym (header_mended bytes long))

behind_checked : (bytes : List ℕ) → 42 ≤ length bytes
    → status (result_of bytes (record_behind (length bytes) (header_of bytes)))
    ≡ (if (header_of bytes).count == entries (length bytes)
    then (if is_array (length bytes) (header_of bytes).array
    then and_check (ends_check bytes)
    (if nat_le (array_end (length bytes) (header_of bytes).array) (header_of bytes).first
    then (if is_used_size (length bytes) (header_of bytes) then attributes_check (mended bytes) else Err (BadField 24))
    else Err (BadField 20))
    else Err (BadField 4))
    else Err (BadField 6))
unfolding record_behind
behind_checked bytes long =
    let size = length bytes in
    let header = header_of bytes in
    let all : size / 512 - 0 ≡ size / 512 = omega arith in
    let ends = each (ends_with (part bytes header.array 2)) (count_from 0 (size / 512)) in
    let found =
    ap status (result_bind_done bytes (stored_attributes size header) (λ attributes. record { header = header; attributes = attributes }))
    ∙ status_change (λ attributes. record { header = header; attributes = attributes }) (result_of bytes (stored_attributes size header))
    ∙ attributes_checked bytes long in
    behind_test bytes (header.count == entries size) (BadField 6) _
    ∙ ap (λ (rest : Result (Unit {0}) RecordFault). if header.count == entries size then rest else Err (BadField 6))
    (behind_test bytes (is_array size header.array) (BadField 4) _
    ∙ ap (λ (rest : Result (Unit {0}) RecordFault). if is_array size header.array then rest else Err (BadField 4))
    (behind_all bytes (List (Unit {0})) ends (record_within size header)
    ∙ ap (λ n. and_check (status (result_of bytes (each (ends_with (part bytes header.array 2)) (count_from 0 n)))) (status (result_of bytes (record_within size header)))) (sym all)
    ∙ ap (and_check (ends_check bytes))
    (behind_test bytes (nat_le (array_end size header.array) header.first) (BadField 20) _
    ∙ ap (λ (rest : Result (Unit {0}) RecordFault). if nat_le (array_end size header.array) header.first then rest else Err (BadField 20))
    (behind_test bytes (is_used_size size header) (BadField 24) _
    ∙ ap (λ (rest : Result (Unit {0}) RecordFault). if is_used_size size header then rest else Err (BadField 24)) found))))

pub record_checks : (bytes : List ℕ) → 42 ≤ length bytes → record_check bytes ≡ and_check (stored_check bytes) (attributes_check (mended bytes))
unfolding record_of
record_checks bytes long =
    behind_test bytes (is_file (part bytes 0 42)) NotFile (record_behind (length bytes) (header_of (part bytes 0 42)))
    ∙ ap (λ header. if is_file (part bytes 0 42) then status (result_of bytes (record_behind (length bytes) header)) else Err NotFile) (header_front bytes)
    ∙ ap (λ (test : Bool). if test then status (result_of bytes (record_behind (length bytes) (header_of bytes))) else Err NotFile) (file_front bytes)
    ∙ ap (λ (rest : Result (Unit {0}) RecordFault). if is_file bytes then rest else Err NotFile) (behind_checked bytes long)
    ∙ nested (is_file bytes) ((header_of bytes).count == entries (length bytes)) (is_array (length bytes) (header_of bytes).array)
    (nat_le (array_end (length bytes) (header_of bytes).array) (header_of bytes).first) (is_used_size (length bytes) (header_of bytes)) (ends_check bytes) (attributes_check (mended bytes))

-- ---- what holds of a record that passed them

abbrev passed : Result (Unit {0}) RecordFault
passed = Ok tt

pub record IsStored (bytes : List ℕ) : Type 0 where
  pub array : is_array (length bytes) (header_of bytes).array ≡ true
  pub ends : ends_check bytes ≡ Ok tt
  pub first : array_end (length bytes) (header_of bytes).array ≤ (header_of bytes).first
  pub used : is_used_size (length bytes) (header_of bytes) ≡ true

pub header_passes : (bytes : List ℕ) → header_check bytes ≡ Ok tt → is_array (length bytes) (header_of bytes).array ≡ true
header_passes bytes passes = by_tests (is_file bytes) ((header_of bytes).count == entries (length bytes)) (is_array (length bytes) (header_of bytes).array) passes
  where
    by_tests : (file count array : Bool) → (if file then (if count then (if array then passed else Err (BadField 4)) else Err (BadField 6)) else Err NotFile) ≡ passed → array ≡ true
    by_tests false count array is = absurd cc
    by_tests true false array is = absurd cc
    by_tests true true false is = absurd cc
    by_tests true true true is = refl

sizes_pass : (bytes : List ℕ) → sizes_check bytes ≡ Ok tt
    → (nat_le (array_end (length bytes) (header_of bytes).array) (header_of bytes).first ≡ true) × (is_used_size (length bytes) (header_of bytes) ≡ true)
sizes_pass bytes passes = by_tests (nat_le (array_end (length bytes) (header_of bytes).array) (header_of bytes).first) (is_used_size (length bytes) (header_of bytes)) passes
  where
    by_tests : (first used : Bool) → (if first then (if used then passed else Err (BadField 24)) else Err (BadField 20)) ≡ passed → (first ≡ true) × (used ≡ true)
    by_tests false used is = absurd cc
    by_tests true false is = absurd cc
    by_tests true true is = (refl, refl)

both_pass : (first next : Result (Unit {0}) RecordFault) → and_check first next ≡ passed → (first ≡ Ok tt) × (next ≡ Ok tt)
both_pass (Ok passed) next is = (refl, is)
both_pass (Err fault) next is = absurd cc

pub stored_passes : (bytes : List ℕ) → stored_check bytes ≡ Ok tt → IsStored bytes
stored_passes bytes passes =
    let header = both_pass (header_check bytes) (and_check (ends_check bytes) (sizes_check bytes)) passes in
    let rest = both_pass (ends_check bytes) (sizes_check bytes) header.1 in
    let sizes = sizes_pass bytes rest.1 in
    record {
      array = header_passes bytes header.0;
      ends = rest.0;
      first = leb-true _ _ sizes.0;
      used = sizes.1;
    }

pub array_bounds : (size array : ℕ) → is_array size array ≡ true → (42 ≤ array) × (array + 2 * (size / 512 + 1) ≤ 510)
array_bounds size array is =
    let placed = and_parts (nat_le 42 array) (array % 2 == 0 && nat_le (array_end size array) 510) is in
    let ends = and_parts (array % 2 == 0) (nat_le (array_end size array) 510) placed.1 in
    (leb-true _ _ placed.0, leb-true _ _ ends.1)

-- the check number stands in front of the first bytes that are replaced
pub array_in_front : (bytes : List ℕ) → header_check bytes ≡ Ok tt → (header_of bytes).array + 2 ≤ 510
array_in_front bytes passes = let bounds = array_bounds (length bytes) (header_of bytes).array (header_passes bytes passes) in omega (arith, bounds.1)

-- ---- the true bytes in place, and the check number back again

same_filling : (array i : ℕ) → filling_place (array + 2) 2 i ≡ stored_place array i
same_filling array i =
    ⊎_elim
    (λ early. filling_kept (array + 2) 2 i early ∙ sym (kept array i early))
    (λ last. filling_moved (array + 2) 2 i last ∙ omega arith ∙ sym (replaced array i last))
    (cases_lt (i % 512) 510)

pub mended_at : (bytes : List ℕ) (i : ℕ) → i < length bytes → get_or (mended bytes) i 0 ≡ get_or bytes (stored_place (header_of bytes).array i) 0
mended_at bytes i inside =
    let here : 0 + i ≡ i = omega arith in
    seen_at bytes (stored_at (header_of bytes).array) 0 (length bytes) i inside ∙ ap (λ at. get_or bytes (stored_place (header_of bytes).array at) 0) here

pub length_mended : (bytes : List ℕ) → length (mended bytes) ≡ length bytes
length_mended bytes = length_seen bytes (stored_at (header_of bytes).array) 0 (length bytes)

pub filled_mends : (bytes : List ℕ) → filled ((header_of bytes).array + 2) 2 bytes ≡ mended bytes
filled_mends bytes =
    ext_get_or 0 (filled ((header_of bytes).array + 2) 2 bytes) (mended bytes) (length_seen bytes (filling_at ((header_of bytes).array + 2) 2) 0 (length bytes) ∙ sym (length_mended bytes))
    (λ i below.
    let inside : i < length bytes = omega (arith, below, length_seen bytes (filling_at ((header_of bytes).array + 2) 2) 0 (length bytes)) in
    filled_at ((header_of bytes).array + 2) 2 bytes i inside ∙ ap (λ at. get_or bytes at 0) (same_filling (header_of bytes).array i) ∙ sym (mended_at bytes i inside))

no_fault : (fault : RecordFault) → (let given : Result (Unit {0}) RecordFault = Err fault in given ≡ Ok tt) → ⊥
no_fault fault is = cc

ends_hold : (bytes : List ℕ) (left stride : ℕ) → stride + left ≡ length bytes / 512 → ends_check_from bytes stride ≡ Ok tt → (s : ℕ) → stride ≤ s → s < length bytes / 512 → is_end bytes s ≡ true
ends_hold bytes zero stride all passes s from below = absurd (omega (arith, all, from, below))
ends_hold bytes (suc left) stride all passes s from below =
    let here : stride < length bytes / 512 = omega (arith, all) in
    ⊎_elim
    (λ right.
    ⊎_elim
    (λ later. ends_hold bytes left (stride + 1) (omega (arith, all)) (sym (end_passes bytes stride here right) ∙ passes) s (omega (arith, later)) below)
    (λ own. let same : stride ≡ s = omega (arith, own, from) in sym (ap (is_end bytes) same) ∙ right)
    (cases_lt stride s))
    (λ wrong. absurd (no_fault (BadFixup stride) (sym (end_refuses bytes stride here wrong) ∙ passes)))
    (cases_Bool (is_end bytes stride))

part_at : (bytes : List ℕ) (at k : ℕ) → k < 2 → get_or (part bytes at 2) k 0 ≡ get_or bytes (at + k) 0
unfolding part
part_at bytes at k below = get_or-take 2 (drop at bytes) k 0 below ∙ get_or-drop at bytes k 0

end_bytes : (bytes : List ℕ) (stride k : ℕ) → k < 2 → is_end bytes stride ≡ true → get_or bytes (512 * stride + 510 + k) 0 ≡ get_or bytes ((header_of bytes).array + k) 0
end_bytes bytes stride k below is =
    let same : part bytes (512 * stride + 510) 2 ≡ part bytes (header_of bytes).array 2 = (bytes_eq-Decides (part bytes (512 * stride + 510) 2) (part bytes (header_of bytes).array 2)).0 is in
    sym (part_at bytes (512 * stride + 510) k below) ∙ ap (λ bytes. get_or bytes k 0) same ∙ part_at bytes (header_of bytes).array k below

pub restored : (bytes : List ℕ) → length bytes % 512 ≡ 0 → IsStored bytes → filled (header_of bytes).array 0 (mended bytes) ≡ bytes
restored bytes whole stored =
    let array = (header_of bytes).array in
    let bounds = array_bounds (length bytes) array stored.array in
    let long = length_mended bytes in
    ext_get_or 0 (filled array 0 (mended bytes)) bytes (length_seen (mended bytes) (filling_at (header_of bytes).array 0) 0 (length (mended bytes)) ∙ long)
    (λ i below.
    let inside : i < length bytes = omega (arith, below, length_seen (mended bytes) (filling_at (header_of bytes).array 0) 0 (length (mended bytes)), long) in
    filled_at array 0 (mended bytes) i (omega (arith, inside, long))
    ∙ ⊎_elim
    (λ early. ap (λ at. get_or (mended bytes) at 0) (filling_kept array 0 i early) ∙ mended_at bytes i inside ∙ ap (λ at. get_or bytes at 0) (kept array i early))
    (λ last.
    let stride : i / 512 < length bytes / 512 = omega (arith, inside, whole) in
    let front : array + (i % 512 - 510) < 510 = omega (arith, bounds.1, stride) in
    let at : array + 0 * (i / 512) + (i % 512 - 510) ≡ array + (i % 512 - 510) = omega arith in
    let end : 512 * (i / 512) + 510 + (i % 512 - 510) ≡ i = omega (arith, last) in
    ap (λ at. get_or (mended bytes) at 0) (filling_moved array 0 i last ∙ at)
    ∙ mended_at bytes (array + (i % 512 - 510)) (omega (arith, front, stride))
    ∙ ap (λ at. get_or bytes at 0) (kept array (array + (i % 512 - 510)) (omega (arith, front)))
    ∙ sym (end_bytes bytes (i / 512) (i % 512 - 510) (omega arith) (ends_hold bytes (length bytes / 512) 0 (omega arith) stored.ends (i / 512) (omega arith) stride))
    ∙ ap (λ at. get_or bytes at 0) end)
    (cases_lt (i % 512) 510))

-- ---- the record that is mended

status_ok : {X : Type 0} (result : Result X RecordFault) → status result ≡ Ok tt → IsOk result
status_ok (Ok x) is = refl
status_ok (Err fault) is = absurd (no_fault fault is)

pub size_bounds : (size : ℕ) → IsRecordSize size → (1024 ≤ size) × (size % 512 ≡ 0)
size_bounds size is = ⊎_elim (λ small. (omega (arith, small), omega (arith, small))) (λ large. (omega (arith, large), omega (arith, large))) is

pub mended_is : (bytes : List ℕ) → IsRecordSize (length bytes) → IsStored bytes → attributes_check (mended bytes) ≡ Ok tt → IsMended (mended bytes)
mended_is bytes size stored attributes =
    let bounds = size_bounds (length bytes) size in
    let header = header_mended bytes (omega (arith, bounds.0)) in
    let long = sym (length_mended bytes) in
    record {
      size = subst IsRecordSize long size;
      array = ap (λ (header : Header). is_array (length (mended bytes)) header.array) header ∙ ap (λ n. is_array n (header_of bytes).array) (sym long) ∙ stored.array;
      used = ap (is_used_size (length (mended bytes))) header ∙ ap (λ n. is_used_size n (header_of bytes)) (sym long) ∙ stored.used;
      sound = status_ok (result_of (mended bytes) (attributes_from (header_of (mended bytes)).used (header_of (mended bytes)).first)) attributes;
    }

-- ---- what all checks say together

pub stored_refuses : (bytes : List ℕ) (fault : RecordFault) → 42 ≤ length bytes → stored_check bytes ≡ Err fault → record_check bytes ≡ Err fault
stored_refuses bytes fault long is = record_checks bytes long ∙ ap (λ first. and_check first (attributes_check (mended bytes))) is

pub stored_goes_on : (bytes : List ℕ) → 42 ≤ length bytes → stored_check bytes ≡ passed → record_check bytes ≡ attributes_check (mended bytes)
stored_goes_on bytes long is = record_checks bytes long ∙ ap (λ first. and_check first (attributes_check (mended bytes))) is

-- ---- the steps of mending

pub long_record : (bytes : List ℕ) → IsRecordSize (length bytes) → 1024 ≤ length bytes
long_record bytes size = (size_bounds (length bytes) size).0

pub whole_strides : (bytes : List ℕ) → IsRecordSize (length bytes) → length bytes % 512 ≡ 0
whole_strides bytes size = (size_bounds (length bytes) size).1

-- two bytes stand in front of the first end, for each end
pub entries_in_front : (bytes : List ℕ) → stored_check bytes ≡ passed → (stride : ℕ) → stride < length bytes / 512 → (header_of bytes).array + 2 + 2 * stride + 2 ≤ 510
entries_in_front bytes stored stride below =
    let bounds = array_bounds (length bytes) (header_of bytes).array (stored_passes bytes stored).array in omega (arith, below, bounds.1)

header_now : (bytes now : List ℕ) → IsRecordSize (length bytes) → stored_check bytes ≡ passed → now ≡ mended bytes → header_of now ≡ header_of bytes
header_now bytes now size stored now_is = ap header_of now_is ∙ header_mended bytes (omega (arith, (size_bounds (length bytes) size).0))

pub size_now : (bytes now : List ℕ) → IsRecordSize (length bytes) → stored_check bytes ≡ passed → now ≡ mended bytes → IsRecordSize (length now)
size_now bytes now size stored now_is = subst IsRecordSize (sym (length_mended bytes) ∙ ap length (sym now_is)) size

pub array_now : (bytes now : List ℕ) → IsRecordSize (length bytes) → stored_check bytes ≡ passed → now ≡ mended bytes → (header_of now).array + 2 ≤ 510
array_now bytes now size stored now_is =
    let bounds = array_bounds (length bytes) (header_of bytes).array (stored_passes bytes stored).array in
    let P : Header → Type 0 = λ header. header.array + 2 ≤ 510 in
    subst P (sym (header_now bytes now size stored now_is)) (omega (arith, bounds.1))

sizes_now : (bytes now : List ℕ) → IsRecordSize (length bytes) → stored_check bytes ≡ passed → now ≡ mended bytes → ((header_of now).used ≤ length now) × ((header_of now).first ≤ (header_of now).used)
sizes_now bytes now size stored now_is =
    let used = and_parts (nat_le (header_of bytes).used (length bytes)) (nat_le ((header_of bytes).first + 4) (header_of bytes).used) (stored_passes bytes stored).used in
    let long : length now ≡ length bytes = ap length now_is ∙ length_mended bytes in
    let P : Header → Type 0 = λ header. (header.used ≤ length now) × (header.first ≤ header.used) in
    subst P (sym (header_now bytes now size stored now_is)) (omega (arith, leb-true _ _ used.0, long), omega (arith, leb-true _ _ used.1))

pub used_now : (bytes now : List ℕ) → IsRecordSize (length bytes) → stored_check bytes ≡ passed → now ≡ mended bytes → (header_of now).used ≤ length now
used_now bytes now size stored now_is = (sizes_now bytes now size stored now_is).0

pub first_now : (bytes now : List ℕ) → IsRecordSize (length bytes) → stored_check bytes ≡ passed → now ≡ mended bytes → (header_of now).first ≤ (header_of now).used
first_now bytes now size stored now_is = (sizes_now bytes now size stored now_is).1

pub checked_now : (bytes now : List ℕ) → IsRecordSize (length bytes) → stored_check bytes ≡ passed → now ≡ mended bytes → record_check bytes ≡ attributes_check now
checked_now bytes now size stored now_is =
    stored_goes_on bytes (omega (arith, (size_bounds (length bytes) size).0)) stored ∙ ap attributes_check (sym now_is)

pub restored_now : (bytes now : List ℕ) → IsRecordSize (length bytes) → stored_check bytes ≡ passed → now ≡ mended bytes → filled (header_of now).array 0 now ≡ bytes
restored_now bytes now size stored now_is =
    ap (λ (header : Header). filled header.array 0 now) (header_now bytes now size stored now_is)
    ∙ ap (filled (header_of bytes).array 0) now_is
    ∙ restored bytes (size_bounds (length bytes) size).1 (stored_passes bytes stored)

-- ---- a record that is found

pub found_is_mended : (bytes now : List ℕ) → IsRecordSize (length bytes) → record_check bytes ≡ passed → now ≡ mended bytes → IsMended now
found_is_mended bytes now size is now_is =
    let both = both_pass (stored_check bytes) (attributes_check (mended bytes)) (sym (record_checks bytes (omega (arith, (size_bounds (length bytes) size).0))) ∙ is) in
    subst IsMended (sym now_is) (mended_is bytes size (stored_passes bytes both.0) both.1)
