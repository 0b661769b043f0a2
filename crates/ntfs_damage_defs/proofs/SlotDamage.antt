-- Laws behind SlotDamage: a slot that is refused breaks a rule; one that is given breaks none.
use Rattle.std.specs.Prelude.{◌≡◌, ℕ, zero, suc, ◌+◌, ◌-◌, ◌*◌, ◌/◌, ◌%◌, ◌<◌, ◌≤◌, min, ◌&&◌, ◌==◌, Bool, true, false, nat_lt, is_some, if◌then◌else◌, Option, Some, None, Result, Ok, Err, List, [], ◌∷◌, take, replicate, refl}
use Rattle.std.specs.Str.{bytes_eq}
use Rattle.std.proofs.Common.{arith, lit≤, ap, sym, ◌∙◌, subst, ⊎_elim, inl, inr}
use Rattle.std.proofs.Math.Nat.{div-mul-le_self, div-lt_iff_lt-mul, le-div_iff_mul-le}
use Rattle.std.proofs.lemmas.Bool.{and_parts, and_from, ltb-true, lt-ltb, le-ltb, false≢true, cases_lt}
use Rattle.std.proofs.lemmas.Slice.Eq.{bytes_eq-Decides}
use Rattle.bytes_defs.specs.Bytes.{part}
use Rattle.image_defs.specs.Ask.{Ask, Done, result_of, check, ◌>>◌}
use Rattle.image_defs.proofs.Results.{result_bind_err}
use Rattle.image_defs.proofs.Looks.{bind_refuses, check_refuses}
use Rattle.image_defs.specs.Via.{via, seen_from, with_faults}
use Rattle.image_defs.proofs.ViaLaws.{result_via, result_with_faults}
use Rattle.image_defs.proofs.ViaLaws.{with_fault, part_seen, seen_hole}
use Rattle.fault_defs.specs.declared.Sort.{Sort}
use Rattle.fault_defs.specs.declared.Sort.TheVariants.{RecordMagic, MftHole, RecordField, Fixup}
use Rattle.fault_defs.specs.declared.Refusal.{Refusal}
use Rattle.ntfs_defs.specs.Clusters.{VirtualCluster, Hole, Stored, cluster_in}
use Rattle.ntfs_record_defs.specs.declared.fault.RecordFault.{RecordFault}
use Rattle.ntfs_record_defs.specs.declared.fault.RecordFault.TheVariants.{NotFile, BadFixup, BadField}
use Rattle.ntfs_record_defs.specs.Stored.{stored_place}
use Rattle.ntfs_record_defs.specs.Record.{Header, FileRecord, header_of, is_file, record_behind, record_of}
use Rattle.ntfs_record_defs.proofs.LentLaws.{header_front}
use Rattle.ntfs_volume_defs.specs.declared.boot.Boot.{Boot}
use Rattle.ntfs_volume_defs.specs.Streams.{cluster_place, run_place, read_size, stream_place}
use Rattle.ntfs_volume_defs.specs.Slots.{Mft, Slot, Used, SlotFault, NoRecord, Holed, Wrong, slot_place, first_slot_place, mapped_slot_place, is_whole, each_below, is_empty, is_in_use, record_in_use, slot_behind, slot_with, stored_slot, at_place, slot_refusal, slot_of}
use Rattle.ntfs_damage_defs.specs.Told.{IsToldBy}
use Rattle.ntfs_damage_defs.specs.Wrong.{stored_in, HoldsRecord, IsWrongSlot, OtherMagic, HoleInRecord, WrongEnd, WrongField}
use Rattle.ntfs_damage_defs.proofs.RecordFaults.{IsFaultIn, record_faults}
use Rattle.ntfs_damage_defs.specs.SlotDamage.{HasWholeSectors}

-- ---- a sector lies in one cluster

same_cluster : (start k cluster : ℕ) → start % 512 ≡ 0 → cluster % 512 ≡ 0 → 0 < cluster → k < 512 → (start + k) / cluster ≡ start / cluster
same_cluster start k cluster start_whole whole some below =
    let q = start / cluster in
    let sectors = cluster / 512 in
    let is : cluster ≡ 512 * sectors = omega (arith, whole) in
    let low : q * cluster ≤ start = div-mul-le_self start cluster in
    let high : start < (q + 1) * cluster = (div-lt_iff_lt-mul some).0 (omega arith) in
    let wide : (q + 1) * cluster ≡ 512 * ((q + 1) * sectors) = ap (λ n. (q + 1) * n) is ∙ omega arith in
    let from : q ≤ (start + k) / cluster = (le-div_iff_mul-le some).1 (omega (arith, low)) in
    let to : (start + k) / cluster < q + 1 = (div-lt_iff_lt-mul some).1 (omega (arith, high, wide, start_whole, below)) in
    omega (arith, from, to)

nowhere : (boot : Boot) (inside other : ℕ) (cluster : Option VirtualCluster) → cluster_place boot inside cluster ≡ None → cluster_place boot other cluster ≡ None
nowhere boot inside other None none = refl
nowhere boot inside other (Some Hole) none = refl
nowhere boot inside other (Some (Stored number)) none = absurd cc

-- where the first byte of a slot stands nowhere, none of its first sector does
sector_nowhere : (mft : Mft) (number k : ℕ) → HasWholeSectors mft.boot → k < 512 → slot_place mft number 0 ≡ None → slot_place mft number k ≡ None
unfolding slot_place stream_place run_place
sector_nowhere mft number k sectors below none = by_slot (number == 0) none
  where
    places : (start at : ℕ) → at / mft.boot.cluster ≡ start / mft.boot.cluster → start ≤ at → stream_place mft.boot mft.content start ≡ None → stream_place mft.boot mft.content at ≡ None
    places start at same from none = by_read (nat_lt at (read_size mft.content)) refl
      where
        by_read : (read : Bool) → nat_lt at (read_size mft.content) ≡ read → (if read then run_place mft.boot mft.content.runs at else None) ≡ None
        by_read false is = refl
        by_read true is =
            let earlier : nat_lt start (read_size mft.content) ≡ true = lt-ltb start (read_size mft.content) (omega (arith, from, ltb-true at (read_size mft.content) is)) in
            let here = sym (ap (λ (read : Bool). if read then run_place mft.boot mft.content.runs start else None) earlier) ∙ none in
            ap (λ q. cluster_place mft.boot (at % mft.boot.cluster) (cluster_in mft.content.runs q)) same
            ∙ nowhere mft.boot (start % mft.boot.cluster) (at % mft.boot.cluster) (cluster_in mft.content.runs (start / mft.boot.cluster)) here

    by_slot : (first : Bool) → (if first then first_slot_place mft.boot else mapped_slot_place mft number) 0 ≡ None → (if first then first_slot_place mft.boot else mapped_slot_place mft number) k ≡ None
    by_slot true none = absurd cc
    by_slot false none =
        let start = number * mft.boot.record_size + 0 in
        let sectors_of : mft.boot.record_size ≡ 512 * (mft.boot.record_size / 512) = omega (arith, sectors.record_size) in
        let product : number * mft.boot.record_size ≡ 512 * (number * (mft.boot.record_size / 512)) = ap (λ n. number * n) sectors_of ∙ omega arith in
        let whole : start % 512 ≡ 0 = omega (arith, product) in
        let at : number * mft.boot.record_size + k ≡ start + k = omega arith in
        places start (number * mft.boot.record_size + k) (ap (λ n. n / mft.boot.cluster) at ∙ same_cluster start k mft.boot.cluster whole sectors.cluster sectors.some_cluster below) (omega arith) none

first_bytes_nowhere : (image : List ℕ) (mft : Mft) (number : ℕ) → HasWholeSectors mft.boot → slot_place mft number 0 ≡ None → part (stored_in image mft number) 0 42 ≡ replicate 42 0
first_bytes_nowhere image mft number sectors none =
    let all : min 42 (mft.boot.record_size - 0) ≡ 42 = omega (arith, sectors.long) in
    part_seen image (slot_place mft number) mft.boot.record_size 0 42
    ∙ ap (seen_from image (slot_place mft number) 0) all
    ∙ seen_hole image (slot_place mft number) 0 42 (λ i below. sector_nowhere mft number (0 + i) sectors (omega (arith, below)) none)

-- a slot whose first bytes aren't zeros begins at a place
begins : (image : List ℕ) (mft : Mft) (number : ℕ) → HasWholeSectors mft.boot → is_empty (part (stored_in image mft number) 0 42) ≡ false → (place : ℕ) × (slot_place mft number 0 ≡ Some place)
begins image mft number sectors some = by_place (slot_place mft number 0) refl
  where
    by_place : (place : Option ℕ) → slot_place mft number 0 ≡ place → (at : ℕ) × (slot_place mft number 0 ≡ Some at)
    by_place (Some place) is = (place, is)
    by_place None is = absurd (false≢true (sym some ∙ ap is_empty (first_bytes_nowhere image mft number sectors is)))

-- ---- the first bytes

take_front : (n m : ℕ) (bytes : List ℕ) → n ≤ m → take n (take m bytes) ≡ take n bytes
take_front zero m bytes within = refl
take_front (suc n) zero bytes within = absurd (omega (arith, within))
take_front (suc n) (suc m) [] within = refl
take_front (suc n) (suc m) (byte ∷ bytes) within = ap (λ rest. byte ∷ rest) (take_front n m bytes (omega (arith, within)))

first_four : (bytes : List ℕ) → take 4 (part bytes 0 42) ≡ take 4 bytes
unfolding part
first_four bytes = take_front 4 42 bytes (lit≤ tt)

file_front : (bytes : List ℕ) → is_file (part bytes 0 42) ≡ is_file bytes
file_front bytes = ap (λ front. bytes_eq front (70 ∷ 73 ∷ 76 ∷ 69 ∷ [])) (first_four bytes)

empty_front : (bytes : List ℕ) → is_empty (part bytes 0 42) ≡ is_empty bytes
empty_front bytes = ap (λ front. bytes_eq front (0 ∷ 0 ∷ 0 ∷ 0 ∷ [])) (first_four bytes)

file_has_bytes : (bytes : List ℕ) → is_file bytes ≡ true → is_empty bytes ≡ false
file_has_bytes bytes file =
    ap (λ front. bytes_eq front (0 ∷ 0 ∷ 0 ∷ 0 ∷ [])) ((bytes_eq-Decides (take 4 bytes) (70 ∷ 73 ∷ 76 ∷ 69 ∷ [])).0 file)

-- ---- whole places

hole_of : (test : ℕ → Bool) (n : ℕ) → each_below test n ≡ false → (i : ℕ) × (i < n) × (test i ≡ false)
hole_of test zero fails = absurd cc
hole_of test (suc n) fails = by_last (test n) refl fails (λ earlier. hole_of test n earlier)
  where
    by_last : (last : Bool) → test n ≡ last → (last && each_below test n) ≡ false → (each_below test n ≡ false → (i : ℕ) × (i < n) × (test i ≡ false)) → (i : ℕ) × (i < suc n) × (test i ≡ false)
    by_last false is fails later = (n, omega arith, is)
    by_last true is fails later = let found = later fails in (found.0, omega (arith, found.1), found.2)

each_of : (test : ℕ → Bool) (n i : ℕ) → each_below test n ≡ true → i < n → test i ≡ true
each_of test zero i holds below = absurd (omega (arith, below))
each_of test (suc n) i holds below =
    let both = and_parts (test n) (each_below test n) holds in
    ⊎_elim (λ earlier. each_of test n i both.1 earlier) (λ last. let same : n ≡ i = omega (arith, last, below) in sym (ap test same) ∙ both.0) (cases_lt i n)

no_place : (place : Option ℕ) → is_some place ≡ false → place ≡ None
no_place None is = refl
no_place (Some place) is = absurd cc

some_place : (place : Option ℕ) → is_some place ≡ true → (at : ℕ) × (place ≡ Some at)
some_place None is = absurd cc
some_place (Some place) is = (place, refl)

-- ---- a slot that is refused

fault_behind : {E F X : Type 0} (change : E → F) (result : Result X E) (fault : F) → with_fault change result ≡ Err fault → (own : E) × (result ≡ Err own) × (change own ≡ fault)
fault_behind change (Ok x) fault refuses = absurd cc
fault_behind {F = F} {X = X} change (Err own) fault refuses = (own, refl, same (change own) refuses)
  where
    same : (other : F) → (let one : Result X F = Err other in one ≡ Err fault) → other ≡ fault
    same other is = cc

-- a rule that is broken at a place where something stands
told_at : (image : List ℕ) (mft : Mft) (number : ℕ) (sort : Sort) (place : Option ℕ) → (at : ℕ) → place ≡ Some at → IsWrongSlot image mft number sort at → IsWrongSlot image mft number sort (at_place place)
told_at image mft number sort place at is wrong = subst (IsWrongSlot image mft number sort) (sym (ap at_place is)) wrong

whole_places : (mft : Mft) (number : ℕ) → is_whole mft number ≡ true → (i : ℕ) → i < mft.boot.record_size → (place : ℕ) × (slot_place mft number i ≡ Some place)
unfolding is_whole
whole_places mft number whole i below = some_place (slot_place mft number i) (each_of (λ i. is_some (slot_place mft number i)) mft.boot.record_size i whole below)

hole_place : (mft : Mft) (number : ℕ) → is_whole mft number ≡ false → (i : ℕ) × (i < mft.boot.record_size) × (slot_place mft number i ≡ None)
unfolding is_whole
hole_place mft number whole =
    let found = hole_of (λ i. is_some (slot_place mft number i)) mft.boot.record_size whole in
    (found.0, found.1, no_place (slot_place mft number found.0) found.2)

-- the record in a slot that is in use and whole
record_is_wrong : (image : List ℕ) (mft : Mft) (number : ℕ) (fault : RecordFault) → HasWholeSectors mft.boot → HoldsRecord image mft number
    → result_of (stored_in image mft number) (record_of mft.boot.record_size) ≡ Err fault → IsFaultIn mft.boot.record_size (header_of (stored_in image mft number)).array fault
    → IsToldBy (IsWrongSlot image mft number) (slot_refusal mft number (Wrong (header_of (stored_in image mft number)).array fault))
record_is_wrong image mft number NotFile sectors holds refuses inside = absurd inside
record_is_wrong image mft number (BadFixup stride) sectors holds refuses inside =
    let place = holds.places (512 * stride + 510) (omega (arith, inside)) in
    told_at image mft number Fixup (slot_place mft number (512 * stride + 510)) place.0 place.1 (WrongEnd stride place.0 holds refuses place.1)
record_is_wrong image mft number (BadField at) sectors holds refuses inside =
    ⊎_elim
    (λ in_record.
    let array = (header_of (stored_in image mft number)).array in
    let place = holds.places (stored_place array at) in_record.1 in
    let test : nat_lt at mft.boot.record_size ≡ true = lt-ltb at mft.boot.record_size in_record.0 in
    let is : (if nat_lt at mft.boot.record_size then at_place (slot_place mft number (stored_place array at)) else at_place (slot_place mft number 0)) ≡ place.0 =
    ap (λ (test : Bool). if test then at_place (slot_place mft number (stored_place array at)) else at_place (slot_place mft number 0)) test ∙ ap at_place place.1 in
    subst (IsWrongSlot image mft number RecordField) (sym is) (WrongField at place.0 holds refuses (inl (in_record.0, place.1))))
    (λ behind.
    let array = (header_of (stored_in image mft number)).array in
    let place = holds.places 0 (omega (arith, sectors.long)) in
    let test : nat_lt at mft.boot.record_size ≡ false = le-ltb at mft.boot.record_size (omega (arith, behind)) in
    let is : (if nat_lt at mft.boot.record_size then at_place (slot_place mft number (stored_place array at)) else at_place (slot_place mft number 0)) ≡ place.0 =
    ap (λ (test : Bool). if test then at_place (slot_place mft number (stored_place array at)) else at_place (slot_place mft number 0)) test ∙ ap at_place place.1 in
    subst (IsWrongSlot image mft number RecordField) (sym is) (WrongField at place.0 holds refuses (inr (behind, place.1))))
    inside

-- what the record program says of the stored bytes
record_run : (stored : List ℕ) (size : ℕ) (fault : RecordFault) → is_file stored ≡ true → result_of stored (record_behind size (header_of (part stored 0 42))) ≡ Err fault → result_of stored (record_of size) ≡ Err fault
unfolding record_of
record_run stored size fault file refuses =
    ap (λ test. result_of stored (check test NotFile >> record_behind size (header_of (part stored 0 42)))) (file_front stored ∙ file) ∙ refuses

module _ (image : List ℕ) (mft : Mft) (number : ℕ) (sectors : HasWholeSectors mft.boot) where
  abbrev first_bytes : List ℕ
  first_bytes = part (stored_in image mft number) 0 42

  in_use_refuses : (in_use : Bool) (fault : SlotFault) → is_in_use (header_of first_bytes) ≡ in_use → is_file first_bytes ≡ true → is_whole mft number ≡ true
      → result_of (stored_in image mft number) (record_in_use mft.boot.record_size (header_of first_bytes) in_use) ≡ Err fault → IsToldBy (IsWrongSlot image mft number) (slot_refusal mft number fault)
  in_use_refuses false fault uses file whole refuses = absurd cc
  in_use_refuses true fault uses file whole refuses =
      let stored = stored_in image mft number in
      let header = header_of first_bytes in
      let program = with_faults (Wrong header.array) (record_behind mft.boot.record_size header) in
      ⊎_elim
      (λ own.
      let found = fault_behind (Wrong header.array) (result_of stored (record_behind mft.boot.record_size header)) fault (sym (result_with_faults stored (Wrong header.array) (record_behind mft.boot.record_size header)) ∙ own) in
      let front : header ≡ header_of stored = header_front stored in
      let holds : HoldsRecord image mft number =
      record { is_record = sym (file_front stored) ∙ file; places = whole_places mft number whole; in_use = sym (ap is_in_use front) ∙ uses } in
      let within = record_faults stored mft.boot.record_size header found.0 sectors.record_size sectors.long found.1 in
      let wrong =
      record_is_wrong image mft number found.0 sectors holds (record_run stored mft.boot.record_size found.0 (sym (file_front stored) ∙ file) found.1)
      (subst (λ (header : Header). IsFaultIn mft.boot.record_size header.array found.0) front within) in
      let P : SlotFault → Type 0 = λ fault. IsToldBy (IsWrongSlot image mft number) (slot_refusal mft number fault) in
      subst P (sym (ap (λ (header : Header). Wrong header.array found.0) front) ∙ found.2) wrong)
      (λ later. absurd (never later.0 later.2))
      (bind_refuses stored program (λ found. Done (Used found)) fault refuses)
    where
      never : (found : FileRecord) → result_of {E = SlotFault} (stored_in image mft number) (Done (Used found)) ≡ Err fault → ⊥
      never found refuses = cc

  behind_refuses : (empty : Bool) (fault : SlotFault) → is_empty first_bytes ≡ empty → result_of (stored_in image mft number) (slot_behind (is_whole mft number) mft.boot.record_size first_bytes empty) ≡ Err fault
      → IsToldBy (IsWrongSlot image mft number) (slot_refusal mft number fault)
  behind_refuses true fault empties refuses = absurd cc
  behind_refuses false fault empties refuses =
      let stored = stored_in image mft number in
      let P : SlotFault → Type 0 = λ fault. IsToldBy (IsWrongSlot image mft number) (slot_refusal mft number fault) in
      let start = begins image mft number sectors empties in
      let rest = record_in_use mft.boot.record_size (header_of first_bytes) (is_in_use (header_of first_bytes)) in
      ⊎_elim
      (λ other.
      subst P other.1
      (told_at image mft number RecordMagic (slot_place mft number 0) start.0 start.1
      (OtherMagic start.0 (sym (file_front stored) ∙ other.0) (sym (empty_front stored) ∙ empties) start.1)))
      (λ file. ⊎_elim
      (λ holed.
      let hole = hole_place mft number holed.0 in
      subst P holed.1
      (told_at image mft number MftHole (slot_place mft number 0) start.0 start.1
      (HoleInRecord start.0 hole.0 (sym (file_front stored) ∙ file.0) hole.1 hole.2 start.1)))
      (λ whole. in_use_refuses (is_in_use (header_of first_bytes)) fault refl file.0 whole.0 whole.1)
      (check_refuses stored (is_whole mft number) Holed (λ x. rest) fault file.1))
      (check_refuses stored (is_file first_bytes) NoRecord (λ x. check (is_whole mft number) Holed >> rest) fault refuses)

pub slot_refuses : (image : List ℕ) (mft : Mft) (number : ℕ) (refusal : Refusal) → HasWholeSectors mft.boot → result_of image (slot_of mft number) ≡ Err refusal → IsToldBy (IsWrongSlot image mft number) refusal
unfolding slot_of stored_slot
slot_refuses image mft number refusal sectors refuses =
    let stored = stored_in image mft number in
    let program = stored_slot (is_whole mft number) mft.boot.record_size in
    let found =
    fault_behind (slot_refusal mft number) (result_of image (via (slot_place mft number) mft.boot.record_size program)) refusal
    (sym (result_with_faults image (slot_refusal mft number) (via (slot_place mft number) mft.boot.record_size program)) ∙ refuses) in
    subst (IsToldBy (IsWrongSlot image mft number)) found.2
    (behind_refuses image mft number sectors (is_empty (part stored 0 42)) found.0 refl (sym (result_via image (slot_place mft number) mft.boot.record_size program) ∙ found.1))

-- ---- a slot that is given

no_slot : (fault : SlotFault) (slot : Slot) → (let one : Result Slot SlotFault = Err fault in one ≡ Ok slot) → ⊥
no_slot fault slot is = cc

-- a record that is in use, whole and refused
record_refuses : (stored : List ℕ) (size : ℕ) (fault : RecordFault) → is_file stored ≡ true → result_of stored (record_of size) ≡ Err fault → result_of stored (record_behind size (header_of (part stored 0 42))) ≡ Err fault
unfolding record_of
record_refuses stored size fault file refuses = sym (ap (λ test. result_of stored (check test NotFile >> record_behind size (header_of (part stored 0 42)))) (file_front stored ∙ file)) ∙ refuses

module _ (image : List ℕ) (mft : Mft) (number : ℕ) (slot : Slot) (gives : result_of (stored_in image mft number) (slot_with (is_whole mft number) mft.boot.record_size (part (stored_in image mft number) 0 42)) ≡ Ok slot) where
  abbrev front_bytes : List ℕ
  front_bytes = part (stored_in image mft number) 0 42

  abbrev in_use_program : Ask SlotFault Slot
  in_use_program = record_in_use mft.boot.record_size (header_of front_bytes) (is_in_use (header_of front_bytes))

  not_empty : is_empty (stored_in image mft number) ≡ false → result_of (stored_in image mft number) (check (is_file front_bytes) NoRecord >> (check (is_whole mft number) Holed >> in_use_program)) ≡ Ok slot
  not_empty some = sym (ap (λ empty. result_of (stored_in image mft number) (slot_behind (is_whole mft number) mft.boot.record_size front_bytes empty)) (empty_front (stored_in image mft number) ∙ some)) ∙ gives

  a_file : is_file (stored_in image mft number) ≡ true → result_of (stored_in image mft number) (check (is_whole mft number) Holed >> in_use_program) ≡ Ok slot
  a_file file =
      sym (ap (λ test. result_of (stored_in image mft number) (check test NoRecord >> (check (is_whole mft number) Holed >> in_use_program))) (file_front (stored_in image mft number) ∙ file))
      ∙ not_empty (file_has_bytes (stored_in image mft number) file)

  no_other_magic : is_file (stored_in image mft number) ≡ false → is_empty (stored_in image mft number) ≡ false → ⊥
  no_other_magic other some =
      no_slot NoRecord slot
      (sym (ap (λ test. result_of (stored_in image mft number) (check test NoRecord >> (check (is_whole mft number) Holed >> in_use_program))) (file_front (stored_in image mft number) ∙ other)) ∙ not_empty some)

  no_hole : is_file (stored_in image mft number) ≡ true → is_whole mft number ≡ false → ⊥
  no_hole file holed = no_slot Holed slot (sym (ap (λ test. result_of (stored_in image mft number) (check test Holed >> in_use_program)) holed) ∙ a_file file)

  no_wrong_record : (fault : RecordFault) → HoldsRecord image mft number → is_whole mft number ≡ true → result_of (stored_in image mft number) (record_of mft.boot.record_size) ≡ Err fault → ⊥
  no_wrong_record fault holds whole refuses =
      let stored = stored_in image mft number in
      let header = header_of front_bytes in
      let program = record_behind mft.boot.record_size header in
      let behind = record_refuses stored mft.boot.record_size fault holds.is_record refuses in
      let uses : is_in_use header ≡ true = ap is_in_use (header_front stored) ∙ holds.in_use in
      let wrong = result_bind_err stored (with_faults (Wrong header.array) program) (λ found. Done (Used found)) (Wrong header.array fault) (result_with_faults stored (Wrong header.array) program ∙ ap (with_fault (Wrong header.array)) behind) in
      no_slot (Wrong header.array fault) slot
      (sym wrong
      ∙ sym (ap (λ test. result_of stored (record_in_use mft.boot.record_size header test)) uses)
      ∙ sym (ap (λ test. result_of stored (check test Holed >> in_use_program)) whole)
      ∙ a_file holds.is_record)

is_whole_of : (mft : Mft) (number : ℕ) → ((i : ℕ) → i < mft.boot.record_size → (place : ℕ) × (slot_place mft number i ≡ Some place)) → is_whole mft number ≡ true
unfolding is_whole
is_whole_of mft number places = each_holds (λ i. is_some (slot_place mft number i)) mft.boot.record_size (λ i below. ap is_some (places i below).1)
  where
    each_holds : (test : ℕ → Bool) (n : ℕ) → ((i : ℕ) → i < n → test i ≡ true) → each_below test n ≡ true
    each_holds test zero holds = refl
    each_holds test (suc n) holds = and_from (test n) (each_below test n) (holds n (omega arith)) (each_holds test n (λ i below. holds i (omega (arith, below))))

has_hole : (mft : Mft) (number i : ℕ) → i < mft.boot.record_size → slot_place mft number i ≡ None → is_whole mft number ≡ false
unfolding is_whole
has_hole mft number i below none = by_whole (is_whole mft number) refl
  where
    by_whole : (whole : Bool) → is_whole mft number ≡ whole → is_whole mft number ≡ false
    by_whole false is = is
    by_whole true is = absurd (false≢true (sym (ap is_some none) ∙ each_of (λ i. is_some (slot_place mft number i)) mft.boot.record_size i is below))

pub slot_is_sound : (image : List ℕ) (mft : Mft) (number : ℕ) (slot : Slot) (sort : Sort) (place : ℕ) → result_of image (slot_of mft number) ≡ Ok slot → IsWrongSlot image mft number sort place → ⊥
unfolding slot_of stored_slot
slot_is_sound image mft number slot sort place gives wrong =
    let program = stored_slot (is_whole mft number) mft.boot.record_size in
    let via_program = via (slot_place mft number) mft.boot.record_size program in
    by_rule sort place
    (sym (result_via image (slot_place mft number) mft.boot.record_size program) ∙ value_behind (slot_refusal mft number) (result_of image via_program) slot (sym (result_with_faults image (slot_refusal mft number) via_program) ∙ gives)) wrong
  where
    value_behind : {E F X : Type 0} (change : E → F) (result : Result X E) (x : X) → with_fault change result ≡ Ok x → result ≡ Ok x
    value_behind change (Ok y) x is = ap Ok cc
    value_behind change (Err fault) x is = absurd cc

    by_rule : (sort : Sort) (place : ℕ) → result_of (stored_in image mft number) (slot_with (is_whole mft number) mft.boot.record_size (part (stored_in image mft number) 0 42)) ≡ Ok slot → IsWrongSlot image mft number sort place → ⊥
    by_rule sort place given (OtherMagic at other some is) = no_other_magic image mft number slot given other some
    by_rule sort place given (HoleInRecord at i file below none is) = no_hole image mft number slot given file (has_hole mft number i below none)
    by_rule sort place given (WrongEnd stride at holds refuses is) = no_wrong_record image mft number slot given (BadFixup stride) holds (is_whole_of mft number holds.places) refuses
    by_rule sort place given (WrongField i at holds refuses is) = no_wrong_record image mft number slot given (BadField i) holds (is_whole_of mft number holds.places) refuses
