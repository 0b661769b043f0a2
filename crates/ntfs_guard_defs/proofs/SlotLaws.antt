-- A slot looks at none of its stored bytes that is a place of content that its record holds.
use Rattle.std.specs.Prelude.{◌≡◌, ℕ, zero, suc, ◌+◌, ◌%◌, ◌<◌, ◌&&◌, Bool, true, false, is_some, Option, Some, Result, Ok, Err, List, refl}
use Rattle.std.proofs.Common.{arith, ap, sym, ◌∙◌, subst}
use Rattle.std.proofs.lemmas.List.{ext_get_or}
use Rattle.range_defs.specs.declared.Range.{Range}
use Rattle.bytes_defs.specs.Bytes.{part}
use Rattle.image_defs.specs.Ask.{Ask, Done, result_of, check, ◌>>◌}
use Rattle.image_defs.specs.Looks.{LooksAt}
use Rattle.image_defs.proofs.Looks.{looks_done, looks_weaker, looks_bind, looks_check, looks_look, bind_gives, check_gives}
use Rattle.image_defs.specs.Via.{via, seen, byte_of, with_faults}
use Rattle.image_defs.specs.ViaLaws.{LiesIn}
use Rattle.image_defs.proofs.ViaLaws.{result_via, looks_via, AtPlaces, with_fault, result_with_faults, looks_with_faults, length_seen, seen_at}
use Rattle.ntfs_record_defs.specs.Record.{Header, header_of, is_file, record_behind}
use Rattle.ntfs_record_defs.specs.RecordLaws.{NoContentPlace}
use Rattle.ntfs_record_defs.proofs.RecordLaws.{front_clear, behind_found, behind_looks}
use Rattle.ntfs_volume_defs.specs.Slots.{Mft, Slot, Empty, Unused, Used, SlotFault, NoRecord, Holed, Wrong, slot_place, is_whole, each_below, is_empty, is_in_use, record_in_use, slot_behind, stored_slot, slot_refusal, slot_of}

-- a stored byte is no place of content that the slot's record holds
abbrev pub IsFree : Slot → ℕ → Type 0
IsFree Empty byte = Unit {0}
IsFree Unused byte = Unit {0}
IsFree (Used found) byte = NoContentPlace found byte

pub gives_with_faults : {E F X : Type 0} (image : List ℕ) (fault : E → F) (ask : Ask E X) (x : X) → result_of image (with_faults fault ask) ≡ Ok x → result_of image ask ≡ Ok x
gives_with_faults {E} {F} {X} image fault ask x gives = same (result_of image ask) (sym (result_with_faults image fault ask) ∙ gives)
  where
    same : (result : Result X E) → with_fault fault result ≡ Ok x → result ≡ Ok x
    same (Ok y) is = ap Ok cc
    same (Err e) is = absurd cc

-- what stands behind the first bytes
in_use_looks : (stored : List ℕ) (size : ℕ) (header : Header) (slot : Slot) (in_use : Bool) → size % 512 ≡ 0 → result_of stored (record_in_use size header in_use) ≡ Ok slot
    → LooksAt (LiesIn (IsFree slot)) stored (record_in_use size header in_use) × ((byte : ℕ) → byte < 42 → IsFree slot byte)
in_use_looks stored size header slot false whole gives =
    let P : Slot → Type 0 = λ slot. LooksAt (LiesIn (IsFree slot)) stored (record_in_use size header false) × ((byte : ℕ) → byte < 42 → IsFree slot byte) in
    let same : Unused ≡ slot = cc in
    subst P same (looks_done (LiesIn (IsFree Unused)) stored Unused, λ byte front. tt)
in_use_looks stored size header slot true whole gives =
    let record_with = with_faults (Wrong header.array) (record_behind size header) in
    let found = bind_gives stored record_with (λ found. Done (Used found)) slot gives in
    let is = behind_found stored size header found.0 whole (gives_with_faults stored (Wrong header.array) (record_behind size header) found.0 found.1) in
    let P : Slot → Type 0 = λ slot. LooksAt (LiesIn (IsFree slot)) stored (record_in_use size header true) × ((byte : ℕ) → byte < 42 → IsFree slot byte) in
    let Q : Header → Type 0 = λ header. LooksAt (LiesIn (NoContentPlace found.0)) stored (record_behind size header) in
    let same : Used found.0 ≡ slot = cc (found.2) in
    let front : (byte : ℕ) → byte < 42 → NoContentPlace found.0 byte = λ byte before. front_clear size found.0 is.sound byte (omega (arith, before, is.sound.behind_header)) in
    let looks = subst Q (sym is.header_is) (behind_looks stored size found.0 is.sound is.attributes) in
    subst P same (
      looks_bind (LiesIn (NoContentPlace found.0)) stored record_with (λ found. Done (Used found))
          (looks_with_faults (LiesIn (NoContentPlace found.0)) stored (Wrong header.array) (record_behind size header) looks) (λ x is. looks_done (LiesIn (NoContentPlace found.0)) stored _),
      front,
    )

behind_first_looks : (stored : List ℕ) (whole : Bool) (size : ℕ) (bytes : List ℕ) (slot : Slot) (empty : Bool) → size % 512 ≡ 0 → result_of stored (slot_behind whole size bytes empty) ≡ Ok slot
    → LooksAt (LiesIn (IsFree slot)) stored (slot_behind whole size bytes empty) × ((byte : ℕ) → byte < 42 → IsFree slot byte)
behind_first_looks stored whole size bytes slot true strides gives =
    let P : Slot → Type 0 = λ slot. LooksAt (LiesIn (IsFree slot)) stored (slot_behind whole size bytes true) × ((byte : ℕ) → byte < 42 → IsFree slot byte) in
    let same : Empty ≡ slot = cc in
    subst P same (looks_done (LiesIn (IsFree Empty)) stored Empty, λ byte front. tt)
behind_first_looks stored whole size bytes slot false strides gives =
    let header = header_of bytes in
    let rest = record_in_use size header (is_in_use header) in
    let file = check_gives stored (is_file bytes) NoRecord (λ x. check whole Holed >> rest) slot gives in
    let placed = check_gives stored whole Holed (λ x. rest) slot file.1 in
    let looks = in_use_looks stored size header slot (is_in_use header) strides placed.1 in (
      looks_check (LiesIn (IsFree slot)) stored (is_file bytes) NoRecord _
          (λ _. looks_check (LiesIn (IsFree slot)) stored whole Holed _ (λ _. looks.0)),
      looks.1,
    )

pub stored_slot_looks : (stored : List ℕ) (whole : Bool) (size : ℕ) (slot : Slot) → size % 512 ≡ 0 → result_of stored (stored_slot whole size) ≡ Ok slot
    → LooksAt (LiesIn (IsFree slot)) stored (stored_slot whole size)
unfolding stored_slot
stored_slot_looks stored whole size slot strides gives =
    let bytes = part stored 0 42 in
    let looks = behind_first_looks stored whole size bytes slot (is_empty bytes) strides gives in
    looks_look (LiesIn (IsFree slot)) stored 0 42 _ (λ byte low high. looks.1 byte high) looks.0

-- ---- in the image

-- a byte of the image is the place of a stored byte of the slot that is free of content
abbrev pub IsFreeIn : Mft → ℕ → Slot → ℕ → Type 0
IsFreeIn mft number slot byte = (q : ℕ) × (q < mft.boot.record_size) × (slot_place mft number q ≡ Some byte) × IsFree slot q

free_places : (mft : Mft) (number : ℕ) (slot : Slot) (range : Range) → LiesIn (IsFree slot) range → AtPlaces (slot_place mft number) mft.boot.record_size (LiesIn (IsFreeIn mft number slot)) range
free_places mft number slot range lies i p low high inside is byte from to =
    let same : p ≡ byte = omega (arith, from, to) in
    (i, inside, is ∙ ap Some same, lies i low high)

abbrev pub stored_program : Mft → ℕ → Ask SlotFault Slot
stored_program mft number = stored_slot (is_whole mft number) mft.boot.record_size

pub slot_gives : (image : List ℕ) (mft : Mft) (number : ℕ) (slot : Slot) → result_of image (slot_of mft number) ≡ Ok slot
    → result_of (seen image (slot_place mft number) mft.boot.record_size) (stored_program mft number) ≡ Ok slot
unfolding slot_of
slot_gives image mft number slot gives =
    sym (result_via image (slot_place mft number) mft.boot.record_size (stored_program mft number))
    ∙ gives_with_faults image (slot_refusal mft number) (via (slot_place mft number) mft.boot.record_size (stored_program mft number)) slot gives

pub gives_slot : (image : List ℕ) (mft : Mft) (number : ℕ) (slot : Slot) → result_of (seen image (slot_place mft number) mft.boot.record_size) (stored_program mft number) ≡ Ok slot
    → result_of image (slot_of mft number) ≡ Ok slot
unfolding slot_of
gives_slot image mft number slot gives =
    result_with_faults image (slot_refusal mft number) (via (slot_place mft number) mft.boot.record_size (stored_program mft number))
    ∙ ap (with_fault (slot_refusal mft number)) (result_via image (slot_place mft number) mft.boot.record_size (stored_program mft number) ∙ gives)

pub slot_looks : (image : List ℕ) (mft : Mft) (number : ℕ) (slot : Slot) → mft.boot.record_size % 512 ≡ 0 → result_of image (slot_of mft number) ≡ Ok slot
    → LooksAt (LiesIn (IsFreeIn mft number slot)) image (slot_of mft number)
unfolding slot_of
slot_looks image mft number slot strides gives =
    let stored = seen image (slot_place mft number) mft.boot.record_size in
    let program = stored_program mft number in
    looks_with_faults (LiesIn (IsFreeIn mft number slot)) image (slot_refusal mft number) (via (slot_place mft number) mft.boot.record_size program)
    (looks_via (LiesIn (IsFreeIn mft number slot)) image (slot_place mft number) mft.boot.record_size program
    (looks_weaker (LiesIn (IsFree slot)) (AtPlaces (slot_place mft number) mft.boot.record_size (LiesIn (IsFreeIn mft number slot))) stored program (free_places mft number slot)
    (stored_slot_looks stored (is_whole mft number) mft.boot.record_size slot strides (slot_gives image mft number slot gives))))

-- ---- two ways to know the places of a slot

-- both say the same of a slot
pub record SamePlaces (mft other : Mft) (number : ℕ) : Type 0 where
  pub boot : mft.boot ≡ other.boot
  pub places : (i : ℕ) → i < other.boot.record_size → slot_place mft number i ≡ slot_place other number i

seen_same : (image : List ℕ) (place other : ℕ → Option ℕ) (size : ℕ) → ((i : ℕ) → i < size → place i ≡ other i) → seen image place size ≡ seen image other size
seen_same image place other size same =
    ext_get_or 0 (seen image place size) (seen image other size) (length_seen image place 0 size ∙ sym (length_seen image other 0 size))
    (λ i below.
    let inside : i < size = omega (arith, below, length_seen image place 0 size) in
    let here : 0 + i ≡ i = omega arith in
    seen_at image place 0 size i inside ∙ ap (λ at. byte_of image (place at)) here ∙ ap (byte_of image) (same i inside) ∙ sym (ap (λ at. byte_of image (other at)) here) ∙ sym (seen_at image other 0 size i inside))

each_same : (test other : ℕ → Bool) (size : ℕ) → ((i : ℕ) → i < size → test i ≡ other i) → each_below test size ≡ each_below other size
each_same test other zero same = refl
each_same test other (suc size) same =
    ap (λ last. last && each_below test size) (same size (omega arith)) ∙ ap (λ rest. other size && rest) (each_same test other size (λ i below. same i (omega arith)))

whole_same : (mft other : Mft) (number : ℕ) → SamePlaces mft other number → is_whole mft number ≡ is_whole other number
unfolding is_whole
whole_same mft other number same =
    ap (λ boot. each_below (λ i. is_some (slot_place mft number i)) boot.record_size) same.boot
    ∙ each_same (λ i. is_some (slot_place mft number i)) (λ i. is_some (slot_place other number i)) other.boot.record_size (λ i below. ap is_some (same.places i below))

pub slot_same : (image : List ℕ) (mft other : Mft) (number : ℕ) (slot : Slot) → SamePlaces mft other number → result_of image (slot_of mft number) ≡ Ok slot → result_of image (slot_of other number) ≡ Ok slot
slot_same image mft other number slot same gives =
    gives_slot image other number slot
    (sym (ap (λ whole. result_of (seen image (slot_place other number) other.boot.record_size) (stored_slot whole other.boot.record_size)) (whole_same mft other number same))
    ∙ sym (ap (λ stored. result_of stored (stored_slot (is_whole mft number) other.boot.record_size)) (seen_same image (slot_place mft number) (slot_place other number) other.boot.record_size same.places))
    ∙ sym (ap (λ boot. result_of (seen image (slot_place mft number) boot.record_size) (stored_slot (is_whole mft number) boot.record_size)) same.boot)
    ∙ slot_gives image mft number slot gives)
