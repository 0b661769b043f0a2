-- Where the faults of a record point: to a stride of it, and to a byte of it or behind its last one.
use Rattle.std.specs.Prelude.{◌≡◌, ℕ, zero, suc, ◌+◌, ◌-◌, ◌*◌, ◌/◌, ◌%◌, ◌<◌, ◌≤◌, ◌⊎◌, ◌==◌, ◌&&◌, Bool, true, false, nat_le, if◌then◌else◌, Option, Some, None, Result, Ok, Err, List, [], ◌∷◌}
use Rattle.std.specs.Str.{bytes_eq}
use Rattle.std.proofs.Common.{arith, lit≤, sym, ◌∙◌, subst, ⊎_elim, inl, inr}
use Rattle.std.proofs.lemmas.Bool.{and_parts, leb-true, cases_lt}
use Rattle.bytes_defs.specs.Bytes.{part}
use Rattle.image_defs.specs.Ask.{Ask, Done, result_of, look, check, each, ◌>>=◌}
use Rattle.image_defs.proofs.Looks.{bind_refuses, check_refuses}
use Rattle.image_defs.specs.Via.{seen}
use Rattle.image_defs.proofs.ViaLaws.{result_via}
use Rattle.ntfs_record_defs.specs.declared.fault.RecordFault.{RecordFault}
use Rattle.ntfs_record_defs.specs.declared.fault.RecordFault.TheVariants.{NotFile, BadFixup, BadField}
use Rattle.ntfs_record_defs.specs.Stored.{stored_place, stored_at, entries, array_end, is_array, count_from, ends_with}
use Rattle.ntfs_record_defs.proofs.StoredLaws.{kept, replaced}
use Rattle.ntfs_record_defs.specs.Attributes.{Attribute, Opened, is_content, body_of, is_end_mark, is_resident, is_length, is_layout, header_size, attribute_of, look_in, opened, attribute_with, attribute_from, attribute_at, unless_ended, next_attribute, and_behind, attributes_within, attributes_from}
use Rattle.ntfs_record_defs.proofs.AttributeLaws.{attribute_lies, next_some}
use Rattle.ntfs_record_defs.specs.Record.{Header, FileRecord, is_used_size, stored_attributes, record_within, record_with, record_behind}

-- a fault at a byte, up to an end
record IsFieldUpTo (end : ℕ) (fault : RecordFault) : Type 0 where
  at : ℕ
  is : fault ≡ BadField at
  inside : at ≤ end

same_record_fault : {X : Type 0} (own fault : RecordFault) → (let one : Result X RecordFault = Err own in one ≡ Err fault) → fault ≡ own
same_record_fault own fault same = cc

opened_never : (bytes : List ℕ) (attribute : Attribute) (fault : RecordFault) → result_of bytes (opened attribute) ≡ Err fault → ⊥
opened_never bytes attribute fault refuses = by_kind (is_content attribute) refuses
  where
    by_kind : (content : Bool)
        → result_of {X = Opened} bytes (if◌then◌else◌ {A = Ask RecordFault (List ℕ)} content (Done []) (look_in (body_of attribute.form)) >>= (λ body. Done (record { attribute = attribute; name = part bytes attribute.name.at attribute.name.len; body = body }))) ≡ Err fault
        → ⊥
    by_kind true refuses = cc
    by_kind false refuses = cc

attribute_faults : (bytes : List ℕ) (used at : ℕ) (fault : RecordFault) → result_of bytes (attribute_at used at) ≡ Err fault → fault ≡ BadField at
attribute_faults bytes used at fault refuses =
    let start = part bytes at 16 in
    let header = part bytes at (header_size (is_resident start)) in
    ⊎_elim (λ room. sym room.1)
    (λ room. ⊎_elim (λ length. sym length.1)
    (λ length. ⊎_elim (λ layout. sym layout.1) (λ layout. absurd (opened_never bytes (attribute_of at start header) fault layout.1))
    (check_refuses bytes (is_layout (is_resident start) start header) (BadField at) (λ x. opened (attribute_of at start header)) fault length.1))
    (check_refuses bytes (is_length (used - at) start) (BadField at) (λ x. look at (header_size (is_resident start)) >>= attribute_with at start) fault room.1))
    (check_refuses bytes (nat_le (at + 16) used) (BadField at) (λ x. look at 16 >>= attribute_from used at) fault refuses)

next_faults : (bytes : List ℕ) (used at : ℕ) (fault : RecordFault) → result_of bytes (next_attribute used at) ≡ Err fault → fault ≡ BadField at
next_faults bytes used at fault refuses =
    ⊎_elim (λ room. sym room.1) (λ room. by_mark (is_end_mark (part bytes at 4)) room.1)
    (check_refuses bytes (nat_le (at + 4) used) (BadField at) (λ x. look at 4 >>= (λ mark. unless_ended used at (is_end_mark mark))) fault refuses)
  where
    by_mark : (ended : Bool) → result_of bytes (unless_ended used at ended) ≡ Err fault → fault ≡ BadField at
    by_mark true refuses = absurd cc
    by_mark false refuses =
        ⊎_elim (λ first. attribute_faults bytes used at fault first) (λ later. absurd (never later.0 later.2)) (bind_refuses bytes (attribute_at used at) (λ found. Done (Some found)) fault refuses)
      where
        never : (found : Opened) → result_of {E = RecordFault} bytes (Done (Some found)) ≡ Err fault → ⊥
        never found refuses = cc

attributes_fault : (count used at : ℕ) (bytes : List ℕ) (fault : RecordFault) → at ≤ used → result_of bytes (attributes_within count used at) ≡ Err fault → IsFieldUpTo used fault
unfolding attributes_within
attributes_fault zero used at bytes fault before refuses = record { at = at; is = same_record_fault {X = List Opened} (BadField at) fault refuses; inside = before }
attributes_fault (suc count) used at bytes fault before refuses =
    ⊎_elim
    (λ first. record { at = at; is = next_faults bytes used at fault first; inside = before })
    (λ later. by_first later.0 later.1 later.2 (λ place fits more. attributes_fault count used place bytes fault fits more))
    (bind_refuses bytes (next_attribute used at) (and_behind (attributes_within count used)) fault refuses)
  where
    never : (found : List Opened) → result_of {E = RecordFault} bytes (Done found) ≡ Err fault → ⊥
    never found refuses = cc

    by_first : (first : Option Opened) → result_of bytes (next_attribute used at) ≡ Ok first → result_of bytes (and_behind (attributes_within count used) first) ≡ Err fault
        → ((place : ℕ) → place ≤ used → result_of bytes (attributes_within count used place) ≡ Err fault → IsFieldUpTo used fault) → IsFieldUpTo used fault
    by_first None next refuses later = absurd (never [] refuses)
    by_first (Some one) next refuses later =
        let lies = attribute_lies bytes used at one (next_some bytes used at one next) in
        let place = one.attribute.at + one.attribute.len in
        ⊎_elim (λ rest. later place (omega (arith, lies.begins, lies.inside)) rest) (λ done. absurd (never (one ∷ done.0) done.2))
        (bind_refuses bytes (attributes_within count used place) (λ more. Done (one ∷ more)) fault refuses)

-- ---- the ends

record IsStrideUpTo (end : ℕ) (fault : RecordFault) : Type 0 where
  stride : ℕ
  is : fault ≡ BadFixup stride
  below : stride < end

ends_fault : (bytes number : List ℕ) (from count : ℕ) (fault : RecordFault) → result_of bytes (each (ends_with number) (count_from from count)) ≡ Err fault → IsStrideUpTo (from + count) fault
ends_fault bytes number from zero fault refuses = absurd cc
ends_fault bytes number from (suc count) fault refuses =
    ⊎_elim
    (λ first. record { stride = from; is = by_test (bytes_eq (part bytes (512 * from + 510) 2) number) first; below = omega arith })
    (λ later. ⊎_elim
    (λ rest. let found = ends_fault bytes number (suc from) count fault rest in record { stride = found.stride; is = found.is; below = omega (arith, found.below) })
    (λ done. absurd (never (later.0 ∷ done.0) done.2))
    (bind_refuses bytes (each (ends_with number) (count_from (suc from) count)) (λ more. Done (later.0 ∷ more)) fault later.2))
    (bind_refuses bytes (ends_with number from) (λ unit. each (ends_with number) (count_from (suc from) count) >>= (λ more. Done (unit ∷ more))) fault refuses)
  where
    by_test : (test : Bool) → result_of bytes (check test (BadFixup from)) ≡ Err fault → fault ≡ BadFixup from
    by_test true refuses = absurd cc
    by_test false refuses = same_record_fault {X = Unit {0}} (BadFixup from) fault refuses

    never : (found : List (Unit {0})) → result_of {E = RecordFault} bytes (Done found) ≡ Err fault → ⊥
    never found refuses = cc

-- ---- a record

-- a fault of a record of so many bytes with its array at a place: a byte of it is stored in it
abbrev pub IsFaultIn : ℕ → ℕ → RecordFault → Type 0
IsFaultIn size array NotFile = ⊥
IsFaultIn size array (BadFixup stride) = 512 * stride + 511 < size
IsFaultIn size array (BadField at) = ((at < size) × (stored_place array at < size)) ⊎ (at ≡ size)

field_in : (size array at : ℕ) → 512 ≤ size → at < 510 → IsFaultIn size array (BadField at)
field_in size array at long front = inl (omega (arith, long, front), omega (arith, kept array at (omega (arith, front)), long, front))

array_field_in : (size array at : ℕ) → size % 512 ≡ 0 → 512 ≤ size → array_end size array ≤ 510 → at ≤ size → IsFaultIn size array (BadField at)
array_field_in size array at whole long short inside =
    ⊎_elim
    (λ below. ⊎_elim
    (λ early. inl (below, omega (arith, kept array at early, below)))
    (λ last. inl (below, omega (arith, replaced array at last, below, short, whole, long)))
    (cases_lt (at % 512) 510))
    (λ past. inr (omega (arith, past, inside)))
    (cases_lt at size)

pub record_faults : (stored : List ℕ) (size : ℕ) (header : Header) (fault : RecordFault) → size % 512 ≡ 0 → 512 ≤ size → result_of stored (record_behind size header) ≡ Err fault → IsFaultIn size header.array fault
unfolding record_behind
record_faults stored size header fault whole long refuses =
    let P : RecordFault → Type 0 = IsFaultIn size header.array in
    ⊎_elim (λ count. subst P count.1 (field_in size header.array 6 long (lit≤ tt)))
    (λ count. ⊎_elim (λ array. subst P array.1 (field_in size header.array 4 long (lit≤ tt)))
    (λ array. behind_array array.0 array.1)
    (check_refuses stored (is_array size header.array) (BadField 4) _ fault count.1))
    (check_refuses stored (header.count == entries size) (BadField 6) _ fault refuses)
  where
    short_of : is_array size header.array ≡ true → array_end size header.array ≤ 510
    short_of is =
        let placed = and_parts (nat_le 42 header.array) (header.array % 2 == 0 && nat_le (array_end size header.array) 510) is in
        let ends = and_parts (header.array % 2 == 0) (nat_le (array_end size header.array) 510) placed.1 in
        leb-true _ _ ends.1

    attributes_in : array_end size header.array ≤ 510 → is_used_size size header ≡ true → result_of stored (stored_attributes size header) ≡ Err fault → IsFaultIn size header.array fault
    attributes_in short used refuses =
        let sizes = and_parts (nat_le header.used size) (nat_le (header.first + 4) header.used) used in
        let found =
        attributes_fault (header.used - header.first) header.used header.first (seen stored (stored_at header.array) size) fault (omega (arith, leb-true _ _ sizes.1))
        (sym (result_via stored (stored_at header.array) size (attributes_from header.used header.first)) ∙ refuses) in
        let P : RecordFault → Type 0 = IsFaultIn size header.array in
        subst P (sym found.is) (array_field_in size header.array found.at whole long short (omega (arith, found.inside, leb-true _ _ sizes.0)))

    never : (found : FileRecord) → result_of {E = RecordFault} stored (Done found) ≡ Err fault → ⊥
    never found refuses = cc

    within : array_end size header.array ≤ 510 → result_of stored (record_within size header) ≡ Err fault → IsFaultIn size header.array fault
    within short refuses =
        let P : RecordFault → Type 0 = IsFaultIn size header.array in
        ⊎_elim (λ first. subst P first.1 (field_in size header.array 20 long (lit≤ tt)))
        (λ first. ⊎_elim (λ used. subst P used.1 (field_in size header.array 24 long (lit≤ tt)))
        (λ used. ⊎_elim (λ attributes. attributes_in short used.0 attributes) (λ done. absurd (never (record { header = header; attributes = done.0 }) done.2))
        (bind_refuses stored (stored_attributes size header) (λ attributes. Done (record { header = header; attributes = attributes })) fault used.1))
        (check_refuses stored (is_used_size size header) (BadField 24) _ fault first.1))
        (check_refuses stored (nat_le (array_end size header.array) header.first) (BadField 20) _ fault refuses)

    behind_array : is_array size header.array ≡ true → result_of stored (record_with size header (part stored header.array 2)) ≡ Err fault → IsFaultIn size header.array fault
    behind_array array refuses =
        let P : RecordFault → Type 0 = IsFaultIn size header.array in
        ⊎_elim
        (λ ends. let found = ends_fault stored (part stored header.array 2) 0 (size / 512) fault ends in subst P (sym found.is) (omega (arith, found.below, whole)))
        (λ later. within (short_of array) later.2)
        (bind_refuses stored (each (ends_with (part stored header.array 2)) (count_from 0 (size / 512))) (λ x. record_within size header) fault refuses)
