-- Laws behind EntryDamage: an entry whose attribute is not found breaks a rule, or names a wrong slot; one whose attribute is found
-- breaks none. A list that is not read is a wrong stream.
use Rattle.std.specs.Prelude.{◌≡◌, ℕ, ◌<◌, ◌&&◌, ◌==◌, Bool, true, false, nat_le, nat_lt, if◌then◌else◌, Option, Some, None, Result, Ok, Err, List, [], find, refl}
use Rattle.std.specs.Option.{ok_or}
use Rattle.std.proofs.Common.{arith, ap, sym, ◌∙◌, subst, ⊎_elim}
use Rattle.std.proofs.lemmas.Bool.{eqb-false, ne_eqb, ltb-true, ltb-false, false≢true}
use Rattle.image_defs.specs.Ask.{Done, result_of, given, ◌>>=◌}
use Rattle.image_defs.proofs.Results.{result_bind_ok, result_given}
use Rattle.image_defs.proofs.Looks.{bind_gives, check_gives, given_gives, bind_refuses, check_refuses, given_refuses}
use Rattle.image_defs.specs.Via.{look_bytes, seen_from}
use Rattle.image_defs.proofs.ViaLaws.{result_look_bytes}
use Rattle.fault_defs.specs.declared.Sort.{Sort}
use Rattle.fault_defs.specs.declared.Sort.TheVariants.{AttributeMissing}
use Rattle.fault_defs.specs.declared.Bound.TheVariants.{AttributeList}
use Rattle.fault_defs.specs.declared.Refusal.{Refusal}
use Rattle.fault_defs.specs.declared.Refusal.TheVariants.{Damaged, Limit}
use Rattle.ntfs_record_defs.specs.Attributes.{Form, Resident, NonResident, is_resident_form}
use Rattle.ntfs_record_defs.specs.Record.{FileRecord}
use Rattle.ntfs_volume_defs.specs.Streams.{Stream, stream_place}
use Rattle.ntfs_volume_defs.specs.Slots.{Mft, Slot, Empty, Unused, Used, slots, slot_of}
use Rattle.ntfs_volume_defs.specs.Segments.{Held, is_resident, stream_of}
use Rattle.ntfs_volume_defs.specs.Lists.{Entry, ListContent, list_with, stream_list, list_by, list_content, attributes_in, reference_of, is_named, named_in, extension_of, extension_attributes, record_named, named_record, named_attribute}
use Rattle.ntfs_damage_defs.specs.Told.{IsToldBy}
use Rattle.ntfs_damage_defs.proofs.Told.{told_weaker, same_refusal, not_given}
use Rattle.ntfs_damage_defs.specs.Wrong.{IsWrongSlot, IsWrongStream, IsMissing, NoSlot, NotOfFile, NoAttribute}
use Rattle.ntfs_damage_defs.specs.SlotDamage.{HasWholeSectors}
use Rattle.ntfs_damage_defs.proofs.SlotDamage.{slot_refuses}
use Rattle.ntfs_damage_defs.proofs.StreamDamage.{stream_refuses, stream_is_sound}
use Rattle.ntfs_damage_defs.specs.EntryDamage.{IsWrongListStream}

-- an entry is missing, or names a slot that is wrong
pub data IsWrongEntryOf (image : List ℕ) (mft : Mft) (number : ℕ) (base : FileRecord) (entry : Entry) (sort : Sort) (place : ℕ) : Type 0 where
  IsMissed : IsMissing image mft number base entry sort place → IsWrongEntryOf image mft number base entry sort place
  NamesWrong : entry.number < slots mft → (entry.number ≡ number → ⊥) → IsWrongSlot image mft entry.number sort place → IsWrongEntryOf image mft number base entry sort place

extension_missing : (reference place : ℕ) (slot : Slot) (refusal : Refusal) → extension_of reference place slot ≡ Err refusal → Damaged AttributeMissing place ≡ refusal
extension_missing reference place Empty refusal refuses = same_refusal {X = FileRecord} (Damaged AttributeMissing place) refusal refuses
extension_missing reference place Unused refusal refuses = same_refusal {X = FileRecord} (Damaged AttributeMissing place) refusal refuses
extension_missing reference place (Used found) refusal refuses = by_test (found.header.base == reference && nat_lt 0 reference) refuses
  where
    by_test : (test : Bool) → if◌then◌else◌ {A = Result FileRecord Refusal} test (Ok found) (Err (Damaged AttributeMissing place)) ≡ Err refusal → Damaged AttributeMissing place ≡ refusal
    by_test true refuses = absurd (not_given found refusal refuses)
    by_test false refuses = same_refusal {X = FileRecord} (Damaged AttributeMissing place) refusal refuses

pub none_found : (option : Option Held) (own refusal : Refusal) → ok_or option own ≡ Err refusal → (option ≡ None) × (own ≡ refusal)
none_found None own refusal refuses = (refl, same_refusal {X = Held} own refusal refuses)
none_found (Some held) own refusal refuses = absurd (not_given held refusal refuses)

module _ (image : List ℕ) (mft : Mft) (number : ℕ) (base : FileRecord) (entry : Entry) where
  abbrev Rule : Sort → ℕ → Type 0
  Rule = IsWrongEntryOf image mft number base entry

  record_refuses : (own : Bool) (refusal : Refusal) → HasWholeSectors mft.boot → (entry.number == number) ≡ own → result_of image (record_named mft number base entry own) ≡ Err refusal → IsToldBy Rule refusal
  record_refuses true refusal sectors is refuses = absurd (not_given (attributes_in number base) refusal refuses)
  record_refuses false refusal sectors is refuses =
      ⊎_elim
      (λ past. subst (IsToldBy Rule) past.1 (IsMissed (NoSlot (eqb-false entry.number number is) (ltb-false entry.number (slots mft) past.0))))
      (λ below. ⊎_elim
      (λ slot. told_weaker (IsWrongSlot image mft entry.number) Rule refusal (λ sort place wrong. NamesWrong (ltb-true entry.number (slots mft) below.0) (eqb-false entry.number number is) wrong) (slot_refuses image mft entry.number refusal sectors slot))
      (λ slot. ⊎_elim
      (λ other. subst (IsToldBy Rule) (extension_missing (reference_of number base.header) entry.place slot.0 refusal other)
      (IsMissed (NotOfFile slot.0 (eqb-false entry.number number is) slot.1 (λ found gives. not_given found refusal (sym gives ∙ other)))))
      (λ found. absurd (not_given (attributes_in entry.number found.0) refusal found.2))
      (given_refuses image (extension_of (reference_of number base.header) entry.place slot.0) (λ found. Done (attributes_in entry.number found)) refusal slot.2))
      (bind_refuses image (slot_of mft entry.number) (extension_attributes number base entry) refusal below.1))
      (check_refuses image (nat_lt entry.number (slots mft)) (Damaged AttributeMissing entry.place) (λ x. slot_of mft entry.number >>= extension_attributes number base entry) refusal refuses)

  pub entry_refuses : (refusal : Refusal) → HasWholeSectors mft.boot → result_of image (named_attribute mft number base entry) ≡ Err refusal → IsToldBy (IsWrongEntryOf image mft number base entry) refusal
  unfolding named_attribute
  entry_refuses refusal sectors refuses =
      ⊎_elim
      (λ record_refused. record_refuses (entry.number == number) refusal sectors refl record_refused)
      (λ later.
      let none = none_found (find (is_named entry) later.0) (Damaged AttributeMissing entry.place) refusal (sym (result_given image (named_in entry later.0)) ∙ later.2) in
      subst (IsToldBy Rule) none.1 (IsMissed (NoAttribute later.0 later.1 none.0)))
      (bind_refuses image (named_record mft number base entry) (λ attributes. given (named_in entry attributes)) refusal refuses)

  -- what an entry that is found goes through, where it names another slot
  pub other_slot : (attributes : List Held) → (entry.number ≡ number → ⊥) → result_of image (named_record mft number base entry) ≡ Ok attributes
      → (entry.number < slots mft) × (slot : Slot) × (found : FileRecord) × (result_of image (slot_of mft entry.number) ≡ Ok slot) × (extension_of (reference_of number base.header) entry.place slot ≡ Ok found)
  other_slot attributes differs gives =
      let other = sym (ap (λ own. result_of image (record_named mft number base entry own)) (ne_eqb entry.number number differs)) ∙ gives in
      let below = check_gives image (nat_lt entry.number (slots mft)) (Damaged AttributeMissing entry.place) (λ x. slot_of mft entry.number >>= extension_attributes number base entry) attributes other in
      let slot = bind_gives image (slot_of mft entry.number) (extension_attributes number base entry) attributes below.1 in
      let found = given_gives image (extension_of (reference_of number base.header) entry.place slot.0) (λ found. Done (attributes_in entry.number found)) attributes slot.2 in
      (ltb-true entry.number (slots mft) below.0, slot.0, found.0, slot.1, found.1)

  pub entry_is_sound : (held : Held) (sort : Sort) (place : ℕ) → result_of image (named_attribute mft number base entry) ≡ Ok held → IsMissing image mft number base entry sort place → ⊥
  unfolding named_attribute
  entry_is_sound held sort place gives missing =
      let attributes = bind_gives image (named_record mft number base entry) (λ attributes. given (named_in entry attributes)) held gives in
      by_rule attributes.0 attributes.1 (sym (result_given image (named_in entry attributes.0)) ∙ attributes.2) sort place missing
    where
      by_rule : (attributes : List Held) → result_of image (named_record mft number base entry) ≡ Ok attributes → named_in entry attributes ≡ Ok held → (s : Sort) (p : ℕ) → IsMissing image mft number base entry s p → ⊥
      by_rule attributes is found s p (NoSlot differs past) = omega (arith, (other_slot attributes differs is).0, past)
      by_rule attributes is found s p (NotOfFile slot differs slot_is none) =
          let other = other_slot attributes differs is in
          let same : other.1 ≡ slot = cc (other.3, slot_is) in
          none other.2 (sym (ap (λ slot. extension_of (reference_of number base.header) entry.place slot) same) ∙ other.4)
      by_rule attributes is found s p (NoAttribute others are none) =
          let same : others ≡ attributes = cc (is, are) in
          let nothing : named_in entry attributes ≡ Err (Damaged AttributeMissing entry.place) =
          sym (ap (named_in entry) same) ∙ ap (λ option. ok_or option (Damaged AttributeMissing entry.place)) none in
          not_given held (Damaged AttributeMissing entry.place) (sym found ∙ nothing)

-- ---- the content of a list

stream_list_told : (P : Sort → ℕ → Type 0) (image : List ℕ) (mft : Mft) (stream : Stream) (refusal : Refusal) → result_of image (stream_list mft stream) ≡ Err refusal → IsToldBy P refusal
stream_list_told P image mft stream refusal refuses =
    let place = stream_place mft.boot stream in
    ⊎_elim
    (λ long. subst (IsToldBy P) long.1 tt)
    (λ short.
    absurd (not_given (list_with mft stream (seen_from image place 0 stream.real)) refusal
    (sym (result_bind_ok image (look_bytes {E = Refusal} place 0 stream.real) (λ bytes. Done (list_with mft stream bytes)) (seen_from image place 0 stream.real) (result_look_bytes image place 0 stream.real)) ∙ short.1)))
    (check_refuses image (nat_le stream.real 1048576) (Limit AttributeList 1048576) (λ x. look_bytes place 0 stream.real >>= (λ bytes. Done (list_with mft stream bytes))) refusal refuses)

pub content_refuses : (image : List ℕ) (mft : Mft) (list : Held) (refusal : Refusal) → result_of image (list_content mft list) ≡ Err refusal → IsToldBy (IsWrongListStream mft list) refusal
content_refuses image mft list refusal refuses = by_form list.opened.attribute.form refl refuses
  where
    never : (content : ListContent) → result_of {E = Refusal} image (Done content) ≡ Err refusal → ⊥
    never content refuses = cc

    by_form : (form : Form) → list.opened.attribute.form ≡ form → result_of image (list_by mft list form) ≡ Err refusal → IsToldBy (IsWrongListStream mft list) refusal
    by_form (Resident range) is refuses = absurd cc
    by_form (NonResident header) is refuses =
        ⊎_elim
        (λ stream. told_weaker (IsWrongStream mft list []) (IsWrongListStream mft list) refusal
        (λ sort place wrong. record { in_clusters = ap is_resident_form is; wrong = wrong }) (stream_refuses mft list [] header refusal is stream))
        (λ stream. stream_list_told (IsWrongListStream mft list) image mft stream.0 refusal stream.2)
        (given_refuses image (stream_of mft list []) (stream_list mft) refusal refuses)

pub content_is_sound : (image : List ℕ) (mft : Mft) (list : Held) (content : ListContent) (sort : Sort) (place : ℕ) → result_of image (list_content mft list) ≡ Ok content → is_resident list ≡ false
    → IsWrongStream mft list [] sort place → ⊥
content_is_sound image mft list content sort place gives clusters wrong = by_form list.opened.attribute.form refl gives
  where
    by_form : (form : Form) → list.opened.attribute.form ≡ form → result_of image (list_by mft list form) ≡ Ok content → ⊥
    by_form (Resident range) is gives = false≢true (sym clusters ∙ ap is_resident_form is)
    by_form (NonResident header) is gives =
        let stream = given_gives image (stream_of mft list []) (stream_list mft) content gives in
        stream_is_sound mft list [] stream.0 sort place stream.1 wrong
