-- A file that isn't found breaks a rule: in its slot, in its list and the entries of that, in its names or its parts.
use Rattle.std.specs.Prelude.{◌≡◌, ℕ, ◌^◌, ◌<◌, ◌==◌, not, Bool, true, false, nat_lt, if◌then◌else◌, Option, Some, None, Result, Ok, Err, List, [], ◌∷◌, Contains, refl}
use Rattle.std.specs.List.{filter, list_any}
use Rattle.std.proofs.Common.{ap, sym, ◌∙◌, subst, ⊎_elim, inl, inr}
use Rattle.std.proofs.lemmas.Bool.{eqb-true, ltb-true}
use Rattle.std.proofs.lemmas.List.Elements.{All-contains, All-contains_itself, All-filter, filter_passes}
use Rattle.image_defs.specs.Ask.{Done, result_of, given, each, ◌>>=◌}
use Rattle.image_defs.specs.Results.{with_value, in_front_of}
use Rattle.image_defs.proofs.Looks.{bind_refuses, given_refuses}
use Rattle.fault_defs.specs.declared.Sort.{Sort}
use Rattle.fault_defs.specs.declared.Sort.TheVariants.{SegmentGap, Sizes, BadName}
use Rattle.fault_defs.specs.declared.Refusal.{Refusal}
use Rattle.fault_defs.specs.declared.Refusal.TheVariants.{Damaged}
use Rattle.rx_tree.specs.PartValue.{PartValue}
use Rattle.ntfs_record_defs.specs.Attributes.{Form, Resident, NonResident, is_resident_form}
use Rattle.ntfs_record_defs.specs.Record.{FileRecord}
use Rattle.ntfs_volume_defs.specs.declared.boot.Boot.{Boot}
use Rattle.ntfs_volume_defs.specs.Streams.{Stream, mapped}
use Rattle.ntfs_volume_defs.specs.Slots.{Mft, Slot, Empty, Unused, Used, slots, slot_of}
use Rattle.ntfs_volume_defs.specs.Segments.{Held, kind_of, name_of, is_resident, is_unreadable, attribute_place, segments_of, stream_of}
use Rattle.ntfs_volume_defs.specs.Lists.{Entry, ListContent, attributes_in, list_of, list_content, entries_of, named_attribute}
use Rattle.ntfs_volume_defs.specs.Mft.{mft_of}
use Rattle.ntfs_volume_defs.specs.Names.{FoundName, is_sound_name, is_dos, found_name, names_of, file_names}
use Rattle.ntfs_volume_defs.specs.Parts.{is_part, leaders, resident_part, readable_part, stream_part, part_by, part_of, parts_led_by, parts_of}
use Rattle.ntfs_volume_defs.specs.Files.{Assembled, with_entries, with_list, assembled_by, assembled, file_with, with_assembled, file_by, file_in, file_of}
use Rattle.ntfs_guard_defs.proofs.VolumeLaws.{mft_boot}
use Rattle.ntfs_damage_defs.specs.Told.{IsToldBy}
use Rattle.ntfs_damage_defs.proofs.Told.{told_weaker, same_refusal, not_given}
use Rattle.ntfs_damage_defs.specs.Wrong.{IsWrongSlot, Twice, IsWrongStream, WrongSegment, IsWrongList}
use Rattle.ntfs_damage_defs.specs.Damage.{IsBoot, IsFileBase, OfFile, HasContent, Below, AreAttributesOf, ArePartOf, IsFalseAt, WrongSlot, WrongListStream, WrongListEntry, Missing, NoName, WrongPart, TooLongUnreadable}
use Rattle.ntfs_damage_defs.specs.SlotDamage.{HasWholeSectors}
use Rattle.ntfs_damage_defs.specs.EntryDamage.{IsWrongListStream}
use Rattle.ntfs_damage_defs.proofs.SlotDamage.{slot_refuses}
use Rattle.ntfs_damage_defs.proofs.StreamDamage.{stream_refuses}
use Rattle.ntfs_damage_defs.proofs.ListDamage.{value_refuses, list_refuses}
use Rattle.ntfs_damage_defs.proofs.EntryDamage.{IsWrongEntryOf, IsMissed, NamesWrong, entry_refuses, content_refuses}
use Rattle.ntfs_damage_defs.proofs.BootDamage.{boot_is_read}
use Rattle.ntfs_damage_defs.proofs.Each.{contains_first, contains_later, each_refuses}

-- ---- names and parts that are refused

record IsBadName (mft : Mft) (attributes : List Held) (refusal : Refusal) : Type 0 where
  held : Held
  among : Contains attributes held
  bad : is_sound_name held ≡ false
  told : Damaged BadName (attribute_place mft held) ≡ refusal

names_refuse : (mft : Mft) (attributes : List Held) (refusal : Refusal) → names_of mft attributes ≡ Err refusal → IsBadName mft attributes refusal
names_refuse mft [] refusal refuses = absurd cc
names_refuse mft (held ∷ more) refusal refuses = by_test (is_sound_name held) refl refuses (λ later. names_refuse mft more refusal later)
  where
    by_test : (sound : Bool) → is_sound_name held ≡ sound
        → if◌then◌else◌ {A = Result (List FoundName) Refusal} (not sound) (Err (Damaged BadName (attribute_place mft held)))
        (with_value (λ names. if is_dos held.opened.body then names else found_name held.opened.body ∷ names) (names_of mft more)) ≡ Err refusal
        → (names_of mft more ≡ Err refusal → IsBadName mft more refusal) → IsBadName mft (held ∷ more) refusal
    by_test false is refuses later =
        record { held = held; among = contains_first held more; bad = is; told = same_refusal {X = List FoundName} (Damaged BadName (attribute_place mft held)) refusal refuses }
    by_test true is refuses later =
        let found = later (value_refuses (λ names. if is_dos held.opened.body then names else found_name held.opened.body ∷ names) (names_of mft more) refusal refuses) in
        record { held = found.held; among = contains_later held found.held more found.among; bad = found.bad; told = found.told }

record IsBadPart (mft : Mft) (attributes leads : List Held) (refusal : Refusal) : Type 0 where
  leader : Held
  among : Contains leads leader
  refuses : part_of mft (segments_of (kind_of leader) (name_of leader) attributes) ≡ Err refusal

parts_refuse : (mft : Mft) (attributes leads : List Held) (refusal : Refusal) → parts_led_by mft attributes leads ≡ Err refusal → IsBadPart mft attributes leads refusal
parts_refuse mft attributes [] refusal refuses = absurd cc
parts_refuse mft attributes (held ∷ more) refusal refuses =
    by_part (part_of mft (segments_of (kind_of held) (name_of held) attributes)) refl refuses (λ later. parts_refuse mft attributes more refusal later)
  where
    by_part : (part : Result PartValue Refusal) → part_of mft (segments_of (kind_of held) (name_of held) attributes) ≡ part → in_front_of part (parts_led_by mft attributes more) ≡ Err refusal
        → (parts_led_by mft attributes more ≡ Err refusal → IsBadPart mft attributes more refusal) → IsBadPart mft attributes (held ∷ more) refusal
    by_part (Err other) is refuses later =
        record { leader = held; among = contains_first held more; refuses = is ∙ ap Err (same_refusal {X = List PartValue} other refusal refuses) }
    by_part (Ok part) is refuses later =
        let found = later (value_refuses (λ parts. part ∷ parts) (parts_led_by mft attributes more) refusal refuses) in
        record { leader = found.leader; among = contains_later held found.leader more found.among; refuses = found.refuses }

-- ---- what refuses

module _ (image : List ℕ) (at len : ℕ) (boot : Boot) (mft : Mft) (number : ℕ) (is_boot : IsBoot image at len boot) (mft_is : result_of image (mft_of boot) ≡ Ok mft) (below : number < slots mft) where
  abbrev Rules : Sort → ℕ → Type 0
  Rules = IsFalseAt image at len

  sectors : HasWholeSectors mft.boot
  sectors = subst HasWholeSectors (sym (mft_boot image boot mft mft_is)) (boot_is_read image at len boot is_boot).sectors

  module _ (base : FileRecord) (base_is : IsFileBase image boot mft number base) where
    -- ---- a part

    module _ (found : Assembled) (found_is : AreAttributesOf image boot mft number base found) where
      stream_told : (first : Held) (more : List Held) (unreadable : Bool) (result : Result Stream Refusal) (refusal : Refusal) → ArePartOf found first more → is_resident first ≡ false
          → list_any is_unreadable (first ∷ more) ≡ unreadable → stream_of mft first more ≡ result → stream_part mft first unreadable result ≡ Err refusal → IsToldBy Rules refusal
      stream_told first more unreadable (Err other) refusal part clusters flags stream refuses =
          by_form first.opened.attribute.form refl clusters
        where
          by_form : (form : Form) → first.opened.attribute.form ≡ form → is_resident_form form ≡ false → IsToldBy Rules refusal
          by_form (Resident content) is clusters = absurd cc
          by_form (NonResident header) is clusters =
              told_weaker (IsWrongStream mft first more) Rules refusal (λ sort place wrong. WrongPart boot mft number base found first more sort place is_boot found_is part wrong)
              (stream_refuses mft first more header refusal is (stream ∙ ap Err (same_refusal {X = PartValue} other refusal refuses)))
      stream_told first more false (Ok stream) refusal part clusters flags is refuses = absurd (not_given (readable_part mft first stream) refusal refuses)
      stream_told first more true (Ok stream) refusal part clusters flags is refuses = by_test _ (nat_lt (2 ^ 62) (mapped mft.boot stream.runs)) refl refuses
        where
          by_test : (part : PartValue) (long : Bool) → nat_lt (2 ^ 62) (mapped mft.boot stream.runs) ≡ long
              → if◌then◌else◌ {A = Result PartValue Refusal} long (Err (Damaged Sizes (attribute_place mft first))) (Ok part) ≡ Err refusal → IsToldBy Rules refusal
          by_test value true test refuses =
              subst (IsToldBy Rules) (same_refusal {X = PartValue} (Damaged Sizes (attribute_place mft first)) refusal refuses)
              (TooLongUnreadable boot mft number base found first more stream is_boot found_is part flags is (ltb-true (2 ^ 62) (mapped mft.boot stream.runs) test))
          by_test value false test refuses = absurd (not_given value refusal refuses)

      part_told : (leader : Held) (segments : List Held) (refusal : Refusal) → Contains (leaders (filter is_part found.attributes)) leader
          → segments_of (kind_of leader) (name_of leader) (filter is_part found.attributes) ≡ segments → part_of mft segments ≡ Err refusal → IsToldBy Rules refusal
      part_told leader [] refusal leads are refuses = absurd cc
      part_told leader (first ∷ more) refusal leads are refuses = by_form more first.opened.attribute.form are refl refuses
        where
          by_form : (more : List Held) (form : Form) → segments_of (kind_of leader) (name_of leader) (filter is_part found.attributes) ≡ first ∷ more → first.opened.attribute.form ≡ form
              → part_by mft first more form ≡ Err refusal → IsToldBy Rules refusal
          by_form [] (Resident content) are is refuses = absurd (not_given (resident_part mft first content) refusal refuses)
          by_form (held ∷ rest) (Resident content) are is refuses =
              subst (IsToldBy Rules) (same_refusal {X = PartValue} (Damaged SegmentGap (attribute_place mft first)) refusal refuses)
              (WrongPart boot mft number base found first (held ∷ rest) SegmentGap (attribute_place mft first) is_boot found_is
              (record { leader = leader; leads = leads; segments = are; in_clusters = inr (held, rest, refl) })
              (WrongSegment [] first (held ∷ rest) [] SegmentGap (attribute_place mft first) refl refl (Twice content is)))
          by_form [] (NonResident header) are is refuses =
              stream_told first [] (list_any is_unreadable (first ∷ [])) (stream_of mft first []) refusal
              (record { leader = leader; leads = leads; segments = are; in_clusters = inl (ap is_resident_form is) }) (ap is_resident_form is) refl refl refuses
          by_form (held ∷ rest) (NonResident header) are is refuses =
              stream_told first (held ∷ rest) (list_any is_unreadable (first ∷ held ∷ rest)) (stream_of mft first (held ∷ rest)) refusal
              (record { leader = leader; leads = leads; segments = are; in_clusters = inl (ap is_resident_form is) }) (ap is_resident_form is) refl refl refuses

      name_told : (refusal : Refusal) → file_names mft found.attributes ≡ Err refusal → IsToldBy Rules refusal
      name_told refusal refuses =
          let is_name : Held → Bool = λ held. kind_of held == 0x30 in
          let bad = names_refuse mft (filter is_name found.attributes) refusal refuses in
          let own = All-contains (Contains found.attributes) (filter is_name found.attributes) bad.held (All-filter is_name (Contains found.attributes) found.attributes (All-contains_itself found.attributes)) bad.among in
          let kind = All-contains (λ held. is_name held ≡ true) (filter is_name found.attributes) bad.held (filter_passes is_name found.attributes) bad.among in
          subst (IsToldBy Rules) bad.told (NoName boot mft number base found bad.held is_boot found_is own (eqb-true (kind_of bad.held) 0x30 kind) bad.bad)

      parts_told : (refusal : Refusal) → parts_of mft found.attributes ≡ Err refusal → IsToldBy Rules refusal
      unfolding parts_of
      parts_told refusal refuses =
          let bad = parts_refuse mft (filter is_part found.attributes) (leaders (filter is_part found.attributes)) refusal refuses in
          part_told bad.leader (segments_of (kind_of bad.leader) (name_of bad.leader) (filter is_part found.attributes)) refusal bad.among refl bad.refuses

      with_told : (refusal : Refusal) → result_of image (with_assembled mft number base found) ≡ Err refusal → IsToldBy Rules refusal
      with_told refusal refuses =
          ⊎_elim
          (λ names. name_told refusal names)
          (λ names. ⊎_elim
          (λ parts. parts_told refusal parts)
          (λ parts. absurd (not_given (Some (file_with number base found names.0 parts.0)) refusal parts.2))
          (given_refuses image (parts_of mft found.attributes) (λ parts. Done (Some (file_with number base found names.0 parts))) refusal names.2))
          (given_refuses image (file_names mft found.attributes) (λ names. given (parts_of mft found.attributes) >>= (λ parts. Done (Some (file_with number base found names parts)))) refusal refuses)

    -- ---- the attributes

    entry_told : (list : Held) (content : ListContent) (entries : List Entry) (entry : Entry) (refusal : Refusal) → HasContent image boot mft number base list content → entries_of mft list content ≡ Ok entries
        → Contains entries entry → result_of image (named_attribute mft number base entry) ≡ Err refusal → IsToldBy Rules refusal
    entry_told list content entries entry refusal has are among refuses =
        told_weaker (IsWrongEntryOf image mft number base entry) Rules refusal by_rule (entry_refuses image mft number base entry refusal sectors refuses)
      where
        by_rule : (sort : Sort) (place : ℕ) → IsWrongEntryOf image mft number base entry sort place → IsFalseAt image at len sort place
        by_rule sort place (IsMissed missing) = Missing boot mft number base list content entries entry sort place is_boot base_is has are among missing
        by_rule sort place (NamesWrong inside other wrong) = WrongSlot boot mft entry.number sort place is_boot (Below mft entry.number mft_is inside) wrong

    assembled_told : (list : Option Held) (refusal : Refusal) → list_of (attributes_in number base) ≡ list → result_of image (assembled_by mft number base list) ≡ Err refusal → IsToldBy Rules refusal
    assembled_told None refusal list_is refuses = absurd cc
    assembled_told (Some list) refusal list_is refuses =
        let is_list = OfFile mft number base list base_is list_is in
        ⊎_elim
        (λ content. told_weaker (IsWrongListStream mft list) Rules refusal (λ sort place wrong. WrongListStream boot mft number base list sort place is_boot is_list wrong.in_clusters wrong.wrong) (content_refuses image mft list refusal content))
        (λ content.
        let has : HasContent image boot mft number base list content.0 = record { list_is = is_list; content_is = content.1 } in
        ⊎_elim
        (λ entries. told_weaker (IsWrongList mft list content.0) Rules refusal (λ sort place wrong. WrongListEntry boot mft number base list content.0 sort place is_boot has wrong) (list_refuses mft list content.0 refusal entries))
        (λ entries. ⊎_elim
        (λ refused.
        let entry = each_refuses image (named_attribute mft number base) entries.0 refusal refused in
        entry_told list content.0 entries.0 entry.item refusal has entries.1 entry.among entry.refuses)
        (λ attributes. absurd (not_given (record { attributes = attributes.0; lists = (content.0).guarded }) refusal attributes.2))
        (bind_refuses image (each (named_attribute mft number base) entries.0) (λ attributes. Done (record { attributes = attributes; lists = (content.0).guarded })) refusal entries.2))
        (given_refuses image (entries_of mft list content.0) (with_entries mft number base content.0) refusal content.2))
        (bind_refuses image (list_content mft list) (with_list mft number base list) refusal refuses)

  -- ---- a file

  pub file_refuses : (refusal : Refusal) → result_of image (file_of mft number) ≡ Err refusal → IsToldBy (IsFalseAt image at len) refusal
  unfolding file_of
  file_refuses refusal refuses =
      ⊎_elim
      (λ slot. told_weaker (IsWrongSlot image mft number) Rules refusal (λ sort place wrong. WrongSlot boot mft number sort place is_boot (Below mft number mft_is below) wrong) (slot_refuses image mft number refusal sectors slot))
      (λ slot. by_slot slot.0 slot.1 slot.2)
      (bind_refuses image (slot_of mft number) (file_in mft number) refusal refuses)
    where
      by_base : (base : FileRecord) (is_base : Bool) → (base.header.base == 0) ≡ is_base → result_of image (slot_of mft number) ≡ Ok (Used base) → result_of image (file_by mft number base is_base) ≡ Err refusal → IsToldBy Rules refusal
      by_base base false test is refuses = absurd cc
      by_base base true test is refuses =
          let base_is : IsFileBase image boot mft number base = record { mft_is = mft_is; below = below; slot_is = is; is_base = eqb-true base.header.base 0 test } in
          ⊎_elim
          (λ assembled. assembled_told base base_is (list_of (attributes_in number base)) refusal refl assembled)
          (λ found. with_told base base_is found.0 (record { base_is = base_is; attributes_are = found.1 }) refusal found.2)
          (bind_refuses image (assembled mft number base) (with_assembled mft number base) refusal refuses)

      by_slot : (slot : Slot) → result_of image (slot_of mft number) ≡ Ok slot → result_of image (file_in mft number slot) ≡ Err refusal → IsToldBy Rules refusal
      by_slot Empty is refuses = absurd cc
      by_slot Unused is refuses = absurd cc
      by_slot (Used base) is refuses = by_base base (base.header.base == 0) refl is refuses
