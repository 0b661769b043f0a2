-- Where a file is found, it breaks no rule: in its list and the entries of that, in its names or its parts.
use Rattle.std.specs.Prelude.{◌≡◌, ℕ, ◌^◌, ◌≤◌, ◌⊎◌, ◌==◌, not, Bool, true, false, nat_lt, if◌then◌else◌, Some, Result, Ok, Err, List, [], ◌∷◌, Contains, refl}
use Rattle.std.specs.List.{filter, list_any, All}
use Rattle.std.proofs.Common.{ap, sym, ◌∙◌, subst, ⊎_elim}
use Rattle.std.proofs.lemmas.Bool.{eq-eqb, ltb-false, false≢true}
use Rattle.std.proofs.lemmas.List.Elements.{All-cons, All-nil, All-contains}
use Rattle.image_defs.specs.Ask.{Done, result_of, given, each, ◌>>=◌}
use Rattle.image_defs.specs.Results.{with_value, in_front_of}
use Rattle.image_defs.proofs.Looks.{bind_gives, given_gives}
use Rattle.fault_defs.specs.declared.Sort.{Sort}
use Rattle.fault_defs.specs.declared.Sort.TheVariants.{Sizes, BadName}
use Rattle.fault_defs.specs.declared.Refusal.{Refusal}
use Rattle.fault_defs.specs.declared.Refusal.TheVariants.{Damaged}
use Rattle.rx_tree.specs.PartValue.{PartValue}
use Rattle.ntfs_record_defs.specs.Attributes.{Form, Resident, NonResident, is_resident_form}
use Rattle.ntfs_record_defs.specs.Record.{FileRecord}
use Rattle.ntfs_volume_defs.specs.declared.boot.Boot.{Boot}
use Rattle.ntfs_volume_defs.specs.Streams.{Stream, mapped}
use Rattle.ntfs_volume_defs.specs.Slots.{Mft, Used, slot_of}
use Rattle.ntfs_volume_defs.specs.Segments.{Held, kind_of, name_of, is_unreadable, attribute_place, segments_of, stream_of}
use Rattle.ntfs_volume_defs.specs.Lists.{Entry, ListContent, attributes_in, list_of, list_content, entries_of, named_attribute}
use Rattle.ntfs_volume_defs.specs.Names.{FoundName, is_sound_name, is_dos, found_name, names_of, file_names}
use Rattle.ntfs_volume_defs.specs.Parts.{is_part, leaders, stream_part, part_by, part_of, parts_led_by, parts_of}
use Rattle.ntfs_volume_defs.specs.Files.{Assembled, with_entries, with_list, assembled_by, assembled, file_with, with_assembled, file_by, file_in, file_of}
use Rattle.ntfs_damage_defs.specs.Wrong.{IsMissing}
use Rattle.ntfs_damage_defs.specs.Damage.{IsFileBase, AreAttributesOf, ArePartOf}
use Rattle.ntfs_damage_defs.proofs.ListDamage.{value_gives}
use Rattle.ntfs_damage_defs.proofs.EntryDamage.{entry_is_sound}
use Rattle.ntfs_damage_defs.proofs.Each.{Gives, each_gives_all, filter_all}

-- ---- names and parts that are given

names_given : (mft : Mft) (attributes : List Held) (names : List FoundName) → names_of mft attributes ≡ Ok names → All (λ held. is_sound_name held ≡ true) attributes
names_given mft [] names gives = All-nil (λ held. is_sound_name held ≡ true)
names_given mft (held ∷ more) names gives = by_test (is_sound_name held) refl gives (λ rest gives. names_given mft more rest gives)
  where
    by_test : (sound : Bool) → is_sound_name held ≡ sound
        → if◌then◌else◌ {A = Result (List FoundName) Refusal} (not sound) (Err (Damaged BadName (attribute_place mft held)))
        (with_value (λ names. if is_dos held.opened.body then names else found_name held.opened.body ∷ names) (names_of mft more)) ≡ Ok names
        → ((rest : List FoundName) → names_of mft more ≡ Ok rest → All (λ held. is_sound_name held ≡ true) more) → All (λ held. is_sound_name held ≡ true) (held ∷ more)
    by_test false is gives later = absurd cc
    by_test true is gives later =
        let rest = value_gives (λ names. if is_dos held.opened.body then names else found_name held.opened.body ∷ names) (names_of mft more) names gives in
        All-cons (λ held. is_sound_name held ≡ true) held more is (later rest.0 rest.1)

-- the part that an attribute leads is given
record IsPart (mft : Mft) (attributes : List Held) (leader : Held) : Type 0 where
  part : PartValue
  is : part_of mft (segments_of (kind_of leader) (name_of leader) attributes) ≡ Ok part

parts_given : (mft : Mft) (attributes leads : List Held) (parts : List PartValue) → parts_led_by mft attributes leads ≡ Ok parts → All (IsPart mft attributes) leads
parts_given mft attributes [] parts gives = All-nil (IsPart mft attributes)
parts_given mft attributes (held ∷ more) parts gives =
    by_part (part_of mft (segments_of (kind_of held) (name_of held) attributes)) refl gives (λ rest gives. parts_given mft attributes more rest gives)
  where
    by_part : (result : Result PartValue Refusal) → part_of mft (segments_of (kind_of held) (name_of held) attributes) ≡ result → in_front_of result (parts_led_by mft attributes more) ≡ Ok parts
        → ((rest : List PartValue) → parts_led_by mft attributes more ≡ Ok rest → All (IsPart mft attributes) more) → All (IsPart mft attributes) (held ∷ more)
    by_part (Err refusal) is gives later = absurd cc
    by_part (Ok part) is gives later =
        let rest = value_gives (λ parts. part ∷ parts) (parts_led_by mft attributes more) parts gives in
        All-cons (IsPart mft attributes) held more (record { part = part; is = is }) (later rest.0 rest.1)

-- the stream of a part that is given, which isn't too long where it is unreadable
pub record HasStream (mft : Mft) (first : Held) (more : List Held) : Type 0 where
  pub stream : Stream
  pub is : stream_of mft first more ≡ Ok stream
  pub short : list_any is_unreadable (first ∷ more) ≡ true → mapped mft.boot stream.runs ≤ 2 ^ 62

stream_given : (mft : Mft) (first : Held) (more : List Held) (unreadable : Bool) (result : Result Stream Refusal) (part : PartValue) → list_any is_unreadable (first ∷ more) ≡ unreadable → stream_of mft first more ≡ result
    → stream_part mft first unreadable result ≡ Ok part → HasStream mft first more
stream_given mft first more unreadable (Err refusal) part flags is gives = absurd cc
stream_given mft first more false (Ok stream) part flags is gives = record { stream = stream; is = is; short = λ unreadable. absurd (false≢true (sym flags ∙ unreadable)) }
stream_given mft first more true (Ok stream) part flags is gives =
    record { stream = stream; is = is; short = λ unreadable. ltb-false (2 ^ 62) (mapped mft.boot stream.runs) (by_test _ (nat_lt (2 ^ 62) (mapped mft.boot stream.runs)) gives) }
  where
    by_test : (value : PartValue) (long : Bool) → if◌then◌else◌ {A = Result PartValue Refusal} long (Err (Damaged Sizes (attribute_place mft first))) (Ok value) ≡ Ok part → long ≡ false
    by_test value true gives = absurd cc
    by_test value false gives = refl

part_given : (mft : Mft) (first : Held) (more : List Held) (form : Form) (part : PartValue) → (is_resident_form form ≡ false) ⊎ ((next : Held) × (rest : List Held) × (more ≡ next ∷ rest)) → part_by mft first more form ≡ Ok part
    → HasStream mft first more
part_given mft first [] (Resident content) part clusters gives = absurd (⊎_elim (λ resident. cc) (λ more. cc (more.2)) clusters)
part_given mft first (held ∷ more) (Resident content) part clusters gives = absurd cc
part_given mft first [] (NonResident header) part clusters gives = stream_given mft first [] (list_any is_unreadable (first ∷ [])) (stream_of mft first []) part refl refl gives
part_given mft first (held ∷ more) (NonResident header) part clusters gives =
    stream_given mft first (held ∷ more) (list_any is_unreadable (first ∷ held ∷ more)) (stream_of mft first (held ∷ more)) part refl refl gives

-- ---- what a file was found by

-- the list of a file
pub record IsReadList (image : List ℕ) (mft : Mft) (number : ℕ) (base : FileRecord) (list : Held) : Type 0 where
  pub content : ListContent
  pub content_is : result_of image (list_content mft list) ≡ Ok content
  pub entries : List Entry
  pub entries_are : entries_of mft list content ≡ Ok entries
  pub named : All (Gives image (named_attribute mft number base)) entries

module _ (image : List ℕ) (boot : Boot) (mft : Mft) (number : ℕ) (base : FileRecord) (base_is : IsFileBase image boot mft number base) (file : Gives image (file_of mft) number) where
  base_given : result_of image (file_by mft number base true) ≡ Ok file.value
  unfolding file_of
  base_given =
      let slot = bind_gives image (slot_of mft number) (file_in mft number) file.value file.gives in
      let same : slot.0 ≡ Used base = cc (slot.1, base_is.slot_is) in
      let here : result_of image (file_by mft number base (base.header.base == 0)) ≡ Ok file.value = sym (ap (λ slot. result_of image (file_in mft number slot)) same) ∙ slot.2 in
      sym (ap (λ test. result_of image (file_by mft number base test)) (eq-eqb base.header.base 0 base_is.is_base)) ∙ here

  pub file_list_is_read : (list : Held) → list_of (attributes_in number base) ≡ Some list → IsReadList image mft number base list
  file_list_is_read list list_is =
      let found = bind_gives image (assembled mft number base) (with_assembled mft number base) file.value base_given in
      let own : result_of image (assembled_by mft number base (Some list)) ≡ Ok found.0 = sym (ap (λ list. result_of image (assembled_by mft number base list)) list_is) ∙ found.1 in
      let content = bind_gives image (list_content mft list) (with_list mft number base list) found.0 own in
      let entries = given_gives image (entries_of mft list content.0) (with_entries mft number base content.0) found.0 content.2 in
      let attributes = bind_gives image (each (named_attribute mft number base) entries.0) (λ attributes. Done (record { attributes = attributes; lists = (content.0).guarded })) found.0 entries.2 in
      record { content = content.0; content_is = content.1; entries = entries.0; entries_are = entries.1; named = each_gives_all image (named_attribute mft number base) entries.0 attributes.0 attributes.1 }

  pub file_entry_is_named : (list : Held) (content : ListContent) (entries : List Entry) (entry : Entry) (sort : Sort) (place : ℕ) → list_of (attributes_in number base) ≡ Some list → result_of image (list_content mft list) ≡ Ok content
      → entries_of mft list content ≡ Ok entries → Contains entries entry → IsMissing image mft number base entry sort place → ⊥
  file_entry_is_named list content entries entry sort place list_is content_is entries_are among missing =
      let own = file_list_is_read list list_is in
      let same : own.content ≡ content = cc (own.content_is, content_is) in
      let moved : entries_of mft list content ≡ Ok own.entries = sym (ap (entries_of mft list) same) ∙ own.entries_are in
      let all : own.entries ≡ entries = cc (moved, entries_are) in
      let P : List Entry → Type 0 = λ entries. All (Gives image (named_attribute mft number base)) entries in
      let held = All-contains (Gives image (named_attribute mft number base)) entries entry (subst P all own.named) among in
      entry_is_sound image mft number base entry held.value sort place held.gives missing

  found_given : (found : Assembled) → AreAttributesOf image boot mft number base found → result_of image (with_assembled mft number base found) ≡ Ok file.value
  found_given found are =
      let own = bind_gives image (assembled mft number base) (with_assembled mft number base) file.value base_given in
      let same : own.0 ≡ found = cc (own.1, are.attributes_are) in
      sym (ap (λ found. result_of image (with_assembled mft number base found)) same) ∙ own.2

  pub name_is_sound : (found : Assembled) (held : Held) → AreAttributesOf image boot mft number base found → Contains found.attributes held → kind_of held ≡ 0x30 → is_sound_name held ≡ false → ⊥
  name_is_sound found held are among kind bad =
      let is_name : Held → Bool = λ held. kind_of held == 0x30 in
      let names = given_gives image (file_names mft found.attributes) (λ names. given (parts_of mft found.attributes) >>= (λ parts. Done (Some (file_with number base found names parts)))) file.value (found_given found are) in
      let all = filter_all is_name (λ held. is_sound_name held ≡ true) found.attributes (names_given mft (filter is_name found.attributes) names.0 names.1) in
      let sound = All-contains (λ held. is_name held ≡ true → is_sound_name held ≡ true) found.attributes held all among in
      false≢true (sym bad ∙ sound (eq-eqb (kind_of held) 0x30 kind))

  pub part_has_stream : (found : Assembled) (first : Held) (more : List Held) → AreAttributesOf image boot mft number base found → ArePartOf found first more → HasStream mft first more
  unfolding parts_of
  part_has_stream found first more are part =
      let attributes = filter is_part found.attributes in
      let names = given_gives image (file_names mft found.attributes) (λ names. given (parts_of mft found.attributes) >>= (λ parts. Done (Some (file_with number base found names parts)))) file.value (found_given found are) in
      let parts = given_gives image (parts_of mft found.attributes) (λ parts. Done (Some (file_with number base found names.0 parts))) file.value names.2 in
      let own = All-contains (IsPart mft attributes) (leaders attributes) part.leader (parts_given mft attributes (leaders attributes) parts.0 parts.1) part.leads in
      part_given mft first more first.opened.attribute.form own.part part.in_clusters (sym (ap (part_of mft) part.segments) ∙ own.is)
