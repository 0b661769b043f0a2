-- A $MFT that isn't found breaks a rule.
use Rattle.std.specs.Prelude.{◌≡◌, ℕ, ◌+◌, ◌*◌, ◌==◌, Bool, true, false, nat_le, if◌then◌else◌, Option, Some, None, Result, Ok, Err, List, [], ◌∷◌, ◌++◌, refl}
use Rattle.std.specs.List.{filter}
use Rattle.std.proofs.Common.{arith, ap, sym, ◌∙◌, subst, ⊎_elim, inl, inr, append_assoc}
use Rattle.std.proofs.lemmas.Bool.{eqb-true, eqb-false, leb-true, leb-false, or_left, false≢true}
use Rattle.image_defs.specs.Ask.{Done, result_of, given, ◌>>=◌}
use Rattle.image_defs.proofs.Results.{result_bind_ok, result_given}
use Rattle.image_defs.proofs.Looks.{bind_gives, given_gives, bind_refuses, check_refuses, given_refuses}
use Rattle.fault_defs.specs.declared.Sort.{Sort}
use Rattle.fault_defs.specs.declared.Sort.TheVariants.{MftMap, AttributeMissing}
use Rattle.fault_defs.specs.declared.Bound.TheVariants.{Slots}
use Rattle.fault_defs.specs.declared.Refusal.{Refusal}
use Rattle.fault_defs.specs.declared.Refusal.TheVariants.{Limit}
use Rattle.ntfs_record_defs.specs.Attributes.{Stream as StreamHeader, Form, Resident, NonResident, is_resident_form}
use Rattle.ntfs_record_defs.specs.Record.{FileRecord}
use Rattle.ntfs_volume_defs.specs.declared.boot.Boot.{Boot}
use Rattle.ntfs_volume_defs.specs.Streams.{mapped}
use Rattle.ntfs_volume_defs.specs.Slots.{Mft, Slot, Empty, Unused, Used, slots, first_slot_at, slot_of}
use Rattle.ntfs_volume_defs.specs.Segments.{Held, is_resident, is_unreadable, clusters_in, segment_runs, segments_of, stream_of}
use Rattle.ntfs_volume_defs.specs.Lists.{Entry, attributes_in, list_of, list_content, entries_of, named_in, record_named, named_attribute}
use Rattle.ntfs_volume_defs.specs.Mft.{no_map, first_slot_alone, with_content, with_runs, is_no_map, with_segment, and_then_segments, with_segments, first_base, is_for_content, segment_in, next_segment, segments_behind, mft_entries, all_segments, known_mft, mft_with, mft_behind, mft_of}
use Rattle.ntfs_guard_defs.proofs.VolumeLaws.{base_is}
use Rattle.ntfs_guard_defs.proofs.MapLaws.{behind_boot, entry_gives}
use Rattle.ntfs_damage_defs.specs.Told.{IsToldBy}
use Rattle.ntfs_damage_defs.proofs.Told.{told_weaker, same_refusal, not_given}
use Rattle.ntfs_damage_defs.specs.Wrong.{IsWrongSlot, IsWrongSegment, IsWrongStream, IsWrongList, NoAttribute}
use Rattle.ntfs_damage_defs.specs.Damage.{IsBoot, HasFirstSlot, IsMftBase, OfMft, AreMftEntries, IsNextEntry, IsMapped, First, Next, IsMftSegment, Own, Listed, known_mft_of, IsFalseAt, WrongSlot, WrongListStream, WrongListEntry, MissingSegment, NoFirstSlot, NoMftBase, NoMapping, NotMapped, NoMftContent, WrongMftSegment, WrongMftStart}
use Rattle.ntfs_damage_defs.specs.SlotDamage.{HasWholeSectors}
use Rattle.ntfs_damage_defs.proofs.BootDamage.{boot_is_read}
use Rattle.ntfs_damage_defs.proofs.SlotDamage.{slot_refuses}
use Rattle.ntfs_damage_defs.proofs.StreamDamage.{segment_refuses, stream_refuses}
use Rattle.ntfs_damage_defs.proofs.ListDamage.{value_refuses, list_refuses}
use Rattle.ntfs_damage_defs.specs.EntryDamage.{IsWrongListStream}
use Rattle.ntfs_damage_defs.proofs.EntryDamage.{none_found, IsWrongEntryOf, IsMissed, NamesWrong, entry_refuses, content_refuses}

-- ---- more segments

pub segments_push : (boot : Boot) (start known : Option Mft) (front : List Held) (held : Held) (next : Mft) → with_segments boot start front ≡ Ok known → with_segment boot known held ≡ Ok next
    → with_segments boot start (front ++ held ∷ []) ≡ Ok (Some next)
segments_push boot start known [] held next before is =
    let same : known ≡ start = cc in
    ap (λ result. and_then_segments result (λ mft. Ok (Some mft))) (sym (ap (λ known. with_segment boot known held) same) ∙ is)
segments_push boot start known (first ∷ front) held next before is =
    by_result (with_segment boot start first) before (λ mft rest. segments_push boot (Some mft) known front held next rest is)
  where
    by_result : (result : Result Mft Refusal) → and_then_segments result (λ mft. with_segments boot (Some mft) front) ≡ Ok known
        → ((mft : Mft) → with_segments boot (Some mft) front ≡ Ok known → with_segments boot (Some mft) (front ++ held ∷ []) ≡ Ok (Some next))
        → and_then_segments result (λ mft. with_segments boot (Some mft) (front ++ held ∷ [])) ≡ Ok (Some next)
    by_result (Ok mft) before later = later mft before
    by_result (Err refusal) before later = absurd cc

behind_one : (image : List ℕ) (boot : Boot) (base : FileRecord) (known : Option Mft) (entry : Entry) (entries : List Entry) (held : Held) (mft : Mft) → result_of image (next_segment boot base known entry) ≡ Ok held
    → with_segment boot known held ≡ Ok mft → result_of image (segments_behind boot base known (entry ∷ entries)) ≡ result_of image (segments_behind boot base (Some mft) entries)
unfolding segments_behind
behind_one image boot base known entry entries held mft next is =
    result_bind_ok image (next_segment boot base known entry) _ held next ∙ result_bind_ok image (given (with_segment boot known held)) _ mft (result_given image (with_segment boot known held) ∙ is)

pub behind_none : (image : List ℕ) (boot : Boot) (base : FileRecord) (known : Option Mft) → result_of image (segments_behind boot base known []) ≡ Ok known
unfolding segments_behind
behind_none image boot base known = refl

pub entries_push : (image : List ℕ) (boot : Boot) (base : FileRecord) (start known : Option Mft) (front : List Entry) (entry : Entry) (held : Held) (mft : Mft)
    → result_of image (segments_behind boot base start front) ≡ Ok known → result_of image (next_segment boot base known entry) ≡ Ok held → with_segment boot known held ≡ Ok mft
    → result_of image (segments_behind boot base start (front ++ entry ∷ [])) ≡ Ok (Some mft)
entries_push image boot base start known [] entry held mft before next is =
    let same : known ≡ start = cc (sym before ∙ behind_none image boot base start) in
    behind_one image boot base start entry [] held mft (sym (ap (λ known. result_of image (next_segment boot base known entry)) same) ∙ next) (sym (ap (λ known. with_segment boot known held) same) ∙ is)
    ∙ behind_none image boot base (Some mft)
entries_push image boot base start known (first ∷ front) entry held mft before next is =
    let one = entry_gives image boot base start first front known before in
    behind_one image boot base start first (front ++ entry ∷ []) one.0 one.1 one.2 one.3 ∙ entries_push image boot base (Some one.1) known front entry held mft one.4 next is

-- some segments are known behind one
pub still_known : (boot : Boot) (mft : Mft) (more : List Held) → with_segments boot (Some mft) more ≡ Ok None → ⊥
still_known boot mft [] is = absurd cc
still_known boot mft (held ∷ more) is = by_result (with_segment boot (Some mft) held) is (λ next rest. still_known boot next more rest)
  where
    by_result : (result : Result Mft Refusal) → and_then_segments result (λ mft. with_segments boot (Some mft) more) ≡ Ok None → ((next : Mft) → with_segments boot (Some next) more ≡ Ok None → ⊥) → ⊥
    by_result (Ok next) is later = later next is
    by_result (Err refusal) is later = cc

pub no_segments : (boot : Boot) (segments : List Held) → with_segments boot None segments ≡ Ok None → segments ≡ []
no_segments boot [] is = refl
no_segments boot (held ∷ more) is = absurd (by_result (with_segment boot None held) is)
  where
    by_result : (result : Result Mft Refusal) → and_then_segments result (λ mft. with_segments boot (Some mft) more) ≡ Ok None → ⊥
    by_result (Ok next) is = still_known boot next more is
    by_result (Err refusal) is = cc

pub still_known_behind : (image : List ℕ) (boot : Boot) (base : FileRecord) (mft : Mft) (entries : List Entry) → result_of image (segments_behind boot base (Some mft) entries) ≡ Ok None → ⊥
still_known_behind image boot base mft [] is = cc (sym is ∙ behind_none image boot base (Some mft))
still_known_behind image boot base mft (entry ∷ entries) is =
    let one = entry_gives image boot base (Some mft) entry entries None is in
    still_known_behind image boot base one.1 entries one.4

pub no_entries : (image : List ℕ) (boot : Boot) (base : FileRecord) (entries : List Entry) → result_of image (segments_behind boot base None entries) ≡ Ok None → entries ≡ []
no_entries image boot base [] is = refl
no_entries image boot base (entry ∷ entries) is =
    let one = entry_gives image boot base None entry entries None is in
    absurd (still_known_behind image boot base one.1 entries one.4)

-- ---- what a segment is

pub clustered : (form : Form) → is_resident_form form ≡ false → (header : StreamHeader) × (form ≡ NonResident header)
clustered (Resident content) is = absurd cc
clustered (NonResident header) is = (header, refl)

pub mapping_is_clustered : (held : Held) → is_no_map held ≡ false → is_resident held ≡ false
mapping_is_clustered held maps = by_test (is_resident held) refl
  where
    by_test : (test : Bool) → is_resident held ≡ test → is_resident held ≡ false
    by_test true is = absurd (false≢true (sym maps ∙ or_left (is_resident held) (is_unreadable held) is))
    by_test false is = is

-- the base record in slot 0
pub first_base_is : (boot : Boot) (slot : Slot) (base : FileRecord) → first_base boot slot ≡ Ok base → (slot ≡ Used base) × (base.header.base ≡ 0)
first_base_is boot slot base gives = let is = base_is boot slot base gives in (is.0, eqb-true base.header.base 0 is.1)

-- ---- what refuses

module _ (image : List ℕ) (at len : ℕ) (boot : Boot) (is_boot : IsBoot image at len boot) where
  sectors : HasWholeSectors boot
  sectors = (boot_is_read image at len boot is_boot).sectors

  abbrev pub Rules : Sort → ℕ → Type 0
  Rules = IsFalseAt image at len

  segment_told : (known : Option Mft) (held : Held) (refusal : Refusal) → IsMftSegment image boot known held → with_segment boot known held ≡ Err refusal → IsToldBy Rules refusal
  segment_told None held refusal segment refuses = by_test (is_no_map held) refl refuses
    where
      by_test : (test : Bool) → is_no_map held ≡ test → (if test then Err (no_map boot) else with_content boot (stream_of (first_slot_alone boot) held [])) ≡ Err refusal → IsToldBy Rules refusal
      by_test true is refuses = subst (IsToldBy Rules) (same_refusal {X = Mft} (no_map boot) refusal refuses) (NoMapping boot None held is_boot segment is)
      by_test false is refuses =
          let header = clustered held.opened.attribute.form (mapping_is_clustered held is) in
          let stream : stream_of (first_slot_alone boot) held [] ≡ Err refusal =
          value_refuses (λ stream. record { boot = boot; content = stream }) (stream_of (first_slot_alone boot) held []) refusal refuses in
          told_weaker (IsWrongStream (first_slot_alone boot) held []) Rules refusal (λ sort place wrong. WrongMftStart boot held sort place is_boot segment is wrong)
          (stream_refuses (first_slot_alone boot) held [] header.0 refusal header.1 stream)
  segment_told (Some mft) held refusal segment refuses = by_test (is_no_map held) refl refuses
    where
      by_test : (test : Bool) → is_no_map held ≡ test
          → (if test then Err (no_map boot) else with_runs mft (segment_runs mft (clusters_in mft.content.runs) held held.opened.attribute.form)) ≡ Err refusal → IsToldBy Rules refusal
      by_test true is refuses = subst (IsToldBy Rules) (same_refusal {X = Mft} (no_map boot) refusal refuses) (NoMapping boot (Some mft) held is_boot segment is)
      by_test false is refuses =
          let runs : segment_runs mft (clusters_in mft.content.runs) held held.opened.attribute.form ≡ Err refusal =
          value_refuses (λ runs. record mft { content = record mft.content { runs = mft.content.runs ++ runs } }) (segment_runs mft (clusters_in mft.content.runs) held held.opened.attribute.form) refusal refuses in
          told_weaker (IsWrongSegment mft (clusters_in mft.content.runs) held) Rules refusal (λ sort place wrong. WrongMftSegment boot mft held sort place is_boot segment is wrong)
          (segment_refuses mft (clusters_in mft.content.runs) held held.opened.attribute.form refusal refl runs)

  own_told : (base : FileRecord) (front rest : List Held) (known : Option Mft) (refusal : Refusal) → IsMftBase image boot base → list_of (attributes_in 0 base) ≡ None
      → segments_of 0x80 [] (attributes_in 0 base) ≡ front ++ rest → with_segments boot None front ≡ Ok known → with_segments boot known rest ≡ Err refusal → IsToldBy Rules refusal
  own_told base front [] known refusal base_is none split before refuses = absurd (not_given known refusal refuses)
  own_told base front (held ∷ rest) known refusal base_is none split before refuses =
      by_result (with_segment boot known held) refl refuses
      (λ next is more. own_told base (front ++ held ∷ []) rest (Some next) refusal base_is none (split ∙ sym (append_assoc front (held ∷ []) rest)) (segments_push boot None known front held next before is) more)
    where
      by_result : (result : Result Mft Refusal) → with_segment boot known held ≡ result → and_then_segments result (λ mft. with_segments boot (Some mft) rest) ≡ Err refusal
          → ((next : Mft) → with_segment boot known held ≡ Ok next → with_segments boot (Some next) rest ≡ Err refusal → IsToldBy Rules refusal) → IsToldBy Rules refusal
      by_result (Ok next) is refuses later = later next is refuses
      by_result (Err other) is refuses later =
          segment_told known held refusal (Own base front rest held known base_is none split before) (is ∙ ap Err (same_refusal {X = Option Mft} other refusal refuses))

  next_told : (base : FileRecord) (known : Option Mft) (entry : Entry) (own : Bool) (refusal : Refusal) → IsNextEntry image boot base known entry → (entry.number == 0) ≡ own
      → result_of image (segment_in boot base known entry own) ≡ Err refusal → IsToldBy Rules refusal
  next_told base known entry true refusal next is refuses =
      let none = none_found _ _ refusal (sym (result_given image (named_in entry (attributes_in 0 base))) ∙ refuses) in
      let mft = known_mft_of boot known in
      subst (IsToldBy Rules) none.1
      (MissingSegment boot base known entry AttributeMissing entry.place is_boot next (inl (eqb-true entry.number 0 is))
      (NoAttribute (attributes_in 0 base) (ap (λ own. result_of image (record_named mft 0 base entry own)) is) none.0))
  next_told base None entry false refusal next is refuses =
      subst (IsToldBy Rules) (same_refusal {X = Held} (no_map boot) refusal refuses) (NotMapped boot base None entry is_boot next (eqb-false entry.number 0 is) (λ mft none maps. absurd cc))
  next_told base (Some mft) entry false refusal next is refuses =
      let boot_is : mft.boot ≡ boot = behind_boot image boot base None next.front (Some mft) tt next.known_is in
      let differs = eqb-false entry.number 0 is in
      ⊎_elim
      (λ past. subst (IsToldBy Rules) past.1
      (NotMapped boot base (Some mft) entry is_boot next differs (λ other same maps.
      let own : other ≡ mft = cc in
      let P : Mft → Type 0 = λ mft. IsMapped boot mft entry in
      let fits : IsMapped boot mft entry = subst P own maps in
      omega (arith, fits, leb-false ((entry.number + 1) * boot.record_size) (mapped boot mft.content.runs) past.0))))
      (λ fits.
      let maps : IsMapped boot mft entry = leb-true _ _ fits.0 in
      told_weaker (IsWrongEntryOf image mft 0 base entry) Rules refusal (λ sort place wrong. by_rule next differs maps sort place wrong)
      (entry_refuses image mft 0 base entry refusal (subst HasWholeSectors (sym boot_is) sectors) fits.1))
      (check_refuses image (nat_le ((entry.number + 1) * boot.record_size) (mapped boot mft.content.runs)) (no_map boot) (λ x. named_attribute mft 0 base entry) refusal refuses)
    where
      by_rule : IsNextEntry image boot base (Some mft) entry → (entry.number ≡ 0 → ⊥) → IsMapped boot mft entry → (sort : Sort) (place : ℕ) → IsWrongEntryOf image mft 0 base entry sort place → IsFalseAt image at len sort place
      by_rule next differs maps sort place (IsMissed missing) = MissingSegment boot base (Some mft) entry sort place is_boot next (inr (mft, refl, maps)) missing
      by_rule next differs maps sort place (NamesWrong below other wrong) = WrongSlot boot mft entry.number sort place is_boot (Next base mft entry next differs maps below) wrong

  listed_told : (base : FileRecord) (front rest : List Entry) (known : Option Mft) (refusal : Refusal) → AreMftEntries image boot base (front ++ rest) → result_of image (segments_behind boot base None front) ≡ Ok known
      → result_of image (segments_behind boot base known rest) ≡ Err refusal → IsToldBy Rules refusal
  unfolding segments_behind
  listed_told base front [] known refusal entries before refuses = absurd (not_given known refusal refuses)
  listed_told base front (entry ∷ rest) known refusal entries before refuses =
      let next : IsNextEntry image boot base known entry = record { front = front; back = rest; entries = entries; known_is = before } in
      ⊎_elim
      (λ first. next_told base known entry (entry.number == 0) refusal next refl first)
      (λ later. ⊎_elim
      (λ segment. segment_told known later.0 refusal (Listed base known entry later.0 next later.1) segment)
      (λ more.
      listed_told base (front ++ entry ∷ []) rest (Some more.0) refusal (subst (AreMftEntries image boot base) (sym (append_assoc front (entry ∷ []) rest)) entries)
      (entries_push image boot base None known front entry later.0 more.0 before later.1 more.1) more.2)
      (given_refuses image (with_segment boot known later.0) (λ mft. segments_behind boot base (Some mft) rest) refusal later.2))
      (bind_refuses image (next_segment boot base known entry) (λ held. given (with_segment boot known held) >>= (λ mft. segments_behind boot base (Some mft) rest)) refusal refuses)

  all_told : (base : FileRecord) (list : Option Held) (refusal : Refusal) → IsMftBase image boot base → list_of (attributes_in 0 base) ≡ list → result_of image (all_segments boot base list) ≡ Err refusal → IsToldBy Rules refusal
  all_told base None refusal base_is none refuses =
      own_told base [] (segments_of 0x80 [] (attributes_in 0 base)) None refusal base_is none refl refl
      (sym (result_given image (with_segments boot None (segments_of 0x80 [] (attributes_in 0 base)))) ∙ refuses)
  all_told base (Some list) refusal base_is list_is refuses =
      let alone = first_slot_alone boot in
      let is_list = OfMft base list base_is list_is in
      ⊎_elim
      (λ content. told_weaker (IsWrongListStream alone list) Rules refusal (λ sort place wrong. WrongListStream boot alone 0 base list sort place is_boot is_list wrong.in_clusters wrong.wrong) (content_refuses image alone list refusal content))
      (λ content. ⊎_elim
      (λ entries. told_weaker (IsWrongList alone list content.0) Rules refusal
      (λ sort place wrong. WrongListEntry boot alone 0 base list content.0 sort place is_boot (record { list_is = is_list; content_is = content.1 }) wrong)
      (list_refuses alone list content.0 refusal entries))
      (λ entries.
      listed_told base [] (filter is_for_content entries.0) None refusal
      (record { list = list; content = content.0; all = entries.0; base_is = base_is; list_is = list_is; content_is = content.1; all_are = entries.1; entries_are = refl })
      (behind_none image boot base None) entries.2)
      (given_refuses image (entries_of alone list content.0) (λ entries. segments_behind boot base None (filter is_for_content entries)) refusal content.2))
      (bind_refuses image (list_content alone list) (mft_entries boot base list) refusal refuses)

  -- no segment is known behind all of them
  none_told : (base : FileRecord) (list : Option Held) → IsMftBase image boot base → list_of (attributes_in 0 base) ≡ list → result_of image (all_segments boot base list) ≡ Ok None → IsFalseAt image at len MftMap (first_slot_at boot)
  none_told base None base_is none gives =
      NoMftContent boot base is_boot base_is
      (inl (none, no_segments boot (segments_of 0x80 [] (attributes_in 0 base)) (sym (result_given image (with_segments boot None (segments_of 0x80 [] (attributes_in 0 base)))) ∙ gives)))
  none_told base (Some list) base_is list_is gives =
      let alone = first_slot_alone boot in
      let content = bind_gives image (list_content alone list) (mft_entries boot base list) None gives in
      let entries = given_gives image (entries_of alone list content.0) (λ entries. segments_behind boot base None (filter is_for_content entries)) None content.2 in
      let none : filter is_for_content entries.0 ≡ [] = no_entries image boot base (filter is_for_content entries.0) entries.2 in
      NoMftContent boot base is_boot base_is
      (inr (record { list = list; content = content.0; all = entries.0; base_is = base_is; list_is = list_is; content_is = content.1; all_are = entries.1; entries_are = sym none }))

  known_told : (base : FileRecord) (known : Option Mft) (refusal : Refusal) → IsMftBase image boot base → result_of image (all_segments boot base (list_of (attributes_in 0 base))) ≡ Ok known → result_of image (known_mft boot known) ≡ Err refusal
      → IsToldBy Rules refusal
  known_told base None refusal base_is gives refuses =
      subst (IsToldBy Rules) (same_refusal {X = Mft} (no_map boot) refusal refuses) (none_told base (list_of (attributes_in 0 base)) base_is refl gives)
  known_told base (Some mft) refusal base_is gives refuses =
      ⊎_elim (λ many. subst (IsToldBy Rules) many.1 tt) (λ few. absurd (not_given mft refusal few.1))
      (check_refuses image (nat_le (slots mft) 4000000) (Limit Slots 4000000) (λ x. Done mft) refusal refuses)

  base_told : (slot : Slot) (refusal : Refusal) → HasFirstSlot boot → result_of image (slot_of (first_slot_alone boot) 0) ≡ Ok slot → first_base boot slot ≡ Err refusal → IsToldBy Rules refusal
  base_told slot refusal inside slot_is refuses =
      let told = by_slot slot refuses in
      subst (IsToldBy Rules) told.0 (NoMftBase boot slot is_boot inside slot_is (λ base is. told.1 base (cc (slot_is, is.slot_is)) is.is_base))
    where
      by_slot : (slot : Slot) → first_base boot slot ≡ Err refusal → (no_map boot ≡ refusal) × ((base : FileRecord) → slot ≡ Used base → base.header.base ≡ 0 → ⊥)
      by_slot Empty refuses = (same_refusal {X = FileRecord} (no_map boot) refusal refuses, λ base is none. absurd cc)
      by_slot Unused refuses = (same_refusal {X = FileRecord} (no_map boot) refusal refuses, λ base is none. absurd cc)
      by_slot (Used found) refuses = by_test (found.header.base == 0) refl refuses
        where
          by_test : (test : Bool) → (found.header.base == 0) ≡ test → if◌then◌else◌ {A = Result FileRecord Refusal} test (Ok found) (Err (no_map boot)) ≡ Err refusal
              → (no_map boot ≡ refusal) × ((base : FileRecord) → Used found ≡ Used base → base.header.base ≡ 0 → ⊥)
          by_test true is refuses = absurd (not_given found refusal refuses)
          by_test false is refuses = (
            same_refusal {X = FileRecord} (no_map boot) refusal refuses,
            λ base same none. let own : found ≡ base = cc in eqb-false found.header.base 0 is (ap (λ (found : FileRecord). found.header.base) own ∙ none),
          )

  pub mft_refuses : (refusal : Refusal) → result_of image (mft_of boot) ≡ Err refusal → IsToldBy (IsFalseAt image at len) refusal
  unfolding mft_of
  mft_refuses refusal refuses =
      let alone = first_slot_alone boot in
      ⊎_elim
      (λ outside. subst (IsToldBy Rules) outside.1 (NoFirstSlot boot is_boot (λ inside. omega (arith, inside, leb-false (first_slot_at boot + boot.record_size) (boot.at + boot.len) outside.0))))
      (λ inside.
      let fits : HasFirstSlot boot = leb-true _ _ inside.0 in
      ⊎_elim
      (λ slot. told_weaker (IsWrongSlot image alone 0) Rules refusal (λ sort place wrong. WrongSlot boot alone 0 sort place is_boot (First fits) wrong) (slot_refuses image alone 0 refusal sectors slot))
      (λ slot. ⊎_elim
      (λ no_base. base_told slot.0 refusal fits slot.1 no_base)
      (λ base.
      let own = first_base_is boot slot.0 base.0 base.1 in
      let base_is : IsMftBase image boot base.0 = record { inside = fits; slot_is = slot.1 ∙ ap Ok own.0; is_base = own.1 } in
      ⊎_elim
      (λ segments. all_told base.0 (list_of (attributes_in 0 base.0)) refusal base_is refl segments)
      (λ known. known_told base.0 known.0 refusal base_is known.1 known.2)
      (bind_refuses image (all_segments boot base.0 (list_of (attributes_in 0 base.0))) (known_mft boot) refusal base.2))
      (given_refuses image (first_base boot slot.0) (mft_with boot) refusal slot.2))
      (bind_refuses image (slot_of alone 0) (mft_behind boot) refusal inside.1))
      (check_refuses image (nat_le (first_slot_at boot + boot.record_size) (boot.at + boot.len)) (no_map boot) (λ x. slot_of alone 0 >>= mft_behind boot) refusal refuses)
