-- Where $MFT is found, what it was found by breaks no rule.
use Rattle.std.specs.Prelude.{◌≡◌, ℕ, ◌+◌, ◌*◌, ◌⊎◌, Bool, true, false, nat_le, if◌then◌else◌, Option, Some, None, Result, Ok, Err, List, [], ◌∷◌, ◌++◌, refl}
use Rattle.std.specs.List.{filter}
use Rattle.std.specs.Option.{ok_or}
use Rattle.std.proofs.Common.{ap, sym, ◌∙◌, subst, ⊎_elim}
use Rattle.std.proofs.lemmas.Bool.{eq-eqb, ne_eqb, leb-true, cases_eq, false≢true}
use Rattle.image_defs.specs.Ask.{result_of, given}
use Rattle.image_defs.proofs.Results.{result_given}
use Rattle.image_defs.proofs.Looks.{bind_gives, check_gives, given_gives}
use Rattle.fault_defs.specs.declared.Sort.{Sort}
use Rattle.fault_defs.specs.declared.Sort.TheVariants.{AttributeMissing}
use Rattle.fault_defs.specs.declared.Refusal.{Refusal}
use Rattle.fault_defs.specs.declared.Refusal.TheVariants.{Damaged}
use Rattle.ntfs_record_defs.specs.Record.{FileRecord}
use Rattle.ntfs_volume_defs.specs.declared.boot.Boot.{Boot}
use Rattle.ntfs_volume_defs.specs.Streams.{mapped}
use Rattle.ntfs_volume_defs.specs.Slots.{Mft, first_slot_at, slot_of}
use Rattle.ntfs_volume_defs.specs.Segments.{Held, clusters_in, segment_runs, segments_of, stream_of}
use Rattle.ntfs_volume_defs.specs.Lists.{Entry, ListContent, attributes_in, list_of, list_content, entries_of, named_in, record_named, named_record, named_attribute}
use Rattle.ntfs_volume_defs.specs.Mft.{no_map, first_slot_alone, with_content, with_runs, is_no_map, with_segment, and_then_segments, with_segments, first_base, is_for_content, segment_in, next_segment, segments_behind, mft_entries, all_segments, known_mft, mft_with, mft_behind, mft_of}
use Rattle.ntfs_guard_defs.proofs.MapLaws.{entry_gives}
use Rattle.ntfs_guard_defs.proofs.VolumeLaws.{known_is}
use Rattle.ntfs_damage_defs.specs.Wrong.{IsWrongSlot, IsWrongSegment, IsWrongStream, IsMissing, NoSlot, NotOfFile, NoAttribute}
use Rattle.ntfs_damage_defs.specs.Damage.{IsMftBase, AreMftEntries, IsNextEntry, IsMapped, IsMftSegment, Own, Listed, known_mft_of}
use Rattle.ntfs_damage_defs.proofs.Told.{not_given}
use Rattle.ntfs_damage_defs.proofs.SlotDamage.{slot_is_sound}
use Rattle.ntfs_damage_defs.proofs.StreamDamage.{segment_is_sound, stream_is_sound}
use Rattle.ntfs_damage_defs.proofs.ListDamage.{value_gives}
use Rattle.ntfs_damage_defs.proofs.EntryDamage.{other_slot, entry_is_sound}
use Rattle.ntfs_damage_defs.proofs.MapDamage.{first_base_is, behind_none}

-- ---- $MFT, from its base record and its segments

pub record IsReadMft (image : List ℕ) (boot : Boot) (mft : Mft) : Type 0 where
  pub base : FileRecord
  pub base_is : IsMftBase image boot base
  pub segments : result_of image (all_segments boot base (list_of (attributes_in 0 base))) ≡ Ok (Some mft)

pub mft_is_read : (image : List ℕ) (boot : Boot) (mft : Mft) → result_of image (mft_of boot) ≡ Ok mft → IsReadMft image boot mft
unfolding mft_of
mft_is_read image boot mft gives =
    let inside = check_gives image (nat_le (first_slot_at boot + boot.record_size) (boot.at + boot.len)) (no_map boot) _ mft gives in
    let slot = bind_gives image (slot_of (first_slot_alone boot) 0) (mft_behind boot) mft inside.1 in
    let base = given_gives image (first_base boot slot.0) (mft_with boot) mft slot.2 in
    let known = bind_gives image (all_segments boot base.0 (list_of (attributes_in 0 base.0))) (known_mft boot) mft base.2 in
    let own = first_base_is boot slot.0 base.0 base.1 in
    let last = known_is image boot known.0 mft known.2 in
    record {
      base = base.0;
      base_is = record { inside = leb-true (first_slot_at boot + boot.record_size) (boot.at + boot.len) inside.0; slot_is = cc (slot.1, own.0); is_base = own.1 };
      segments = cc (known.1, last);
    }

-- ---- segments behind those in front

segments_split : (boot : Boot) (start known : Option Mft) (front rest : List Held) (last : Option Mft) → with_segments boot start (front ++ rest) ≡ Ok last → with_segments boot start front ≡ Ok known
    → with_segments boot known rest ≡ Ok last
segments_split boot start known [] rest last all before =
    let same : start ≡ known = cc in
    sym (ap (λ known. with_segments boot known rest) same) ∙ all
segments_split boot start known (held ∷ front) rest last all before =
    by_result (with_segment boot start held) all before (λ mft all before. segments_split boot (Some mft) known front rest last all before)
  where
    by_result : (result : Result Mft Refusal) → and_then_segments result (λ mft. with_segments boot (Some mft) (front ++ rest)) ≡ Ok last → and_then_segments result (λ mft. with_segments boot (Some mft) front) ≡ Ok known
        → ((mft : Mft) → with_segments boot (Some mft) (front ++ rest) ≡ Ok last → with_segments boot (Some mft) front ≡ Ok known → with_segments boot known rest ≡ Ok last) → with_segments boot known rest ≡ Ok last
    by_result (Ok mft) all before later = later mft all before
    by_result (Err refusal) all before later = absurd cc

then_segments : (result : Result Mft Refusal) (next : Mft → Result (Option Mft) Refusal) (last : Option Mft) → and_then_segments result next ≡ Ok last → (mft : Mft) × (result ≡ Ok mft)
then_segments (Ok mft) next last gives = (mft, refl)
then_segments (Err refusal) next last gives = absurd cc

entries_split : (image : List ℕ) (boot : Boot) (base : FileRecord) (start known : Option Mft) (front rest : List Entry) (last : Option Mft) → result_of image (segments_behind boot base start (front ++ rest)) ≡ Ok last
    → result_of image (segments_behind boot base start front) ≡ Ok known → result_of image (segments_behind boot base known rest) ≡ Ok last
entries_split image boot base start known [] rest last all before =
    let same : start ≡ known = cc (sym (behind_none image boot base start) ∙ before) in
    sym (ap (λ known. result_of image (segments_behind boot base known rest)) same) ∙ all
entries_split image boot base start known (entry ∷ front) rest last all before =
    let one = entry_gives image boot base start entry (front ++ rest) last all in
    let two = entry_gives image boot base start entry front known before in
    let held : two.0 ≡ one.0 = cc (one.2, two.2) in
    let moved : with_segment boot start one.0 ≡ Ok two.1 = sym (ap (with_segment boot start) held) ∙ two.3 in
    let next : two.1 ≡ one.1 = cc (one.3, moved) in
    entries_split image boot base (Some one.1) known front rest last one.4 (sym (ap (λ mft. result_of image (segments_behind boot base (Some mft) front)) next) ∙ two.4)

else_gives : {X : Type 0} (test : Bool) (refusal : Refusal) (result : Result X Refusal) (x : X) → (if test then Err refusal else result) ≡ Ok x → (test ≡ false) × (result ≡ Ok x)
else_gives true refusal result x gives = absurd cc
else_gives false refusal result x gives = (refl, gives)

segment_maps : (boot : Boot) (known : Option Mft) (held : Held) (next : Mft) → with_segment boot known held ≡ Ok next → is_no_map held ≡ false
segment_maps boot None held next gives = (else_gives (is_no_map held) (no_map boot) (with_content boot (stream_of (first_slot_alone boot) held [])) next gives).0
segment_maps boot (Some mft) held next gives =
    (else_gives (is_no_map held) (no_map boot) (with_runs mft (segment_runs mft (clusters_in mft.content.runs) held held.opened.attribute.form)) next gives).0

-- ---- what $MFT was found by

-- the list of $MFT
pub record IsReadMftList (image : List ℕ) (boot : Boot) (base : FileRecord) (list : Held) (mft : Mft) : Type 0 where
  pub content : ListContent
  pub content_is : result_of image (list_content (first_slot_alone boot) list) ≡ Ok content
  pub entries : List Entry
  pub entries_are : entries_of (first_slot_alone boot) list content ≡ Ok entries
  pub known : result_of image (segments_behind boot base None (filter is_for_content entries)) ≡ Ok (Some mft)

-- a segment that an entry of the list of $MFT names
record IsReadEntry (image : List ℕ) (boot : Boot) (base : FileRecord) (known : Option Mft) (entry : Entry) : Type 0 where
  held : Held
  next : Mft
  held_is : result_of image (next_segment boot base known entry) ≡ Ok held
  next_is : with_segment boot known held ≡ Ok next

-- the same in another slot, which the segments in front of it map
record IsReadElsewhere (image : List ℕ) (boot : Boot) (base : FileRecord) (known : Option Mft) (entry : Entry) (held : Held) : Type 0 where
  mft : Mft
  known_is : known ≡ Some mft
  maps : IsMapped boot mft entry
  named : result_of image (named_attribute mft 0 base entry) ≡ Ok held

elsewhere : (image : List ℕ) (boot : Boot) (base : FileRecord) (known : Option Mft) (entry : Entry) (held : Held) → (entry.number ≡ 0 → ⊥) → result_of image (next_segment boot base known entry) ≡ Ok held
    → IsReadElsewhere image boot base known entry held
elsewhere image boot base known entry held differs gives = by_known known (sym (ap (λ own. result_of image (segment_in boot base known entry own)) (ne_eqb entry.number 0 differs)) ∙ gives)
  where
    by_known : (known : Option Mft) → result_of image (segment_in boot base known entry false) ≡ Ok held → IsReadElsewhere image boot base known entry held
    by_known None gives = absurd cc
    by_known (Some mft) gives =
        let found = check_gives image (nat_le ((entry.number + 1) * boot.record_size) (mapped boot mft.content.runs)) (no_map boot) (λ x. named_attribute mft 0 base entry) held gives in
        record { mft = mft; known_is = refl; maps = leb-true ((entry.number + 1) * boot.record_size) (mapped boot mft.content.runs) found.0; named = found.1 }

module _ (image : List ℕ) (boot : Boot) (mft : Mft) (read : IsReadMft image boot mft) where
  base_segments : (base : FileRecord) → IsMftBase image boot base → result_of image (all_segments boot base (list_of (attributes_in 0 base))) ≡ Ok (Some mft)
  base_segments base is =
      let same : read.base ≡ base = cc (read.base_is.slot_is, is.slot_is) in
      let P : FileRecord → Type 0 = λ base. result_of image (all_segments boot base (list_of (attributes_in 0 base))) ≡ Ok (Some mft) in
      subst P same read.segments

  own_segments : (base : FileRecord) → IsMftBase image boot base → list_of (attributes_in 0 base) ≡ None → with_segments boot None (segments_of 0x80 [] (attributes_in 0 base)) ≡ Ok (Some mft)
  own_segments base is none =
      sym (result_given image (with_segments boot None (segments_of 0x80 [] (attributes_in 0 base)))) ∙ sym (ap (λ list. result_of image (all_segments boot base list)) none) ∙ base_segments base is

  pub mft_list_is_read : (base : FileRecord) (list : Held) → IsMftBase image boot base → list_of (attributes_in 0 base) ≡ Some list → IsReadMftList image boot base list mft
  mft_list_is_read base list is list_is =
      let gives = sym (ap (λ list. result_of image (all_segments boot base list)) list_is) ∙ base_segments base is in
      let content = bind_gives image (list_content (first_slot_alone boot) list) (mft_entries boot base list) (Some mft) gives in
      let entries = given_gives image (entries_of (first_slot_alone boot) list content.0) (λ entries. segments_behind boot base None (filter is_for_content entries)) (Some mft) content.2 in
      record { content = content.0; content_is = content.1; entries = entries.0; entries_are = entries.1; known = entries.2 }

  entries_known : (base : FileRecord) (entries : List Entry) → AreMftEntries image boot base entries → result_of image (segments_behind boot base None entries) ≡ Ok (Some mft)
  entries_known base entries are =
      let own = mft_list_is_read base are.list are.base_is are.list_is in
      let content : own.content ≡ are.content = cc (own.content_is, are.content_is) in
      let moved : entries_of (first_slot_alone boot) are.list are.content ≡ Ok own.entries = sym (ap (entries_of (first_slot_alone boot) are.list) content) ∙ own.entries_are in
      let all : are.all ≡ own.entries = cc (moved, are.all_are) in
      ap (λ entries. result_of image (segments_behind boot base None entries)) (are.entries_are ∙ ap (filter is_for_content) all) ∙ own.known

  entry_is_read : (base : FileRecord) (known : Option Mft) (entry : Entry) → IsNextEntry image boot base known entry → IsReadEntry image boot base known entry
  entry_is_read base known entry next =
      let behind = entries_split image boot base None known next.front (entry ∷ next.back) (Some mft) (entries_known base (next.front ++ entry ∷ next.back) next.entries) next.known_is in
      let one = entry_gives image boot base known entry next.back (Some mft) behind in
      record { held = one.0; next = one.1; held_is = one.2; next_is = one.3 }

  segment_is_read : (known : Option Mft) (held : Held) → IsMftSegment image boot known held → (next : Mft) × (with_segment boot known held ≡ Ok next)
  segment_is_read known held (Own base front back own before base_is none split known_is) =
      then_segments (with_segment boot before own) (λ mft. with_segments boot (Some mft) back) (Some mft)
      (segments_split boot None before front (own ∷ back) (Some mft) (sym (ap (with_segments boot None) split) ∙ own_segments base base_is none) known_is)
  segment_is_read known held (Listed base before entry own next is) =
      let found = entry_is_read base before entry next in
      let same : found.held ≡ own = cc (found.held_is, is) in
      (found.next, sym (ap (with_segment boot before) same) ∙ found.next_is)

  -- ---- no rule is broken

  pub segment_maps_here : (known : Option Mft) (held : Held) → IsMftSegment image boot known held → is_no_map held ≡ true → ⊥
  segment_maps_here known held segment none = let found = segment_is_read known held segment in false≢true (sym (segment_maps boot known held found.0 found.1) ∙ none)

  pub mft_segment_is_sound : (known : Mft) (held : Held) (sort : Sort) (place : ℕ) → IsMftSegment image boot (Some known) held → IsWrongSegment known (clusters_in known.content.runs) held sort place → ⊥
  mft_segment_is_sound known held sort place segment wrong =
      let found = segment_is_read (Some known) held segment in
      let runs = segment_runs known (clusters_in known.content.runs) held held.opened.attribute.form in
      let given = value_gives (λ runs. record known { content = record known.content { runs = known.content.runs ++ runs } }) runs found.0 (else_gives (is_no_map held) (no_map boot) (with_runs known runs) found.0 found.1).1 in
      segment_is_sound known (clusters_in known.content.runs) held given.0 sort place given.1 wrong

  pub mft_start_is_sound : (held : Held) (sort : Sort) (place : ℕ) → IsMftSegment image boot None held → IsWrongStream (first_slot_alone boot) held [] sort place → ⊥
  mft_start_is_sound held sort place segment wrong =
      let found = segment_is_read None held segment in
      let stream = stream_of (first_slot_alone boot) held [] in
      let given = value_gives (λ stream. record { boot = boot; content = stream }) stream found.0 (else_gives (is_no_map held) (no_map boot) (with_content boot stream) found.0 found.1).1 in
      stream_is_sound (first_slot_alone boot) held [] given.0 sort place given.1 wrong

  pub next_is_mapped : (base : FileRecord) (known : Option Mft) (entry : Entry) → IsNextEntry image boot base known entry → (entry.number ≡ 0 → ⊥) → ((mft : Mft) → known ≡ Some mft → IsMapped boot mft entry → ⊥) → ⊥
  next_is_mapped base known entry next differs none =
      let found = entry_is_read base known entry next in
      let other = elsewhere image boot base known entry found.held differs found.held_is in
      none other.mft other.known_is other.maps

  pub next_slot_is_sound : (base : FileRecord) (known : Mft) (entry : Entry) (sort : Sort) (place : ℕ) → IsNextEntry image boot base (Some known) entry → (entry.number ≡ 0 → ⊥) → IsWrongSlot image known entry.number sort place → ⊥
  unfolding named_attribute
  next_slot_is_sound base known entry sort place next differs wrong =
      let found = entry_is_read base (Some known) entry next in
      let other = elsewhere image boot base (Some known) entry found.held differs found.held_is in
      let same : known ≡ other.mft = cc (other.known_is) in
      let named = ap (λ mft. result_of image (named_attribute mft 0 base entry)) same ∙ other.named in
      let attributes = bind_gives image (named_record known 0 base entry) (λ attributes. given (named_in entry attributes)) found.held named in
      let slot = other_slot image known 0 base entry attributes.0 differs attributes.1 in
      slot_is_sound image known entry.number slot.1 sort place slot.3 wrong

  own_is_named : (base : FileRecord) (known : Mft) (entry : Entry) (held : Held) (sort : Sort) (place : ℕ) → entry.number ≡ 0 → named_in entry (attributes_in 0 base) ≡ Ok held → IsMissing image known 0 base entry sort place → ⊥
  own_is_named base known entry held sort place own found (NoSlot differs past) = differs own
  own_is_named base known entry held sort place own found (NotOfFile slot differs slot_is none) = differs own
  own_is_named base known entry held sort place own found (NoAttribute others are none) =
      let here : result_of image (record_named known 0 base entry true) ≡ Ok others = sym (ap (λ own. result_of image (record_named known 0 base entry own)) (eq-eqb entry.number 0 own)) ∙ are in
      let same : others ≡ attributes_in 0 base = cc in
      let nothing : named_in entry (attributes_in 0 base) ≡ Err (Damaged AttributeMissing entry.place) =
      sym (ap (named_in entry) same) ∙ ap (λ option. ok_or option (Damaged AttributeMissing entry.place)) none in
      not_given held (Damaged AttributeMissing entry.place) (sym found ∙ nothing)

  pub next_is_named : (base : FileRecord) (known : Option Mft) (entry : Entry) (sort : Sort) (place : ℕ) → IsNextEntry image boot base known entry → IsMissing image (known_mft_of boot known) 0 base entry sort place → ⊥
  next_is_named base known entry sort place next missing =
      let found = entry_is_read base known entry next in
      ⊎_elim
      (λ own.
      let here : result_of image (segment_in boot base known entry true) ≡ Ok found.held = sym (ap (λ own. result_of image (segment_in boot base known entry own)) (eq-eqb entry.number 0 own)) ∙ found.held_is in
      own_is_named base (known_mft_of boot known) entry found.held sort place own (sym (result_given image (named_in entry (attributes_in 0 base))) ∙ here) missing)
      (λ differs.
      let other = elsewhere image boot base known entry found.held differs found.held_is in
      let P : Option Mft → Type 0 = λ known. IsMissing image (known_mft_of boot known) 0 base entry sort place in
      entry_is_sound image other.mft 0 base entry found.held sort place other.named (subst P other.known_is missing))
      (cases_eq entry.number 0)

  pub has_content : (base : FileRecord) → IsMftBase image boot base → ((list_of (attributes_in 0 base) ≡ None) × (segments_of 0x80 [] (attributes_in 0 base) ≡ [])) ⊎ AreMftEntries image boot base [] → ⊥
  has_content base is none =
      ⊎_elim
      (λ own. not_known (sym (ap (with_segments boot None) own.1) ∙ own_segments base is own.0))
      (λ entries. not_known (sym (behind_none image boot base None) ∙ entries_known base [] entries))
      none
    where
      not_known : (let none : Result (Option Mft) Refusal = Ok None in none ≡ Ok (Some mft)) → ⊥
      not_known same = cc
