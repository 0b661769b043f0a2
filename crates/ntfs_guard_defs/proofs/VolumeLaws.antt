-- Laws behind VolumeLaws: the law of the footprint of a volume: an image of the same length and with the same bytes in the guard says the same.
use Rattle.std.specs.Prelude.{◌≡◌, ℕ, zero, suc, ◌+◌, ◌*◌, ◌%◌, ◌<◌, ◌≤◌, ◌==◌, Bool, true, false, nat_lt, nat_le, if◌then◌else◌, Option, Some, None, Result, Ok, Err, List, [], ◌∷◌, length, slice_get, sum_by, refl}
use Rattle.std.proofs.Common.{arith, ap, sym, ◌∙◌, subst, ⊎_elim}
use Rattle.std.proofs.lemmas.Bool.{leb-true, cases_lt}
use Rattle.std.proofs.lemmas.Bool.Decides.{nat_tests}
use Rattle.std.proofs.lemmas.Option.{slice_get_past}
use Rattle.std.specs.List.{filter}
use Rattle.range_defs.specs.declared.Range.{Range}
use Rattle.range_defs.specs.Places.{in_range, covers}
use Rattle.bytes_defs.specs.Bytes.{part}
use Rattle.image_defs.specs.Ask.{Done, result_of, given, each}
use Rattle.image_defs.specs.Agreement.{AgreeOn}
use Rattle.image_defs.proofs.Agreement.{result_agree}
use Rattle.range_defs.proofs.RangeLaws.{longest_ranges_covers}
use Rattle.image_defs.proofs.Results.{result_given}
use Rattle.image_defs.specs.Looks.{LooksAt}
use Rattle.image_defs.proofs.Looks.{looks_done, looks_bind_ok, looks_check, looks_look, looks_given, bind_gives, check_gives, given_gives}
use Rattle.image_defs.specs.Via.{look_bytes}
use Rattle.image_defs.specs.ViaLaws.{LiesIn}
use Rattle.image_defs.proofs.ViaLaws.{agree_on_looks}
use Rattle.ntfs_record_defs.specs.Attributes.{Form, Resident, NonResident}
use Rattle.ntfs_record_defs.specs.Stored.{count_from}
use Rattle.ntfs_record_defs.specs.Record.{FileRecord}
use Rattle.ntfs_volume_defs.specs.declared.boot.Boot.{Boot}
use Rattle.ntfs_volume_defs.proofs.OneOf.{one_of_holds}
use Rattle.fault_defs.specs.declared.Sort.TheVariants.{BootField}
use Rattle.fault_defs.specs.declared.What.TheVariants.{BootGeometry}
use Rattle.fault_defs.specs.declared.Bound.TheVariants.{AttributeList, Slots, Names, PathBytes, Path, Runs}
use Rattle.fault_defs.specs.declared.Refusal.{Refusal}
use Rattle.fault_defs.specs.declared.Refusal.TheVariants.{NotThis, Damaged, Unsupported, Limit}
use Rattle.ntfs_volume_defs.specs.Boot.{is_boot_sector, is_one_of, is_total, sector_size, sectors_in_cluster, record_size_of, first_mft_cluster, clusters_of, boot_of, boot_at}
use Rattle.ntfs_volume_defs.specs.Streams.{Stream, mapped, stream_place}
use Rattle.ntfs_volume_defs.specs.Slots.{Mft, Slot, Empty, Unused, Used, slots, slot_of, first_slot_at}
use Rattle.ntfs_guard_defs.proofs.SlotLaws.{slot_same}
use Rattle.ntfs_volume_defs.specs.Segments.{Held, stream_of, segments_of}
use Rattle.ntfs_volume_defs.specs.Lists.{Entry, ListContent, list_with, stream_list, list_by, list_content, entries_of, attributes_in, list_of, named_in, named_attribute, byte_ranges}
use Rattle.ntfs_volume_defs.specs.Mft.{first_slot_alone, no_map, is_for_content, first_base, with_segment, with_segments, segment_in, next_segment, segments_behind, mft_entries, all_segments, known_mft, mft_with, mft_behind, mft_of}
use Rattle.ntfs_volume_defs.specs.Files.{Assembled, FoundFile, with_entries, with_list, assembled_by, assembled, with_assembled, file_by, file_in, file_of, files_of}
use Rattle.ntfs_guard_defs.proofs.HeldLaws.{HoldsContent, files_held}
use Rattle.ntfs_guard_defs.proofs.MapLaws.{HasBoot, Extends, mapped_same, same_slots, alone_same, segment_boot, segments_boot, entry_gives, behind_boot, behind_extends, stream_same}
use Rattle.ntfs_volume_defs.specs.Guard.{is_content_place, is_list_byte, boot_sector, is_guarded}
use Rattle.ntfs_guard_defs.proofs.GuardLaws.{Guarded, boot_guarded, list_guarded, slot_looks_guarded, list_looks, named_looks, files_look, looks_given_ok, in_first_file, lists_found}
use Rattle.ntfs_volume_defs.specs.Volume.{FoundVolume, all_found, all_paths, piece_count, longest_path, within_limits, volume_with, volume_behind, volume_at, guard_of}
use Rattle.ntfs_guard_defs.specs.VolumeLaws.{FootprintLaw}

-- ---- $MFT

pub base_is : (boot : Boot) (slot : Slot) (base : FileRecord) → first_base boot slot ≡ Ok base → (slot ≡ Used base) × ((base.header.base == 0) ≡ true)
base_is boot Empty base gives = absurd cc
base_is boot Unused base gives = absurd cc
base_is boot (Used found) base gives = by_test (found.header.base == 0) refl gives
  where
    by_test : (test : Bool) → (found.header.base == 0) ≡ test → if◌then◌else◌ {A = Result FileRecord Refusal} test (Ok found) (Err (no_map boot)) ≡ Ok base → (Used found ≡ Used base) × ((base.header.base == 0) ≡ true)
    by_test true is gives = let same : found ≡ base = cc in (ap Used same, ap (λ found. found.header.base == 0) (sym same) ∙ is)
    by_test false is gives = absurd cc

pub known_is : (image : List ℕ) (boot : Boot) (known : Option Mft) (mft : Mft) → result_of image (known_mft boot known) ≡ Ok mft → known ≡ Some mft
known_is image boot None mft gives = absurd cc
known_is image boot (Some found) mft gives =
    let few = check_gives image (nat_le (slots found) 4000000) (Limit Slots 4000000) (λ x. Done found) mft gives in
    let same : found ≡ mft = cc (few.1) in
    ap Some same

-- the parts of an $MFT that is found
pub record IsMft (image : List ℕ) (boot : Boot) (mft : Mft) : Type 0 where
  pub slot : Slot
  pub slot_is : result_of image (slot_of (first_slot_alone boot) 0) ≡ Ok slot
  pub base : FileRecord
  pub first : first_base boot slot ≡ Ok base
  pub segments : result_of image (all_segments boot base (list_of (attributes_in 0 base))) ≡ Ok (Some mft)

mft_found : (image : List ℕ) (boot : Boot) (mft : Mft) → result_of image (mft_of boot) ≡ Ok mft → IsMft image boot mft
unfolding mft_of
mft_found image boot mft gives =
    let inside = check_gives image (nat_le (first_slot_at boot + boot.record_size) (boot.at + boot.len)) (no_map boot) _ mft gives in
    let slot = bind_gives image (slot_of (first_slot_alone boot) 0) (mft_behind boot) mft inside.1 in
    let base = given_gives image (first_base boot slot.0) (mft_with boot) mft slot.2 in
    let known = bind_gives image (all_segments boot base.0 (list_of (attributes_in 0 base.0))) (known_mft boot) mft base.2 in
    record {
      slot = slot.0;
      slot_is = slot.1;
      base = base.0;
      first = base.1;
      segments = known.1 ∙ ap Ok (known_is image boot known.0 mft known.2);
    }

segments_have_boot : (image : List ℕ) (boot : Boot) (base : FileRecord) (list : Option Held) (mft : Mft) → result_of image (all_segments boot base list) ≡ Ok (Some mft) → mft.boot ≡ boot
segments_have_boot image boot base None mft gives =
    segments_boot boot None (segments_of 0x80 [] (attributes_in 0 base)) (Some mft) tt (sym (result_given image (with_segments boot None (segments_of 0x80 [] (attributes_in 0 base)))) ∙ gives)
segments_have_boot image boot base (Some list) mft gives =
    let content = bind_gives image (list_content (first_slot_alone boot) list) (mft_entries boot base list) (Some mft) gives in
    let entries = given_gives image (entries_of (first_slot_alone boot) list content.0) (λ entries. segments_behind boot base None (filter is_for_content entries)) (Some mft) content.2 in
    behind_boot image boot base None (filter is_for_content entries.0) (Some mft) tt entries.2

pub mft_boot : (image : List ℕ) (boot : Boot) (mft : Mft) → result_of image (mft_of boot) ≡ Ok mft → mft.boot ≡ boot
mft_boot image boot mft gives = let is = mft_found image boot mft gives in segments_have_boot image boot is.base (list_of (attributes_in 0 is.base)) mft is.segments

-- ---- the list of $MFT is that of file 0

same_guarded : (image : List ℕ) (a b : Mft) (list : Held) (first second : ListContent) → a.boot ≡ b.boot → result_of image (list_content a list) ≡ Ok first → result_of image (list_content b list) ≡ Ok second → first.guarded ≡ second.guarded
same_guarded image a b list first second boot gives also = by_form list.opened.attribute.form gives also
  where
    guarded_by : (mft : Mft) (stream : Stream) (content : ListContent) → result_of image (stream_list mft stream) ≡ Ok content → content.guarded ≡ byte_ranges (stream_place mft.boot stream) stream.real
    guarded_by mft stream content gives =
        let short = check_gives image (nat_le stream.real 1048576) (Limit AttributeList 1048576) _ content gives in
        let bytes = bind_gives image (look_bytes (stream_place mft.boot stream) 0 stream.real) (λ bytes. Done (list_with mft stream bytes)) content short.1 in
        cc (bytes.2)

    by_form : (form : Form) → result_of image (list_by a list form) ≡ Ok first → result_of image (list_by b list form) ≡ Ok second → first.guarded ≡ second.guarded
    by_form (Resident range) gives also = cc
    by_form (NonResident header) gives also =
        let one = given_gives image (stream_of a list []) (stream_list a) first gives in
        let two = given_gives image (stream_of b list []) (stream_list b) second also in
        let same : one.0 ≡ two.0 = cc (stream_same a b list [] one.0 boot one.1, two.1) in
        guarded_by a one.0 first one.2
        ∙ ap (λ boot. byte_ranges (stream_place boot one.0) one.0.real) boot
        ∙ ap (λ stream. byte_ranges (stream_place b.boot stream) stream.real) same
        ∙ sym (guarded_by b two.0 second two.2)

-- the list that a file was assembled by
assembled_list : (image : List ℕ) (mft : Mft) (number : ℕ) (base : FileRecord) (list : Held) (found : Assembled) → result_of image (assembled_by mft number base (Some list)) ≡ Ok found
    → (content : ListContent) × (result_of image (list_content mft list) ≡ Ok content) × (content.guarded ≡ found.lists)
assembled_list image mft number base list found gives =
    let own = bind_gives image (list_content mft list) (with_list mft number base list) found gives in
    let entries = given_gives image (entries_of mft list own.0) (with_entries mft number base own.0) found own.2 in
    let attributes = bind_gives image (each (named_attribute mft number base) entries.0) (λ attributes. Done (record { attributes = attributes; lists = own.0.guarded })) found entries.2 in
    (own.0, own.1, lists_are own.0 attributes.0 attributes.2)
  where
    lists_are : (own : ListContent) (attributes : List Held) → result_of {E = Refusal} image (Done (record { attributes = attributes; lists = own.guarded })) ≡ Ok found → own.guarded ≡ found.lists
    lists_are own attributes is = cc

-- the file of a base record in slot 0
file_of_base : (image : List ℕ) (mft : Mft) (base : FileRecord) (option : Option FoundFile) → result_of image (slot_of mft 0) ≡ Ok (Used base) → (base.header.base == 0) ≡ true → result_of image (file_of mft 0) ≡ Ok option
    → (found : Assembled) × (result_of image (assembled mft 0 base) ≡ Ok found) × (result_of image (with_assembled mft 0 base found) ≡ Ok option)
unfolding file_of
file_of_base image mft base option slot_is is_base gives =
    let slot = bind_gives image (slot_of mft 0) (file_in mft 0) option gives in
    by_slot slot.0 slot.1 slot.2
  where
    by_flag : (is : Bool) → is ≡ true → result_of image (file_by mft 0 base is) ≡ Ok option → (found : Assembled) × (result_of image (assembled mft 0 base) ≡ Ok found) × (result_of image (with_assembled mft 0 base found) ≡ Ok option)
    by_flag true is gives = bind_gives image (assembled mft 0 base) (with_assembled mft 0 base) option gives
    by_flag false is gives = absurd cc

    by_slot : (slot : Slot) → result_of image (slot_of mft 0) ≡ Ok slot → result_of image (file_in mft 0 slot) ≡ Ok option → (found : Assembled) × (result_of image (assembled mft 0 base) ≡ Ok found) × (result_of image (with_assembled mft 0 base found) ≡ Ok option)
    by_slot slot is gives =
        let same : slot ≡ Used base = cc in
        by_flag (base.header.base == 0) is_base (ap (λ slot. result_of image (file_in mft 0 slot)) (sym same) ∙ gives)

first_file : (image : List ℕ) (mft : Mft) (base : FileRecord) (list : Held) (content : ListContent) (option : Option FoundFile) (byte : ℕ)
    → result_of image (slot_of mft 0) ≡ Ok (Used base) → (base.header.base == 0) ≡ true → list_of (attributes_in 0 base) ≡ Some list
    → result_of image (list_content (first_slot_alone mft.boot) list) ≡ Ok content → covers content.guarded byte ≡ true → result_of image (file_of mft 0) ≡ Ok option
    → is_list_byte (all_found (option ∷ [])) byte ≡ true
first_file image mft base list content option byte slot_is is_base list_is content_is inside gives =
    let found = file_of_base image mft base option slot_is is_base gives in
    let own = assembled_list image mft 0 base list found.0 (ap (λ list. result_of image (assembled_by mft 0 base list)) (sym list_is) ∙ found.1) in
    let same : content.guarded ≡ found.0.lists = same_guarded image (first_slot_alone mft.boot) mft list content own.0 refl content_is own.1 ∙ own.2 in
    lists_found image mft 0 option base found.0 byte found.2 (ap (λ ranges. covers ranges byte) (sym same) ∙ inside)

first_of_files : (image : List ℕ) (mft : Mft) (count : ℕ) (options : List (Option FoundFile)) → 0 < count → result_of image (each (file_of mft) (count_from 0 count)) ≡ Ok options
    → (option : Option FoundFile) × (result_of image (file_of mft 0) ≡ Ok option) × ((byte : ℕ) → is_list_byte (all_found (option ∷ [])) byte ≡ true → is_list_byte (all_found options) byte ≡ true)
first_of_files image mft zero options some gives = absurd (omega arith)
first_of_files image mft (suc count) options some gives =
    let first = bind_gives image (file_of mft 0) _ options gives in
    let rest = bind_gives image (each (file_of mft) (count_from 1 count)) _ options first.2 in
    let same : first.0 ∷ rest.0 ≡ options = cc (rest.2) in
    (first.0, first.1, λ byte inside. ap (λ options. is_list_byte (all_found options) byte) (sym same) ∙ in_first_file first.0 rest.0 byte inside)

some_slots : (mft : Mft) → 0 < slots mft
some_slots mft = omega arith

-- ---- what $MFT looks at

module _ (image : List ℕ) (mft : Mft) (files : List FoundFile) (strides : mft.boot.record_size % 512 ≡ 0)
    (held : (slot byte : ℕ) → is_content_place mft.boot.record_size files slot byte ≡ true → HoldsContent image mft slot byte) where
  abbrev Inside : Range → Type 0
  Inside = LiesIn (Guarded image mft files strides held)

  segment_looks : (base : FileRecord) (known : Option Mft) (entry : Entry) (own : Bool) (segment : Held) → HasBoot mft.boot known → ((before : Mft) → known ≡ Some before → Extends before mft)
      → result_of image (segment_in mft.boot base known entry own) ≡ Ok segment → LooksAt Inside image (segment_in mft.boot base known entry own)
  segment_looks base known entry true segment has extends gives = looks_given Inside image (named_in entry (attributes_in 0 base))
  segment_looks base None entry false segment has extends gives = absurd cc
  segment_looks base (Some before) entry false segment has extends gives =
      let fits = check_gives image (nat_le ((entry.number + 1) * mft.boot.record_size) (mapped mft.boot before.content.runs)) (no_map mft.boot) _ segment gives in
      let grows = extends before refl in
      let maps : (entry.number + 1) * before.boot.record_size ≤ mapped before.boot before.content.runs =
      subst (λ (boot : Boot). (entry.number + 1) * boot.record_size ≤ mapped boot before.content.runs) (sym has) (leb-true _ _ fits.0) in
      looks_check Inside image (nat_le ((entry.number + 1) * mft.boot.record_size) (mapped mft.boot before.content.runs)) (no_map mft.boot) _
      (λ _. named_looks image mft files strides held before 0 base entry segment (same_slots before mft grows) (mapped_same before mft entry.number grows maps) fits.1)

  segments_look : (base : FileRecord) (known : Option Mft) (entries : List Entry) → HasBoot mft.boot known → result_of image (segments_behind mft.boot base known entries) ≡ Ok (Some mft)
      → LooksAt Inside image (segments_behind mft.boot base known entries)
  unfolding segments_behind
  segments_look base known [] has gives = looks_done Inside image known
  segments_look base known (entry ∷ entries) has gives =
      let found = entry_gives image mft.boot base known entry entries (Some mft) gives in
      looks_bind_ok Inside image (next_segment mft.boot base known entry) _ found.0 found.2
      (segment_looks base known entry (entry.number == 0) found.0 has
      (λ before is. behind_extends image mft.boot base before mft (entry ∷ entries) (ap (λ known. result_of image (segments_behind mft.boot base known (entry ∷ entries))) (sym is) ∙ gives)) found.2)
      (looks_bind_ok Inside image (given (with_segment mft.boot known found.0)) _ found.1 (result_given image (with_segment mft.boot known found.0) ∙ found.3)
      (looks_given Inside image (with_segment mft.boot known found.0))
      (segments_look base (Some found.1) entries (segment_boot mft.boot known found.1 found.0 has found.3) found.4))

  all_segments_look : (base : FileRecord) (list : Option Held) → result_of image (all_segments mft.boot base list) ≡ Ok (Some mft)
      → ((one : Held) (content : ListContent) (byte : ℕ) → list ≡ Some one → result_of image (list_content (first_slot_alone mft.boot) one) ≡ Ok content → covers content.guarded byte ≡ true → Guarded image mft files strides held byte)
      → LooksAt Inside image (all_segments mft.boot base list)
  all_segments_look base None gives guarded = looks_given Inside image (with_segments mft.boot None (segments_of 0x80 [] (attributes_in 0 base)))
  all_segments_look base (Some list) gives guarded =
      let content = bind_gives image (list_content (first_slot_alone mft.boot) list) (mft_entries mft.boot base list) (Some mft) gives in
      looks_bind_ok Inside image (list_content (first_slot_alone mft.boot) list) (mft_entries mft.boot base list) content.0 content.1
      (list_looks image mft files strides held (first_slot_alone mft.boot) list content.0 content.1 (λ byte inside. guarded list content.0 byte refl content.1 inside))
      (looks_given_ok Inside image (entries_of (first_slot_alone mft.boot) list content.0) _ (Some mft) content.2
      (λ entries is. segments_look base None (filter is_for_content entries) tt
      (let found = given_gives image (entries_of (first_slot_alone mft.boot) list content.0) _ (Some mft) content.2 in
      let same : found.0 ≡ entries = cc (found.1) in
      ap (λ entries. result_of image (segments_behind mft.boot base None (filter is_for_content entries))) (sym same) ∙ found.2)))

  mft_looks : result_of image (mft_of mft.boot) ≡ Ok mft
      → ((base : FileRecord) (list : Held) (content : ListContent) (byte : ℕ) → result_of image (slot_of mft 0) ≡ Ok (Used base) → (base.header.base == 0) ≡ true → list_of (attributes_in 0 base) ≡ Some list
      → result_of image (list_content (first_slot_alone mft.boot) list) ≡ Ok content → covers content.guarded byte ≡ true → Guarded image mft files strides held byte)
      → LooksAt Inside image (mft_of mft.boot)
  unfolding mft_of
  mft_looks gives guarded =
      let alone = first_slot_alone mft.boot in
      let is = mft_found image mft.boot mft gives in
      let base = base_is mft.boot is.slot is.base is.first in
      let slot_is : result_of image (slot_of mft 0) ≡ Ok (Used is.base) = slot_same image alone mft 0 (Used is.base) (alone_same mft) (is.slot_is ∙ ap Ok base.0) in
      looks_check Inside image (nat_le (first_slot_at mft.boot + mft.boot.record_size) (mft.boot.at + mft.boot.len)) (no_map mft.boot) _
      (λ _. looks_bind_ok Inside image (slot_of alone 0) (mft_behind mft.boot) is.slot is.slot_is
      (slot_looks_guarded image mft files strides held alone 0 is.slot (alone_same mft) (some_slots mft) is.slot_is)
      (looks_bind_ok Inside image (given (first_base mft.boot is.slot)) (mft_with mft.boot) is.base (result_given image (first_base mft.boot is.slot) ∙ is.first)
      (looks_given Inside image (first_base mft.boot is.slot))
      (looks_bind_ok Inside image (all_segments mft.boot is.base (list_of (attributes_in 0 is.base))) (known_mft mft.boot) (Some mft) is.segments
      (all_segments_look is.base (list_of (attributes_in 0 is.base)) is.segments (λ list content byte list_is content_is inside. guarded is.base list content byte slot_is base.1 list_is content_is inside))
      (looks_check Inside image (nat_le (slots mft) 4000000) (Limit Slots 4000000) _ (λ _. looks_done Inside image mft)))))

-- ---- the boot sector

strides_of : (number : ℕ) → is_one_of (1024 ∷ 4096 ∷ []) number ≡ true → number % 512 ≡ 0
strides_of number is = one_of_holds (λ n. n % 512 ≡ 0) (1024 ∷ 4096 ∷ []) (refl, (refl, tt)) number is

pub record IsBootOf (at : ℕ) (boot : Boot) : Type 0 where
  pub at_is : boot.at ≡ at
  pub strides : boot.record_size % 512 ≡ 0

boot_found : (image : List ℕ) (at len : ℕ) (boot : Boot) → result_of image (boot_at at len) ≡ Ok boot → IsBootOf at boot
unfolding boot_at boot_of
boot_found image at len boot gives =
    let bytes = part image at 512 in
    let long = check_gives image (nat_le 512 len) NotThis _ boot gives in
    let magic = check_gives image (is_boot_sector bytes) NotThis _ boot long.1 in
    let sector = check_gives image (is_one_of (512 ∷ 1024 ∷ 2048 ∷ 4096 ∷ []) (sector_size bytes)) (Unsupported BootGeometry (at + 0x0B)) _ boot magic.1 in
    let cluster = check_gives image (is_one_of (1 ∷ 2 ∷ 4 ∷ 8 ∷ 16 ∷ 32 ∷ 64 ∷ 128 ∷ []) (sectors_in_cluster bytes)) (Unsupported BootGeometry (at + 0x0D)) _ boot sector.1 in
    let size = check_gives image (is_one_of (1024 ∷ 4096 ∷ []) (record_size_of bytes)) (Unsupported BootGeometry (at + 0x40)) _ boot cluster.1 in
    let total = check_gives image (is_total len bytes) (Damaged BootField (at + 0x28)) _ boot size.1 in
    let first = check_gives image (nat_lt (first_mft_cluster bytes) (clusters_of bytes)) (Damaged BootField (at + 0x30)) _ boot total.1 in
    let same : boot_of at len bytes ≡ boot = cc (first.1) in
    let P : Boot → Type 0 = IsBootOf at in
    subst P same (record { at_is = refl; strides = strides_of (record_size_of bytes) size.0 })

boot_looks : (P : Range → Type 0) (image : List ℕ) (at len : ℕ) → P (record { at = at; len = 512 }) → LooksAt P image (boot_at at len)
unfolding boot_at
boot_looks P image at len sector =
    let bytes = part image at 512 in
    looks_check P image (nat_le 512 len) NotThis _
    (λ _. looks_look P image at 512 _ sector
    (looks_check P image (is_boot_sector bytes) NotThis _
    (λ _. looks_check P image (is_one_of (512 ∷ 1024 ∷ 2048 ∷ 4096 ∷ []) (sector_size bytes)) (Unsupported BootGeometry (at + 0x0B)) _
    (λ _. looks_check P image (is_one_of (1 ∷ 2 ∷ 4 ∷ 8 ∷ 16 ∷ 32 ∷ 64 ∷ 128 ∷ []) (sectors_in_cluster bytes)) (Unsupported BootGeometry (at + 0x0D)) _
    (λ _. looks_check P image (is_one_of (1024 ∷ 4096 ∷ []) (record_size_of bytes)) (Unsupported BootGeometry (at + 0x40)) _
    (λ _. looks_check P image (is_total len bytes) (Damaged BootField (at + 0x28)) _
    (λ _. looks_check P image (nat_lt (first_mft_cluster bytes) (clusters_of bytes)) (Damaged BootField (at + 0x30)) _
    (λ _. looks_done P image (boot_of at len bytes)))))))))

-- ---- the volume

limits_keep : (image : List ℕ) (volume found : FoundVolume) → result_of image (within_limits volume) ≡ Ok found → volume ≡ found
unfolding within_limits
limits_keep image volume found gives =
    let pieces = check_gives image (nat_le (piece_count volume.files) 4000000) (Limit Runs 4000000) _ found gives in
    let path = check_gives image (nat_le (longest_path (all_paths volume.files)) 65535) (Limit Path 65535) _ found pieces.1 in
    let names = check_gives image (nat_le (length (all_paths volume.files)) 1000000) (Limit Names 1000000) _ found path.1 in
    let bytes = check_gives image (nat_le (sum_by length (all_paths volume.files)) 1073741824) (Limit PathBytes 1073741824) (λ x. Done volume) found names.1 in
    cc (bytes.1)

limits_look : (P : Range → Type 0) (image : List ℕ) (volume : FoundVolume) → LooksAt P image (within_limits volume)
unfolding within_limits
limits_look P image volume =
    looks_check P image (nat_le (piece_count volume.files) 4000000) (Limit Runs 4000000) _
    (λ _. looks_check P image (nat_le (longest_path (all_paths volume.files)) 65535) (Limit Path 65535) _
    (λ _. looks_check P image (nat_le (length (all_paths volume.files)) 1000000) (Limit Names 1000000) _
    (λ _. looks_check P image (nat_le (sum_by length (all_paths volume.files)) 1073741824) (Limit PathBytes 1073741824) _
    (λ _. looks_done P image volume))))

-- a byte is in the guard of a volume
abbrev pub IsGuarded : FoundVolume → ℕ → Type 0
IsGuarded volume byte = is_guarded volume.mft volume.files byte ≡ true

pub volume_looks : (image : List ℕ) (at len : ℕ) (volume : FoundVolume) → result_of image (volume_at at len) ≡ Ok volume → LooksAt (LiesIn (IsGuarded volume)) image (volume_at at len)
unfolding volume_at files_of
volume_looks image at len volume gives =
    let boot = bind_gives image (boot_at at len) volume_behind volume gives in
    let mft = bind_gives image (mft_of boot.0) (volume_with boot.0) volume boot.2 in
    let options = bind_gives image (each (file_of mft.0) (count_from 0 (slots mft.0))) _ volume mft.2 in
    let files = all_found options.0 in
    let same : record { mft = mft.0; files = files } ≡ volume = limits_keep image (record { mft = mft.0; files = files }) volume options.2 in
    let own = boot_found image at len boot.0 boot.1 in
    let boot_is : mft.0.boot ≡ boot.0 = mft_boot image boot.0 mft.0 mft.1 in
    let strides : mft.0.boot.record_size % 512 ≡ 0 = ap (λ boot. boot.record_size % 512) boot_is ∙ own.strides in
    let held : (slot byte : ℕ) → is_content_place mft.0.boot.record_size files slot byte ≡ true → HoldsContent image mft.0 slot byte =
    λ slot byte content. files_held image mft.0 mft.0.boot.record_size slot byte (count_from 0 (slots mft.0)) options.0 options.1 content in
    let P = LiesIn (Guarded image mft.0 files strides held) in
    let Q : FoundVolume → Type 0 = λ volume. LooksAt (LiesIn (IsGuarded volume)) image (volume_at at len) in
    let R : Boot → Type 0 = λ boot. LooksAt P image (mft_of boot) in
    let first = first_of_files image mft.0 (slots mft.0) options.0 (some_slots mft.0) options.1 in
    let sector : P (record { at = at; len = 512 }) =
    λ byte low high. boot_guarded image mft.0 files strides held byte (in_sector mft.0 byte (omega (arith, low, own.at_is, ap (λ boot. boot.at) boot_is)) (omega (arith, high, own.at_is, ap (λ boot. boot.at) boot_is))) in
    let map =
    mft_looks image mft.0 files strides held (ap (λ boot. result_of image (mft_of boot)) boot_is ∙ mft.1)
    (λ base list content byte slot_is is_base list_is content_is inside. list_guarded image mft.0 files strides held byte
    (first.2 byte (first_file image mft.0 base list content first.0 byte slot_is is_base list_is content_is inside first.1))) in
    subst Q same
    (looks_bind_ok P image (boot_at at len) volume_behind boot.0 boot.1 (boot_looks P image at len sector)
    (looks_bind_ok P image (mft_of boot.0) (volume_with boot.0) mft.0 mft.1 (subst R boot_is map)
    (looks_bind_ok P image (each (file_of mft.0) (count_from 0 (slots mft.0))) _ options.0 options.1
    (files_look image mft.0 files strides held (slots mft.0) 0 options.0 (omega arith) options.1 (λ byte inside. list_guarded image mft.0 files strides held byte inside))
    (limits_look P image (record { mft = mft.0; files = files })))))
  where
    in_sector : (mft : Mft) (byte : ℕ) → mft.boot.at ≤ byte → byte < mft.boot.at + 512 → in_range (boot_sector mft) byte ≡ true
    in_sector mft byte low high = grind (arith, nat_tests)

same_in_guard : (a b : List ℕ) (volume : FoundVolume) → AgreeOn (guard_of (length a) volume) a b → (byte : ℕ) → IsGuarded volume byte → slice_get a byte ≡ slice_get b byte
unfolding guard_of
same_in_guard a b volume agree byte guarded =
    ⊎_elim
    (λ inside. agree.same_bytes byte (longest_ranges_covers (is_guarded volume.mft volume.files) (length a) byte (omega (arith, inside)) ∙ guarded))
    (λ past. slice_get_past a byte past ∙ sym (slice_get_past b byte (omega (arith, past, agree.same_length))))
    (cases_lt byte (length a))

pub footprint_law : FootprintLaw
footprint_law a b at len volume gives agree = (
  result_agree (volume_at at len) a b (agree_on_looks (IsGuarded volume) (volume_at at len) a b agree.same_length (same_in_guard a b volume agree) (volume_looks a at len volume gives)) ∙ gives,
  ap (λ size. guard_of size volume) (sym agree.same_length),
)
