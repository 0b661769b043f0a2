-- A volume that is read breaks no rule.
use Rattle.std.specs.Prelude.{◌≡◌, ℕ, ◌<◌, false, Some, Ok, List, []}
use Rattle.std.proofs.Common.{arith, ap, sym, ◌∙◌, subst}
use Rattle.std.proofs.lemmas.Bool.{ltb-true}
use Rattle.std.proofs.lemmas.List.Elements.{All-contains}
use Rattle.bytes_defs.specs.Bytes.{part}
use Rattle.image_defs.specs.Ask.{result_of}
use Rattle.image_defs.proofs.Looks.{bind_gives}
use Rattle.fault_defs.specs.declared.Sort.{Sort}
use Rattle.ntfs_record_defs.specs.Record.{FileRecord}
use Rattle.ntfs_record_defs.specs.Stored.{count_from}
use Rattle.ntfs_volume_defs.specs.declared.boot.Boot.{Boot}
use Rattle.ntfs_volume_defs.specs.Boot.{first_mft_cluster, clusters_of, boot_at}
use Rattle.ntfs_volume_defs.specs.Streams.{mapped}
use Rattle.ntfs_volume_defs.specs.Slots.{Mft, Used, slots, slot_of}
use Rattle.ntfs_volume_defs.specs.Segments.{Held, is_resident}
use Rattle.ntfs_volume_defs.specs.Lists.{Entry, ListContent, attributes_in, list_of, list_content, entries_of}
use Rattle.ntfs_volume_defs.specs.Mft.{first_slot_alone, mft_of}
use Rattle.ntfs_volume_defs.specs.Files.{file_in, file_of, files_of}
use Rattle.ntfs_volume_defs.specs.Volume.{FoundVolume, all_found, within_limits, volume_with, volume_behind, volume_at}
use Rattle.ntfs_damage_defs.specs.Wrong.{IsWrongSlot, IsWrongStream, IsWrongList}
use Rattle.ntfs_damage_defs.specs.Damage.{IsBoot, IsFileBase, IsList, OfMft, OfFile, IsReachedSlot, First, Below, Next, IsFalseAt, NoSectors, NoFirstCluster, WrongSlot, WrongListStream, WrongListEntry, Missing, MissingSegment, NoFirstSlot, NoMftBase, NoMapping, NotMapped, NoMftContent, WrongMftSegment, WrongMftStart, NoName, WrongPart, TooLongUnreadable}
use Rattle.ntfs_damage_defs.proofs.SlotDamage.{slot_is_sound}
use Rattle.ntfs_damage_defs.proofs.StreamDamage.{stream_is_sound}
use Rattle.ntfs_damage_defs.proofs.ListDamage.{list_is_sound}
use Rattle.ntfs_damage_defs.proofs.EntryDamage.{content_is_sound}
use Rattle.ntfs_damage_defs.proofs.BootDamage.{boot_is_read, total_is_sound}
use Rattle.ntfs_damage_defs.proofs.Each.{Gives, each_gives_all, count_has}
use Rattle.ntfs_damage_defs.proofs.SoundMap.{IsReadMft, mft_is_read, mft_list_is_read, segment_maps_here, mft_segment_is_sound, mft_start_is_sound, next_is_mapped, next_slot_is_sound, next_is_named, has_content}
use Rattle.ntfs_damage_defs.proofs.SoundFiles.{file_list_is_read, file_entry_is_named, name_is_sound, part_has_stream}

-- ---- a volume that is read, from its boot sector

record IsReadVolume (image : List ℕ) (boot : Boot) : Type 0 where
  mft : Mft
  mft_is : result_of image (mft_of boot) ≡ Ok mft
  files : (number : ℕ) → number < slots mft → Gives image (file_of mft) number

volume_is_read : (image : List ℕ) (at len : ℕ) (volume : FoundVolume) (boot : Boot) → result_of image (volume_at at len) ≡ Ok volume → IsBoot image at len boot → IsReadVolume image boot
unfolding volume_at files_of
volume_is_read image at len volume boot gives is_boot =
    let own = bind_gives image (boot_at at len) volume_behind volume gives in
    let mft = bind_gives image (mft_of own.0) (volume_with own.0) volume own.2 in
    let files = bind_gives image (files_of mft.0) (λ files. within_limits (record { mft = mft.0; files = all_found files })) volume mft.2 in
    let same : own.0 ≡ boot = cc (own.1, is_boot) in
    let numbers = count_from 0 (slots mft.0) in
    record {
      mft = mft.0;
      mft_is = sym (ap (λ boot. result_of image (mft_of boot)) same) ∙ mft.1;
      files =
          λ number below. All-contains (Gives image (file_of mft.0)) numbers number (each_gives_all image (file_of mft.0) numbers files.0 files.1)
          (count_has 0 (slots mft.0) number (omega arith) (omega (arith, below)));
    }

-- a list that is read
record IsReadList (image : List ℕ) (mft : Mft) (list : Held) : Type 0 where
  content : ListContent
  content_is : result_of image (list_content mft list) ≡ Ok content
  entries : List Entry
  entries_are : entries_of mft list content ≡ Ok entries

module _ (image : List ℕ) (boot : Boot) (volume : IsReadVolume image boot) where
  map_is_read : IsReadMft image boot volume.mft
  map_is_read = mft_is_read image boot volume.mft volume.mft_is

  file_is_read : (mft : Mft) (number : ℕ) → result_of image (mft_of boot) ≡ Ok mft → number < slots mft → Gives image (file_of mft) number
  file_is_read mft number mft_is below =
      let same : volume.mft ≡ mft = cc (volume.mft_is, mft_is) in
      let P : Mft → Type 0 = λ mft. (number : ℕ) → number < slots mft → Gives image (file_of mft) number in
      subst P same volume.files number below

  base_file : (mft : Mft) (number : ℕ) (base : FileRecord) → IsFileBase image boot mft number base → Gives image (file_of mft) number
  base_file mft number base is = file_is_read mft number is.mft_is is.below

  reached_is_sound : (mft : Mft) (number : ℕ) (sort : Sort) (place : ℕ) → IsReachedSlot image boot mft number → IsWrongSlot image mft number sort place → ⊥
  unfolding file_of
  reached_is_sound mft number sort place (First fits) wrong = slot_is_sound image (first_slot_alone boot) 0 (Used map_is_read.base) sort place map_is_read.base_is.slot_is wrong
  reached_is_sound mft number sort place (Below own own_number mft_is below) wrong =
      let file = file_is_read own own_number mft_is below in
      let slot = bind_gives image (slot_of own own_number) (file_in own own_number) file.value file.gives in
      slot_is_sound image own own_number slot.0 sort place slot.1 wrong
  reached_is_sound mft number sort place (Next base known entry next differs maps below) wrong = next_slot_is_sound image boot volume.mft map_is_read base known entry sort place next differs wrong

  list_is_read : (mft : Mft) (number : ℕ) (base : FileRecord) (list : Held) → IsList image boot mft number base list → IsReadList image mft list
  list_is_read mft number base list (OfMft own own_list base_is list_is) =
      let read = mft_list_is_read image boot volume.mft map_is_read own own_list base_is list_is in
      record { content = read.content; content_is = read.content_is; entries = read.entries; entries_are = read.entries_are }
  list_is_read mft number base list (OfFile own own_number own_base own_list base_is list_is) =
      let read = file_list_is_read image boot own own_number own_base base_is (base_file own own_number own_base base_is) own_list list_is in
      record { content = read.content; content_is = read.content_is; entries = read.entries; entries_are = read.entries_are }

  list_found : (mft : Mft) (number : ℕ) (base : FileRecord) (list : Held) → IsList image boot mft number base list → list_of (attributes_in number base) ≡ Some list
  list_found mft number base list (OfMft own own_list base_is list_is) = list_is
  list_found mft number base list (OfFile own own_number own_base own_list base_is list_is) = list_is

  list_stream_is_sound : (mft : Mft) (number : ℕ) (base : FileRecord) (list : Held) (sort : Sort) (place : ℕ) → IsList image boot mft number base list → is_resident list ≡ false → IsWrongStream mft list [] sort place → ⊥
  list_stream_is_sound mft number base list sort place is clusters wrong =
      let read = list_is_read mft number base list is in
      content_is_sound image mft list read.content sort place read.content_is clusters wrong

  list_entries_are_sound : (mft : Mft) (number : ℕ) (base : FileRecord) (list : Held) (content : ListContent) (sort : Sort) (place : ℕ) → IsList image boot mft number base list → result_of image (list_content mft list) ≡ Ok content
      → IsWrongList mft list content sort place → ⊥
  list_entries_are_sound mft number base list content sort place is content_is wrong =
      let read = list_is_read mft number base list is in
      let same : read.content ≡ content = cc (read.content_is, content_is) in
      list_is_sound mft list content read.entries sort place (sym (ap (entries_of mft list) same) ∙ read.entries_are) wrong

-- ---- the volume

pub volume_is_sound : (image : List ℕ) (at len : ℕ) (volume : FoundVolume) (sort : Sort) (place : ℕ) → result_of image (volume_at at len) ≡ Ok volume → IsFalseAt image at len sort place → ⊥
unfolding volume_at
volume_is_sound image at len volume sort place gives wrong = by_rule sort place wrong
  where
    found_boot : (boot : Boot) × IsBoot image at len boot
    found_boot = let own = bind_gives image (boot_at at len) volume_behind volume gives in (own.0, own.1)

    read : (boot : Boot) → IsBoot image at len boot → IsReadVolume image boot
    read boot is_boot = volume_is_read image at len volume boot gives is_boot

    map : (boot : Boot) (is_boot : IsBoot image at len boot) → IsReadMft image boot (read boot is_boot).mft
    map boot is_boot = map_is_read image boot (read boot is_boot)

    by_rule : (s : Sort) (p : ℕ) → IsFalseAt image at len s p → ⊥
    by_rule s p (NoSectors magic none) = total_is_sound len (part image at 512) (boot_is_read image at len found_boot.0 found_boot.1).total none
    by_rule s p (NoFirstCluster magic past) =
        let below = ltb-true (first_mft_cluster (part image at 512)) (clusters_of (part image at 512)) (boot_is_read image at len found_boot.0 found_boot.1).first in
        omega (arith, below, past)
    by_rule s p (WrongSlot boot mft number sort place is_boot reached wrong) = reached_is_sound image boot (read boot is_boot) mft number sort place reached wrong
    by_rule s p (WrongListStream boot mft number base list sort place is_boot is clusters wrong) = list_stream_is_sound image boot (read boot is_boot) mft number base list sort place is clusters wrong
    by_rule s p (WrongListEntry boot mft number base list content sort place is_boot has wrong) =
        list_entries_are_sound image boot (read boot is_boot) mft number base list content sort place has.list_is has.content_is wrong
    by_rule s p (Missing boot mft number base list content entries entry sort place is_boot base_is has are among missing) =
        file_entry_is_named image boot mft number base base_is (base_file image boot (read boot is_boot) mft number base base_is) list content entries entry sort place
        (list_found image boot (read boot is_boot) mft number base list has.list_is) has.content_is are among missing
    by_rule s p (MissingSegment boot base known entry sort place is_boot next here missing) = next_is_named image boot (read boot is_boot).mft (map boot is_boot) base known entry sort place next missing
    by_rule s p (NoFirstSlot boot is_boot outside) = outside (map boot is_boot).base_is.inside
    by_rule s p (NoMftBase boot slot is_boot inside slot_is none) = none (map boot is_boot).base (map boot is_boot).base_is
    by_rule s p (NoMapping boot known held is_boot segment none) = segment_maps_here image boot (read boot is_boot).mft (map boot is_boot) known held segment none
    by_rule s p (NotMapped boot base known entry is_boot next differs none) = next_is_mapped image boot (read boot is_boot).mft (map boot is_boot) base known entry next differs none
    by_rule s p (NoMftContent boot base is_boot base_is none) = has_content image boot (read boot is_boot).mft (map boot is_boot) base base_is none
    by_rule s p (WrongMftSegment boot mft held sort place is_boot segment maps wrong) = mft_segment_is_sound image boot (read boot is_boot).mft (map boot is_boot) mft held sort place segment wrong
    by_rule s p (WrongMftStart boot held sort place is_boot segment maps wrong) = mft_start_is_sound image boot (read boot is_boot).mft (map boot is_boot) held sort place segment wrong
    by_rule s p (NoName boot mft number base found held is_boot are among kind bad) =
        name_is_sound image boot mft number base are.base_is (base_file image boot (read boot is_boot) mft number base are.base_is) found held are among kind bad
    by_rule s p (WrongPart boot mft number base found first more sort place is_boot are part wrong) =
        let has = part_has_stream image boot mft number base are.base_is (base_file image boot (read boot is_boot) mft number base are.base_is) found first more are part in
        stream_is_sound mft first more has.stream sort place has.is wrong
    by_rule s p (TooLongUnreadable boot mft number base found first more stream is_boot are part unreadable is long) =
        let has = part_has_stream image boot mft number base are.base_is (base_file image boot (read boot is_boot) mft number base are.base_is) found first more are part in
        let short = has.short unreadable in
        let same : has.stream ≡ stream = cc (has.is, is) in
        omega (arith, short, long, ap (λ stream. mapped mft.boot stream.runs) same)
