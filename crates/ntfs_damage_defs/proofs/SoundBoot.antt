-- A boot sector that is read breaks none of its rules, and a $MFT that is found none of those of its map.
use Rattle.std.specs.Prelude.{◌≡◌, ℕ, Ok, List}
use Rattle.std.proofs.Common.{arith, ap, sym, ◌∙◌}
use Rattle.std.proofs.lemmas.Bool.{ltb-true}
use Rattle.bytes_defs.specs.Bytes.{part}
use Rattle.image_defs.specs.Ask.{result_of}
use Rattle.fault_defs.specs.declared.Sort.{Sort}
use Rattle.fault_defs.specs.declared.Sort.TheVariants.{BootField, MftMap}
use Rattle.ntfs_record_defs.specs.Record.{FileRecord}
use Rattle.ntfs_volume_defs.specs.declared.boot.Boot.{Boot}
use Rattle.ntfs_volume_defs.specs.Boot.{first_mft_cluster, clusters_of}
use Rattle.ntfs_volume_defs.specs.Slots.{Mft}
use Rattle.ntfs_volume_defs.specs.Segments.{Held}
use Rattle.ntfs_volume_defs.specs.Lists.{Entry, ListContent}
use Rattle.ntfs_volume_defs.specs.Mft.{mft_of}
use Rattle.ntfs_damage_defs.specs.Wrong.{IsWrongSlot, OtherMagic, IsWrongSegment, WrongRuns, IsWrongStream, WrongSegment, TooLarge, IsWrongList, WrongEntry, IsMissing, NoSlot}
use Rattle.ntfs_damage_defs.specs.Damage.{IsBoot, IsFalseAt, NoSectors, NoFirstCluster, WrongSlot, WrongListStream, WrongListEntry, Missing, MissingSegment, NoFirstSlot, NoMftBase, NoMapping, NotMapped, NoMftContent, WrongMftSegment, WrongMftStart, WrongPart}
use Rattle.ntfs_damage_defs.proofs.BootDamage.{IsReadBoot, boot_is_read, total_is_sound}
use Rattle.ntfs_damage_defs.proofs.SoundMap.{IsReadMft, mft_is_read, segment_maps_here, next_is_mapped, has_content}

-- ---- what is wrong with slots, streams, lists and their entries is no field of the boot sector, and not the map of $MFT

abbrev IsInside : Sort → Type 0
IsInside BootField = ⊥
IsInside MftMap = ⊥
IsInside sort = Unit {0}

abbrev IsNotBoot : Sort → Type 0
IsNotBoot BootField = ⊥
IsNotBoot sort = Unit {0}

abbrev IsNotMap : Sort → Type 0
IsNotMap MftMap = ⊥
IsNotMap sort = Unit {0}

not_boot : (sort : Sort) → IsInside sort → IsNotBoot sort
not_boot BootField inside = inside
not_boot sort inside = tt

not_map : (sort : Sort) → IsInside sort → IsNotMap sort
not_map MftMap inside = inside
not_map sort inside = tt

slot_inside : (image : List ℕ) (mft : Mft) (number : ℕ) (sort : Sort) (place : ℕ) → IsWrongSlot image mft number sort place → IsInside sort
slot_inside image mft number sort place (OtherMagic at another some is) = tt
slot_inside image mft number sort place other = tt

segment_inside : (mft : Mft) (before : ℕ) (held : Held) (sort : Sort) (place : ℕ) → IsWrongSegment mft before held sort place → IsInside sort
segment_inside mft before held sort place (WrongRuns header damage is decodes) = tt
segment_inside mft before held sort place other = tt

stream_inside : (mft : Mft) (first : Held) (more : List Held) (sort : Sort) (place : ℕ) → IsWrongStream mft first more sort place → IsInside sort
stream_inside mft first more sort place (WrongSegment front held back runs own at split before wrong) = segment_inside mft _ held own at wrong
stream_inside mft first more sort place (TooLarge header is large) = tt

list_inside : (mft : Mft) (list : Held) (content : ListContent) (sort : Sort) (place : ℕ) → IsWrongList mft list content sort place → IsInside sort
list_inside mft list content sort place (WrongEntry at chain below bad) = tt

missing_inside : (image : List ℕ) (mft : Mft) (number : ℕ) (base : FileRecord) (entry : Entry) (sort : Sort) (place : ℕ) → IsMissing image mft number base entry sort place → IsInside sort
missing_inside image mft number base entry sort place (NoSlot differs past) = tt
missing_inside image mft number base entry sort place other = tt

-- ---- the boot sector

pub boot_is_sound : (image : List ℕ) (at len : ℕ) (boot : Boot) (place : ℕ) → IsBoot image at len boot → IsFalseAt image at len BootField place → ⊥
boot_is_sound image at len boot place is_boot wrong = by_rule BootField place wrong
  where
    read : IsReadBoot image at len boot
    read = boot_is_read image at len boot is_boot

    by_rule : (s : Sort) (p : ℕ) → IsFalseAt image at len s p → IsNotBoot s
    by_rule s p (NoSectors magic none) = total_is_sound len (part image at 512) read.total none
    by_rule s p (NoFirstCluster magic past) =
        let below = ltb-true (first_mft_cluster (part image at 512)) (clusters_of (part image at 512)) read.first in
        absurd (omega (arith, below, past))
    by_rule s p (WrongSlot boot mft number sort place is_boot reached wrong) = not_boot sort (slot_inside image mft number sort place wrong)
    by_rule s p (WrongListStream boot mft number base list sort place is_boot is clusters wrong) = not_boot sort (stream_inside mft list _ sort place wrong)
    by_rule s p (WrongListEntry boot mft number base list content sort place is_boot has wrong) = not_boot sort (list_inside mft list content sort place wrong)
    by_rule s p (Missing boot mft number base list content entries entry sort place is_boot base_is has are among missing) = not_boot sort (missing_inside image mft number base entry sort place missing)
    by_rule s p (MissingSegment boot base known entry sort place is_boot next here missing) = not_boot sort (missing_inside image _ 0 base entry sort place missing)
    by_rule s p (WrongMftSegment boot mft held sort place is_boot segment maps wrong) = not_boot sort (segment_inside mft _ held sort place wrong)
    by_rule s p (WrongMftStart boot held sort place is_boot segment maps wrong) = not_boot sort (stream_inside _ held _ sort place wrong)
    by_rule s p (WrongPart boot mft number base found first more sort place is_boot are part wrong) = not_boot sort (stream_inside mft first more sort place wrong)
    by_rule s p other = tt

-- ---- the map of $MFT

pub mft_is_sound : (image : List ℕ) (at len : ℕ) (boot : Boot) (mft : Mft) (place : ℕ) → IsBoot image at len boot → result_of image (mft_of boot) ≡ Ok mft → IsFalseAt image at len MftMap place → ⊥
mft_is_sound image at len boot mft place is_boot mft_is wrong = by_rule MftMap place wrong
  where
    read : (own : Boot) → IsBoot image at len own → IsReadMft image own mft
    read own own_is =
        let same : boot ≡ own = cc (is_boot, own_is) in
        mft_is_read image own mft (sym (ap (λ boot. result_of image (mft_of boot)) same) ∙ mft_is)

    by_rule : (s : Sort) (p : ℕ) → IsFalseAt image at len s p → IsNotMap s
    by_rule s p (WrongSlot boot mft number sort place is_boot reached wrong) = not_map sort (slot_inside image mft number sort place wrong)
    by_rule s p (WrongListStream boot mft number base list sort place is_boot is clusters wrong) = not_map sort (stream_inside mft list _ sort place wrong)
    by_rule s p (WrongListEntry boot mft number base list content sort place is_boot has wrong) = not_map sort (list_inside mft list content sort place wrong)
    by_rule s p (Missing boot mft number base list content entries entry sort place is_boot base_is has are among missing) = not_map sort (missing_inside image mft number base entry sort place missing)
    by_rule s p (MissingSegment boot base known entry sort place is_boot next here missing) = not_map sort (missing_inside image _ 0 base entry sort place missing)
    by_rule s p (NoFirstSlot own own_is outside) = outside (read own own_is).base_is.inside
    by_rule s p (NoMftBase own slot own_is inside slot_is none) = none (read own own_is).base (read own own_is).base_is
    by_rule s p (NoMapping own known held own_is segment none) = segment_maps_here image own mft (read own own_is) known held segment none
    by_rule s p (NotMapped own base known entry own_is next differs none) = next_is_mapped image own mft (read own own_is) base known entry next differs none
    by_rule s p (NoMftContent own base own_is base_is none) = has_content image own mft (read own own_is) base base_is none
    by_rule s p (WrongMftSegment boot mft held sort place is_boot segment maps wrong) = not_map sort (segment_inside mft _ held sort place wrong)
    by_rule s p (WrongMftStart boot held sort place is_boot segment maps wrong) = not_map sort (stream_inside _ held _ sort place wrong)
    by_rule s p (WrongPart boot mft number base found first more sort place is_boot are part wrong) = not_map sort (stream_inside mft first more sort place wrong)
    by_rule s p other = tt
