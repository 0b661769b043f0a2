-- The laws of damage: of slots, of streams, of attribute lists and their content, and of a volume with its boot sector, $MFT and files.
use Rattle.std.specs.Prelude.{◌≡◌, ℕ, ◌<◌, false, Ok, Err, List, []}
use Rattle.fault_defs.specs.declared.Sort.{Sort}
use Rattle.fault_defs.specs.declared.Sort.TheVariants.{BootField, MftMap}
use Rattle.fault_defs.specs.declared.Refusal.{Refusal}
use Rattle.image_defs.specs.Ask.{result_of}
use Rattle.ntfs_volume_defs.specs.Slots.{Mft, Slot, slots, slot_of}
use Rattle.ntfs_record_defs.specs.Attributes.{Stream as StreamHeader, NonResident}
use Rattle.ntfs_volume_defs.specs.Segments.{Held, stream_of, is_resident}
use Rattle.ntfs_volume_defs.specs.Streams.{Stream}
use Rattle.ntfs_volume_defs.specs.Lists.{ListContent, Entry, list_content, entries_of}
use Rattle.ntfs_volume_defs.specs.declared.boot.Boot.{Boot}
use Rattle.ntfs_volume_defs.specs.Boot.{boot_at}
use Rattle.ntfs_volume_defs.specs.Mft.{mft_of}
use Rattle.ntfs_volume_defs.specs.Files.{file_of}
use Rattle.ntfs_volume_defs.specs.Volume.{FoundVolume, volume_at}
use Rattle.ntfs_damage_defs.specs.Damage.{IsBoot, IsFalseAt}
use Rattle.ntfs_damage_defs.specs.Told.{IsToldBy}
use Rattle.ntfs_damage_defs.specs.Wrong.{IsWrongSlot, IsWrongStream, IsWrongList}
use Rattle.ntfs_damage_defs.specs.SlotDamage.{HasWholeSectors}
use Rattle.ntfs_damage_defs.specs.EntryDamage.{IsWrongListStream}

-- a slot that is refused for damage has what is wrong, and one that is read has nothing wrong
abbrev pub SlotRefusedLaw : Type 0
SlotRefusedLaw = (image : List ℕ) (mft : Mft) (number : ℕ) (refusal : Refusal) → HasWholeSectors mft.boot → result_of image (slot_of mft number) ≡ Err refusal → IsToldBy (IsWrongSlot image mft number) refusal

abbrev pub SlotReadLaw : Type 0
SlotReadLaw = (image : List ℕ) (mft : Mft) (number : ℕ) (slot : Slot) (sort : Sort) (place : ℕ) → result_of image (slot_of mft number) ≡ Ok slot → IsWrongSlot image mft number sort place → ⊥

-- the same of a stream, from its first segment and the others
abbrev pub StreamRefusedLaw : Type 0
StreamRefusedLaw = (mft : Mft) (first : Held) (more : List Held) (header : StreamHeader) (refusal : Refusal) → first.opened.attribute.form ≡ NonResident header → stream_of mft first more ≡ Err refusal
    → IsToldBy (IsWrongStream mft first more) refusal

abbrev pub StreamReadLaw : Type 0
StreamReadLaw = (mft : Mft) (first : Held) (more : List Held) (stream : Stream) (sort : Sort) (place : ℕ) → stream_of mft first more ≡ Ok stream → IsWrongStream mft first more sort place → ⊥

-- the same of the entries of an attribute list
abbrev pub ListRefusedLaw : Type 0
ListRefusedLaw = (mft : Mft) (list : Held) (content : ListContent) (refusal : Refusal) → entries_of mft list content ≡ Err refusal → IsToldBy (IsWrongList mft list content) refusal

abbrev pub ListReadLaw : Type 0
ListReadLaw = (mft : Mft) (list : Held) (content : ListContent) (entries : List Entry) (sort : Sort) (place : ℕ) → entries_of mft list content ≡ Ok entries → IsWrongList mft list content sort place → ⊥

-- the same of the content of an attribute list
abbrev pub ContentRefusedLaw : Type 0
ContentRefusedLaw = (image : List ℕ) (mft : Mft) (list : Held) (refusal : Refusal) → result_of image (list_content mft list) ≡ Err refusal → IsToldBy (IsWrongListStream mft list) refusal

abbrev pub ContentReadLaw : Type 0
ContentReadLaw = (image : List ℕ) (mft : Mft) (list : Held) (content : ListContent) (sort : Sort) (place : ℕ) → result_of image (list_content mft list) ≡ Ok content → is_resident list ≡ false
    → IsWrongStream mft list [] sort place → ⊥

-- a boot sector is refused for damage only where a rule of it is broken at that place
abbrev pub BootRefusedLaw : Type 0
BootRefusedLaw = (image : List ℕ) (at len : ℕ) (refusal : Refusal) → result_of image (boot_at at len) ≡ Err refusal → IsToldBy (IsFalseAt image at len) refusal

-- one that is read breaks none of its rules
abbrev pub BootReadLaw : Type 0
BootReadLaw = (image : List ℕ) (at len : ℕ) (boot : Boot) (place : ℕ) → IsBoot image at len boot → IsFalseAt image at len BootField place → ⊥

-- where the boot sector is sound, $MFT is refused for damage only where a rule of the volume is broken at that place
abbrev pub MftRefusedLaw : Type 0
MftRefusedLaw = (image : List ℕ) (at len : ℕ) (boot : Boot) → IsBoot image at len boot → (refusal : Refusal) → result_of image (mft_of boot) ≡ Err refusal
    → IsToldBy (IsFalseAt image at len) refusal

-- one that is found breaks no rule of its map
abbrev pub MftReadLaw : Type 0
MftReadLaw = (image : List ℕ) (at len : ℕ) (boot : Boot) (mft : Mft) (place : ℕ) → IsBoot image at len boot → result_of image (mft_of boot) ≡ Ok mft → IsFalseAt image at len MftMap place → ⊥

-- where the boot sector and $MFT are sound, a file of a slot is refused for damage only where a rule of the volume is broken at that place
abbrev pub FileRefusedLaw : Type 0
FileRefusedLaw = (image : List ℕ) (at len : ℕ) (boot : Boot) (mft : Mft) (number : ℕ) → IsBoot image at len boot → result_of image (mft_of boot) ≡ Ok mft → number < slots mft
    → (refusal : Refusal) → result_of image (file_of mft number) ≡ Err refusal → IsToldBy (IsFalseAt image at len) refusal

-- a volume is refused for damage only where a rule of it is broken at that place
abbrev pub VolumeRefusedLaw : Type 0
VolumeRefusedLaw = (image : List ℕ) (at len : ℕ) (refusal : Refusal) → result_of image (volume_at at len) ≡ Err refusal → IsToldBy (IsFalseAt image at len) refusal

-- a volume that is read has no rule that is broken
abbrev pub VolumeReadLaw : Type 0
VolumeReadLaw = (image : List ℕ) (at len : ℕ) (volume : FoundVolume) (sort : Sort) (place : ℕ) → result_of image (volume_at at len) ≡ Ok volume → IsFalseAt image at len sort place → ⊥
