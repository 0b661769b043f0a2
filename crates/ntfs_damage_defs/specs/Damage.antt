-- When a volume is damaged: each rule of what may be wrong, of the tables that are reached through sound ones.
use Rattle.std.specs.Prelude.{◌≡◌, ℕ, ◌+◌, ◌*◌, ◌^◌, ◌<◌, ◌≤◌, ◌⊎◌, true, false, Option, Some, None, Ok, List, [], ◌∷◌, ◌++◌, Contains}
use Rattle.std.specs.List.{filter, list_any}
use Rattle.bytes_defs.specs.Bytes.{part}
use Rattle.image_defs.specs.Ask.{result_of}
use Rattle.fault_defs.specs.declared.Sort.{Sort}
use Rattle.fault_defs.specs.declared.Sort.TheVariants.{BootField, Sizes, MftMap, BadName}
use Rattle.ntfs_record_defs.specs.Record.{FileRecord}
use Rattle.ntfs_volume_defs.specs.declared.boot.Boot.{Boot}
use Rattle.ntfs_volume_defs.specs.Boot.{is_boot_sector, total_sectors, sector_size, first_mft_cluster, clusters_of, boot_at}
use Rattle.ntfs_volume_defs.specs.Streams.{Stream, mapped}
use Rattle.ntfs_volume_defs.specs.Slots.{Mft, Slot, Used, slots, first_slot_at, slot_of}
use Rattle.ntfs_volume_defs.specs.Segments.{Held, kind_of, name_of, is_resident, is_unreadable, attribute_place, clusters_in, segments_of, stream_of}
use Rattle.ntfs_volume_defs.specs.Lists.{Entry, ListContent, attributes_in, list_of, list_content, entries_of}
use Rattle.ntfs_volume_defs.specs.Mft.{first_slot_alone, is_no_map, is_for_content, with_segments, next_segment, segments_behind, mft_of}
use Rattle.ntfs_volume_defs.specs.Names.{is_sound_name}
use Rattle.ntfs_volume_defs.specs.Parts.{is_part, leaders}
use Rattle.ntfs_volume_defs.specs.Files.{Assembled, assembled}
use Rattle.ntfs_damage_defs.specs.Wrong.{IsWrongSlot, IsWrongSegment, IsWrongStream, IsWrongList, IsMissing}

-- ---- what is reached

abbrev pub IsBoot : List ℕ → ℕ → ℕ → Boot → Type 0
IsBoot image at len boot = result_of image (boot_at at len) ≡ Ok boot

-- slot 0 lies in the volume
abbrev pub HasFirstSlot : Boot → Type 0
HasFirstSlot boot = first_slot_at boot + boot.record_size ≤ boot.at + boot.len

-- a base record in use in slot 0
pub record IsMftBase (image : List ℕ) (boot : Boot) (base : FileRecord) : Type 0 where
  pub inside : HasFirstSlot boot
  pub slot_is : result_of image (slot_of (first_slot_alone boot) 0) ≡ Ok (Used base)
  pub is_base : base.header.base ≡ 0

-- a base record in use in a slot of the whole $MFT
pub record IsFileBase (image : List ℕ) (boot : Boot) (mft : Mft) (number : ℕ) (base : FileRecord) : Type 0 where
  pub mft_is : result_of image (mft_of boot) ≡ Ok mft
  pub below : number < slots mft
  pub slot_is : result_of image (slot_of mft number) ≡ Ok (Used base)
  pub is_base : base.header.base ≡ 0

-- the attribute list of a base record: that of $MFT is read by slot 0 alone
pub data IsList (image : List ℕ) (boot : Boot) : Mft → ℕ → FileRecord → Held → Type 0 where
  OfMft : (base : FileRecord) (list : Held) → IsMftBase image boot base → list_of (attributes_in 0 base) ≡ Some list → IsList image boot (first_slot_alone boot) 0 base list
  OfFile : (mft : Mft) (number : ℕ) (base : FileRecord) (list : Held) → IsFileBase image boot mft number base → list_of (attributes_in number base) ≡ Some list
      → IsList image boot mft number base list

-- the content of a list, and its entries
pub record HasContent (image : List ℕ) (boot : Boot) (mft : Mft) (number : ℕ) (base : FileRecord) (list : Held) (content : ListContent) : Type 0 where
  pub list_is : IsList image boot mft number base list
  pub content_is : result_of image (list_content mft list) ≡ Ok content

-- the entries of the list of $MFT for its $DATA
pub record AreMftEntries (image : List ℕ) (boot : Boot) (base : FileRecord) (entries : List Entry) : Type 0 where
  pub list : Held
  pub content : ListContent
  pub all : List Entry
  pub base_is : IsMftBase image boot base
  pub list_is : list_of (attributes_in 0 base) ≡ Some list
  pub content_is : result_of image (list_content (first_slot_alone boot) list) ≡ Ok content
  pub all_are : entries_of (first_slot_alone boot) list content ≡ Ok all
  pub entries_are : entries ≡ filter is_for_content all

-- what is known of $MFT where the next entry of its list is looked up
pub record IsNextEntry (image : List ℕ) (boot : Boot) (base : FileRecord) (known : Option Mft) (entry : Entry) : Type 0 where
  pub front : List Entry
  pub back : List Entry
  pub entries : AreMftEntries image boot base (front ++ entry ∷ back)
  pub known_is : result_of image (segments_behind boot base None front) ≡ Ok known

-- the segments in front of an entry map the slot that it names
abbrev pub IsMapped : Boot → Mft → Entry → Type 0
IsMapped boot mft entry = (entry.number + 1) * boot.record_size ≤ mapped boot mft.content.runs

-- a slot that is reached: slot 0, each one of the whole $MFT, or one that an entry of the list of $MFT names
pub data IsReachedSlot (image : List ℕ) (boot : Boot) : Mft → ℕ → Type 0 where
  First : HasFirstSlot boot → IsReachedSlot image boot (first_slot_alone boot) 0
  Below : (mft : Mft) (number : ℕ) → result_of image (mft_of boot) ≡ Ok mft → number < slots mft → IsReachedSlot image boot mft number
  Next : (base : FileRecord) (mft : Mft) (entry : Entry) → IsNextEntry image boot base (Some mft) entry → (entry.number ≡ 0 → ⊥) → IsMapped boot mft entry → entry.number < slots mft
      → IsReachedSlot image boot mft entry.number

-- a segment of $MFT, behind what is known in front of it
pub data IsMftSegment (image : List ℕ) (boot : Boot) : Option Mft → Held → Type 0 where
  Own : (base : FileRecord) (front back : List Held) (held : Held) (known : Option Mft) → IsMftBase image boot base → list_of (attributes_in 0 base) ≡ None
      → segments_of 0x80 [] (attributes_in 0 base) ≡ front ++ held ∷ back → with_segments boot None front ≡ Ok known → IsMftSegment image boot known held
  Listed : (base : FileRecord) (known : Option Mft) (entry : Entry) (held : Held) → IsNextEntry image boot base known entry → result_of image (next_segment boot base known entry) ≡ Ok held
      → IsMftSegment image boot known held

-- what the segment in front of which nothing is known is read by
abbrev pub known_mft_of : Boot → Option Mft → Mft
known_mft_of boot None = first_slot_alone boot
known_mft_of boot (Some mft) = mft

-- the attributes of a file
pub record AreAttributesOf (image : List ℕ) (boot : Boot) (mft : Mft) (number : ℕ) (base : FileRecord) (found : Assembled) : Type 0 where
  pub base_is : IsFileBase image boot mft number base
  pub attributes_are : result_of image (assembled mft number base) ≡ Ok found

-- the segments of a part of a file, by the first attribute of its type and name: in clusters, or more than one
pub record ArePartOf (found : Assembled) (first : Held) (more : List Held) : Type 0 where
  pub leader : Held
  pub leads : Contains (leaders (filter is_part found.attributes)) leader
  pub segments : segments_of (kind_of leader) (name_of leader) (filter is_part found.attributes) ≡ first ∷ more
  pub in_clusters : (is_resident first ≡ false) ⊎ ((next : Held) × (rest : List Held) × (more ≡ next ∷ rest))

-- ---- the rules

pub data IsFalseAt (image : List ℕ) (at len : ℕ) : Sort → ℕ → Type 0 where
  NoSectors : is_boot_sector (part image at 512) ≡ true → (total_sectors (part image at 512) ≡ 0) ⊎ (len < total_sectors (part image at 512) * sector_size (part image at 512))
      → IsFalseAt image at len BootField (at + 0x28)
  NoFirstCluster : is_boot_sector (part image at 512) ≡ true → clusters_of (part image at 512) ≤ first_mft_cluster (part image at 512)
      → IsFalseAt image at len BootField (at + 0x30)
  WrongSlot : (boot : Boot) (mft : Mft) (number : ℕ) (sort : Sort) (place : ℕ) → IsBoot image at len boot → IsReachedSlot image boot mft number → IsWrongSlot image mft number sort place
      → IsFalseAt image at len sort place
  WrongListStream : (boot : Boot) (mft : Mft) (number : ℕ) (base : FileRecord) (list : Held) (sort : Sort) (place : ℕ) → IsBoot image at len boot → IsList image boot mft number base list
      → is_resident list ≡ false → IsWrongStream mft list [] sort place → IsFalseAt image at len sort place
  WrongListEntry : (boot : Boot) (mft : Mft) (number : ℕ) (base : FileRecord) (list : Held) (content : ListContent) (sort : Sort) (place : ℕ) → IsBoot image at len boot
      → HasContent image boot mft number base list content → IsWrongList mft list content sort place → IsFalseAt image at len sort place
  Missing : (boot : Boot) (mft : Mft) (number : ℕ) (base : FileRecord) (list : Held) (content : ListContent) (entries : List Entry) (entry : Entry) (sort : Sort) (place : ℕ)
      → IsBoot image at len boot → IsFileBase image boot mft number base → HasContent image boot mft number base list content → entries_of mft list content ≡ Ok entries
      → Contains entries entry → IsMissing image mft number base entry sort place → IsFalseAt image at len sort place
  MissingSegment : (boot : Boot) (base : FileRecord) (known : Option Mft) (entry : Entry) (sort : Sort) (place : ℕ) → IsBoot image at len boot → IsNextEntry image boot base known entry
      → (entry.number ≡ 0) ⊎ ((mft : Mft) × (known ≡ Some mft) × IsMapped boot mft entry) → IsMissing image (known_mft_of boot known) 0 base entry sort place
      → IsFalseAt image at len sort place
  NoFirstSlot : (boot : Boot) → IsBoot image at len boot → (HasFirstSlot boot → ⊥) → IsFalseAt image at len MftMap (first_slot_at boot)
  NoMftBase : (boot : Boot) (slot : Slot) → IsBoot image at len boot → HasFirstSlot boot → result_of image (slot_of (first_slot_alone boot) 0) ≡ Ok slot
      → ((base : FileRecord) → IsMftBase image boot base → ⊥) → IsFalseAt image at len MftMap (first_slot_at boot)
  NoMapping : (boot : Boot) (known : Option Mft) (held : Held) → IsBoot image at len boot → IsMftSegment image boot known held → is_no_map held ≡ true
      → IsFalseAt image at len MftMap (first_slot_at boot)
  NotMapped : (boot : Boot) (base : FileRecord) (known : Option Mft) (entry : Entry) → IsBoot image at len boot → IsNextEntry image boot base known entry → (entry.number ≡ 0 → ⊥)
      → ((mft : Mft) → known ≡ Some mft → IsMapped boot mft entry → ⊥) → IsFalseAt image at len MftMap (first_slot_at boot)
  NoMftContent : (boot : Boot) (base : FileRecord) → IsBoot image at len boot → IsMftBase image boot base
      → ((list_of (attributes_in 0 base) ≡ None) × (segments_of 0x80 [] (attributes_in 0 base) ≡ [])) ⊎ AreMftEntries image boot base []
      → IsFalseAt image at len MftMap (first_slot_at boot)
  WrongMftSegment : (boot : Boot) (mft : Mft) (held : Held) (sort : Sort) (place : ℕ) → IsBoot image at len boot → IsMftSegment image boot (Some mft) held → is_no_map held ≡ false
      → IsWrongSegment mft (clusters_in mft.content.runs) held sort place → IsFalseAt image at len sort place
  WrongMftStart : (boot : Boot) (held : Held) (sort : Sort) (place : ℕ) → IsBoot image at len boot → IsMftSegment image boot None held → is_no_map held ≡ false
      → IsWrongStream (first_slot_alone boot) held [] sort place → IsFalseAt image at len sort place
  NoName : (boot : Boot) (mft : Mft) (number : ℕ) (base : FileRecord) (found : Assembled) (held : Held) → IsBoot image at len boot → AreAttributesOf image boot mft number base found
      → Contains found.attributes held → kind_of held ≡ 0x30 → is_sound_name held ≡ false → IsFalseAt image at len BadName (attribute_place mft held)
  WrongPart : (boot : Boot) (mft : Mft) (number : ℕ) (base : FileRecord) (found : Assembled) (first : Held) (more : List Held) (sort : Sort) (place : ℕ) → IsBoot image at len boot
      → AreAttributesOf image boot mft number base found → ArePartOf found first more → IsWrongStream mft first more sort place → IsFalseAt image at len sort place
  TooLongUnreadable : (boot : Boot) (mft : Mft) (number : ℕ) (base : FileRecord) (found : Assembled) (first : Held) (more : List Held) (stream : Stream) → IsBoot image at len boot
      → AreAttributesOf image boot mft number base found → ArePartOf found first more → list_any is_unreadable (first ∷ more) ≡ true → stream_of mft first more ≡ Ok stream
      → 2 ^ 62 < mapped mft.boot stream.runs → IsFalseAt image at len Sizes (attribute_place mft first)
