-- The guard of a UFS volume in words: the bytes by which kinds of volumes are known, the superblock, each inode that is reached, the
-- content of each directory, and each block of pointers to which a pointer that is used leads.
use Rattle.std.specs.Prelude.{◌≡◌, ◌↔◌, ℕ, suc, ◌+◌, ◌-◌, ◌<◌, ◌≤◌, pos, min, IsTrue, Ok, List, length}
use Rattle.std.specs.List.{Contains}
use Rattle.range_defs.specs.declared.Range.{Range}
use Rattle.range_defs.specs.Places.{covers}
use Rattle.bytes_defs.specs.declared.order.Order.{Order}
use Rattle.image_defs.specs.Ask.{result_of}
use Rattle.ufs_inode_defs.specs.Layout.{layout_of}
use Rattle.ufs_inode_defs.specs.Superblock.{block_size, super_place, inode_place}
use Rattle.ufs_inode_defs.specs.Stream.{Pointer, content_len}
use Rattle.ufs_inode_defs.specs.Blocks.{fragment_place}
use Rattle.ufs_inode_defs.specs.declared.superblock.Super.{Super}
use Rattle.ufs_inode_defs.specs.declared.inode.Inode.{Inode}
use Rattle.ufs_volume_defs.specs.Files.{Section, sections_of}
use Rattle.ufs_volume_defs.specs.Volume.{FoundVolume, volume_at, guard_of}
use Rattle.ufs_damage_defs.specs.StreamDamage.{IsUsed}
use Rattle.ufs_damage_defs.specs.Damage.{HasBlock, IsGoodDirectory, IsReached, HasSoundInode}

-- the bytes of a volume by which kinds are known: NTFS at two places, HFS+, and UFS1
pub data IsProbe : ℕ → ℕ → Type 0 where
  Ntfs : IsProbe 3 8
  NtfsMark : IsProbe 510 2
  Hfs : IsProbe 1024 4
  Ufs1 : IsProbe 9564 4

-- a byte is one of so many from a place on
abbrev pub IsIn : ℕ → ℕ → ℕ → Type 0
IsIn at len byte = (at ≤ byte) × (byte < at + len)

pub data IsGuarded (image : List ℕ) (volume : Range) (sup : Super) (byte : ℕ) : Type 0 where
  Probed : (at len : ℕ) → IsProbe at len → IsIn (volume.at + at) (min len (volume.len - at)) byte → IsGuarded image volume sup byte
  InSuper : IsIn (super_place sup) 1376 byte → IsGuarded image volume sup byte
  InInode : (number place depth : ℕ) (path : List ℕ) → IsReached image sup number place depth path → IsIn (inode_place sup number) ((layout_of sup.version).inode_len) byte → IsGuarded image volume sup byte
  InDirectory : (number index at : ℕ) (inode : Inode) → HasSoundInode image sup number inode → IsGoodDirectory image sup inode → HasBlock image sup inode index at
      → IsIn at (content_len sup inode.size index) byte → IsGuarded image volume sup byte
  InPointers : (number level first fragment : ℕ) (inode : Inode) (section : Section) (pointer : Pointer) → HasSoundInode image sup number inode → Contains (sections_of sup inode) section
      → IsUsed image sup section.stream (suc level) first pointer → pointer.value ≡ pos (suc fragment) → IsIn (fragment_place sup (suc fragment)) (block_size sup) byte → IsGuarded image volume sup byte

-- the guard of a volume that is read has these bytes of the image, and no others
abbrev pub UfsGuardLaw : Type 0
UfsGuardLaw = (orders : List Order) (image : List ℕ) (volume : Range) (number : ℕ) (found : FoundVolume) (byte : ℕ) → result_of image (volume_at orders (length image) volume number) ≡ Ok found → byte < length image
    → IsTrue (covers (guard_of orders image volume number) byte) ↔ IsGuarded image volume found.superblock byte
