-- What is wrong with a UFS volume, in the words of the tables: what is damaged and where, what isn't supported, and of what there
-- is too much. It speaks of what is reached through sound tables, and knows nothing of an order.
use Rattle.std.specs.Prelude.{◌≡◌, ◌⊎◌, ℕ, suc, ◌+◌, ◌-◌, ◌*◌, ◌%◌, ◌<◌, min, true, false, Option, Some, None, Ok, Err, List, [], ◌∷◌, length}
use Rattle.std.specs.List.{All, AllPairs, Contains}
use Rattle.range_defs.specs.declared.Range.{Range}
use Rattle.range_defs.specs.declared.TheConstants.{LONGEST_IMAGE}
use Rattle.bytes_defs.specs.Bytes.{part}
use Rattle.bytes_defs.specs.declared.order.Order.{Order}
use Rattle.image_defs.specs.Ask.{result_of}
use Rattle.rx_tree.specs.Path.{joined_path}
use Rattle.name_defs.specs.Texts.{bytes_text}
use Rattle.fault_defs.specs.declared.Refusal.{Refusal}
use Rattle.fault_defs.specs.declared.Refusal.TheVariants.{NotThis, Damaged, Unsupported, Limit}
use Rattle.fault_defs.specs.declared.Sort.{Sort}
use Rattle.fault_defs.specs.declared.Sort.TheVariants.{SuperField, RootKind, InodeNumber, DeadInode, FileSize, BlockPointer, DirSize, DirEntry, DirTwice}
use Rattle.fault_defs.specs.declared.What.{What}
use Rattle.fault_defs.specs.declared.What.TheVariants.{Snapshot}
use Rattle.fault_defs.specs.declared.Bound.{Bound}
use Rattle.fault_defs.specs.declared.Bound.TheVariants.{Image, Names, PathBytes, Path, Depth, Runs}
use Rattle.ufs_inode_defs.specs.Layout.{layout_1, layout_2, layout_of}
use Rattle.ufs_inode_defs.specs.Superblock.{superblock_of, block_size, wrong_field, super_place, magic_order, volume_super, has_inode}
use Rattle.ufs_inode_defs.specs.Inode.{stored_inode, is_directory, is_snapshot, reach, size_place, ext_size_place, flags_place, inode_at, inode_named}
use Rattle.ufs_inode_defs.specs.Stream.{content_stream, block_count, content_len}
use Rattle.ufs_inode_defs.specs.Blocks.{most_runs}
use Rattle.ufs_inode_defs.specs.BlockPlace.{byte_place}
use Rattle.ufs_inode_defs.specs.declared.superblock.Super.{Super}
use Rattle.ufs_inode_defs.specs.declared.inode.Inode.{Inode}
use Rattle.ufs_volume_defs.specs.Directory.{Entry, entries_of, leading_entries}
use Rattle.ufs_volume_defs.specs.Names.{Named, path_bytes, longest_path, most_names, most_path_bytes, deepest}
use Rattle.ufs_volume_defs.specs.Files.{Section, sections_of}
use Rattle.ufs_volume_defs.specs.Volume.{FoundVolume, volume_at}
use Rattle.ufs_damage_defs.specs.StreamDamage.{HasBadPointer, Start, BeginsRun}

-- ---- the superblock

-- some bytes of a volume, as far as it goes
abbrev pub volume_bytes : List ℕ → Range → ℕ → ℕ → List ℕ
volume_bytes image volume at len = part image (volume.at + at) (min len (volume.len - at))

-- the order in which the magic of UFS1, or of UFS2, fits a volume
abbrev pub order_of_1 : List Order → List ℕ → Range → Option Order
order_of_1 orders image volume = magic_order layout_1 orders (volume_bytes image volume 9564 4)

abbrev pub order_of_2 : List Order → List ℕ → Range → Option Order
order_of_2 orders image volume = magic_order layout_2 orders (volume_bytes image volume 66908 4)

-- the version and order of a volume: it is a UFS1 where that magic fits, and else a UFS2 where that does
pub data HasMagic (orders : List Order) (image : List ℕ) (volume : Range) : ℕ → Order → Type 0 where
  First : (order : Order) → order_of_1 orders image volume ≡ Some order → HasMagic orders image volume 1 order
  Second : (order : Order) → order_of_1 orders image volume ≡ None → order_of_2 orders image volume ≡ Some order → HasMagic orders image volume 2 order

-- the fields of its superblock, right or wrong
abbrev pub stored_super : List ℕ → Range → ℕ → Order → Super
stored_super image volume version order = superblock_of volume version order (part image (volume.at + (layout_of version).superblock_at) 1376)

abbrev pub HasSuper : List Order → List ℕ → Range → Super → Type 0
HasSuper orders image volume sup = result_of image (volume_super orders volume) ≡ Ok sup

-- ---- what is reached

-- a block of a directory stands at a place
pub record HasBlock (image : List ℕ) (sup : Super) (directory : Inode) (index at : ℕ) : Type 0 where
  pub below : index < block_count sup directory.size
  pub there : byte_place image sup (content_stream sup directory) (index * block_size sup) ≡ Some at

-- the bytes of a directory in a block at a place
abbrev pub block_bytes : List ℕ → Super → Inode → ℕ → ℕ → List ℕ
block_bytes image sup directory index at = part image at (content_len sup directory.size index)

-- an entry of a directory that leads on: the byte of the content at which it stands, and its place in the image
pub record HasEntry (image : List ℕ) (sup : Super) (directory : Inode) (offset place : ℕ) (entry : Entry) : Type 0 where
  pub index : ℕ
  pub at : ℕ
  pub block : HasBlock image sup directory index at
  pub entries : List Entry
  pub read : entries_of sup.order (block_bytes image sup directory index at) ≡ Ok entries
  pub among : Contains (leading_entries entries) entry
  pub offset_is : offset ≡ index * block_size sup + entry.at
  pub place_is : place ≡ at + entry.at

-- a block of a directory is in a hole
pub record HasHole (image : List ℕ) (sup : Super) (directory : Inode) : Type 0 where
  pub index : ℕ
  pub below : index < block_count sup directory.size
  pub none : byte_place image sup (content_stream sup directory) (index * block_size sup) ≡ None

-- no pointer to the content leads out
abbrev pub HasGoodPointers : List ℕ → Super → Inode → Type 0
HasGoodPointers image sup inode = (place : ℕ) → HasBadPointer image sup (content_stream sup inode) place → ⊥

-- a directory whose size is in whole 512 bytes, of which no pointer leads out, and which has no hole
pub record IsGoodDirectory (image : List ℕ) (sup : Super) (inode : Inode) : Type 0 where
  pub directory : is_directory inode ≡ true
  pub whole : inode.size % 512 ≡ 0
  pub pointers : HasGoodPointers image sup inode
  pub filled : HasHole image sup inode → ⊥

-- A number of an inode that is reached: by an entry at a place, at so many names below the root, by a path. The root is
-- reached by the superblock, and the others through good directories.
pub data IsReached (image : List ℕ) (sup : Super) : ℕ → ℕ → ℕ → List ℕ → Type 0 where
  Root : IsReached image sup 2 (super_place sup) 0 (47 ∷ [])
  Through : (number at depth : ℕ) (path : List ℕ) (directory : Inode) (offset place : ℕ) (entry : Entry) → IsReached image sup number at depth path
      → result_of image (inode_named sup number at) ≡ Ok directory → IsGoodDirectory image sup directory → HasEntry image sup directory offset place entry
      → IsReached image sup entry.inode place (suc depth) (joined_path path (bytes_text entry.name))

-- an entry at a place gives a name: it stands in a good directory that is reached
pub record IsGiven (image : List ℕ) (sup : Super) (name : Named) (place : ℕ) : Type 0 where
  pub at : ℕ
  pub depth : ℕ
  pub path : List ℕ
  pub directory : Inode
  pub entry : Entry
  pub reached : IsReached image sup name.directory at depth path
  pub read : result_of image (inode_named sup name.directory at) ≡ Ok directory
  pub good : IsGoodDirectory image sup directory
  pub has : HasEntry image sup directory name.offset place entry
  pub number_is : name.number ≡ entry.inode
  pub path_is : name.path ≡ joined_path path (bytes_text entry.name)

-- two names are given by two entries
abbrev pub AreApart : Named → Named → Type 0
AreApart a b = (a.directory ≡ b.directory) → (a.offset ≡ b.offset) → ⊥

-- an inode that is reached and lies in the volume, sound or not
pub record HasInode (image : List ℕ) (sup : Super) (number : ℕ) (inode : Inode) : Type 0 where
  pub place : ℕ
  pub depth : ℕ
  pub path : List ℕ
  pub reached : IsReached image sup number place depth path
  pub inside : has_inode sup number ≡ true
  pub is : stored_inode image sup number ≡ inode

-- one that is sound
pub record HasSoundInode (image : List ℕ) (sup : Super) (number : ℕ) (inode : Inode) : Type 0 where
  pub has : HasInode image sup number inode
  pub read : result_of image (inode_at sup number) ≡ Ok inode

-- ---- what is damaged

-- the clauses that are false of a volume with a sound superblock, and where
pub data IsFalseIn (image : List ℕ) (sup : Super) : Sort → ℕ → Type 0 where
  NoDirectory : (inode : Inode) → HasInode image sup 2 inode → is_directory inode ≡ false → IsFalseIn image sup RootKind inode.at
  NoInode : (number place depth : ℕ) (path : List ℕ) → IsReached image sup number place depth path → has_inode sup number ≡ false → IsFalseIn image sup InodeNumber place
  Dead : (number : ℕ) (inode : Inode) → HasInode image sup number inode → inode.mode ≡ 0 → IsFalseIn image sup DeadInode inode.at
  TooLong : (number : ℕ) (inode : Inode) → HasInode image sup number inode → (4611686018427387904 < inode.size) ⊎ (reach sup < inode.size) → IsFalseIn image sup FileSize (size_place sup inode)
  ExtendedTooLong : (number : ℕ) (inode : Inode) → HasInode image sup number inode → 2 * block_size sup < inode.extsize → IsFalseIn image sup FileSize (ext_size_place inode)
  BadPointer : (number : ℕ) (inode : Inode) (section : Section) (place : ℕ) → HasSoundInode image sup number inode → Contains (sections_of sup inode) section
      → HasBadPointer image sup section.stream place → IsFalseIn image sup BlockPointer place
  OtherSize : (number : ℕ) (inode : Inode) → HasSoundInode image sup number inode → is_directory inode ≡ true → (inode.size % 512 ≡ 0 → ⊥) → IsFalseIn image sup DirSize (size_place sup inode)
  InHole : (number : ℕ) (inode : Inode) → HasSoundInode image sup number inode → is_directory inode ≡ true → HasGoodPointers image sup inode → HasHole image sup inode
      → IsFalseIn image sup DirSize (size_place sup inode)
  BadEntry : (number index at place : ℕ) (inode : Inode) → HasSoundInode image sup number inode → IsGoodDirectory image sup inode → HasBlock image sup inode index at
      → entries_of sup.order (block_bytes image sup inode index at) ≡ Err place → IsFalseIn image sup DirEntry (at + place)
  RootAgain : (name : Named) (place : ℕ) → IsGiven image sup name place → name.number ≡ 2 → IsFalseIn image sup DirTwice place
  Twice : (name other : Named) (place other_place : ℕ) (inode : Inode) → IsGiven image sup name place → IsGiven image sup other other_place → AreApart other name → other.number ≡ name.number
      → HasInode image sup name.number inode → is_directory inode ≡ true → IsFalseIn image sup DirTwice place

-- the clauses that are false of a volume, and where
pub data IsFalseAt (orders : List Order) (image : List ℕ) (volume : Range) : Sort → ℕ → Type 0 where
  WrongField : (version : ℕ) (order : Order) (at : ℕ) → HasMagic orders image volume version order → wrong_field (stored_super image volume version order) ≡ Some at
      → IsFalseAt orders image volume SuperField (super_place (stored_super image volume version order) + at)
  FalseIn : (sup : Super) (sort : Sort) (place : ℕ) → HasSuper orders image volume sup → IsFalseIn image sup sort place → IsFalseAt orders image volume sort place

-- ---- what isn't supported: a snapshot

pub data IsUnsupportedIn (image : List ℕ) (sup : Super) : What → ℕ → Type 0 where
  IsSnapshot : (number : ℕ) (inode : Inode) → HasInode image sup number inode → is_snapshot inode ≡ true → IsUnsupportedIn image sup Snapshot (flags_place sup inode)

pub data IsUnsupportedAt (orders : List Order) (image : List ℕ) (volume : Range) : What → ℕ → Type 0 where
  UnsupportedIn : (sup : Super) (what : What) (place : ℕ) → HasSuper orders image volume sup → IsUnsupportedIn image sup what place → IsUnsupportedAt orders image volume what place

-- ---- limits

-- names that are given by one entry each
pub record AreNames (image : List ℕ) (sup : Super) (names : List Named) : Type 0 where
  pub given : All (λ name. (place : ℕ) × IsGiven image sup name place) names
  pub apart : AllPairs AreApart names

-- a run: the number of an inode, a part of it, and where in that part's stream it begins
pub record Run : Type 0 where
  pub number : ℕ
  pub section : Section
  pub start : Start

-- a run of a part of a sound inode that is reached
pub record IsRun (image : List ℕ) (sup : Super) (run : Run) : Type 0 where
  pub inode : Inode
  pub has : HasSoundInode image sup run.number inode
  pub part : Contains (sections_of sup inode) run.section
  pub begins : BeginsRun image sup run.section.stream run.start

-- runs, no two of which are the same
pub record AreRuns (image : List ℕ) (sup : Super) (runs : List Run) : Type 0 where
  pub each : All (IsRun image sup) runs
  pub differ : AllPairs (λ a b. a ≡ b → ⊥) runs

-- what a volume of a number with a sound superblock has more of than its limit: bytes of a path; names, beside the root's, and
-- bytes of all of them; directories above one another; runs
pub data IsOverIn (image : List ℕ) (sup : Super) (number : ℕ) : Bound → ℕ → Type 0 where
  LongPath : (inode_number place depth : ℕ) (path : List ℕ) → IsReached image sup inode_number place depth path → longest_path < length path → IsOverIn image sup number Path longest_path
  ManyNames : (names : List Named) → AreNames image sup names → most_names < suc (length names) → IsOverIn image sup number Names most_names
  LongNames : (names : List Named) → AreNames image sup names → most_path_bytes < suc (path_bytes names) → IsOverIn image sup number PathBytes most_path_bytes
  Deep : (inode_number place depth : ℕ) (path : List ℕ) → IsReached image sup inode_number place depth path → is_directory (stored_inode image sup inode_number) ≡ true → deepest < depth
      → IsOverIn image sup number Depth deepest
  ManyRuns : (runs : List Run) → AreRuns image sup runs → most_runs < length runs → IsOverIn image sup number Runs most_runs

pub data IsOver (orders : List Order) (image : List ℕ) (volume : Range) (number : ℕ) : Bound → ℕ → Type 0 where
  LongImage : LONGEST_IMAGE < length image → IsOver orders image volume number Image LONGEST_IMAGE
  OverIn : (sup : Super) (bound : Bound) (most : ℕ) → HasSuper orders image volume sup → IsOverIn image sup number bound most → IsOver orders image volume number bound most

-- ---- the laws

-- what a refusal says of a volume with the magic holds of it
abbrev pub IsWrong : List Order → List ℕ → Range → ℕ → Refusal → Type 0
IsWrong orders image volume number NotThis = ⊥
IsWrong orders image volume number (Damaged sort place) = IsFalseAt orders image volume sort place
IsWrong orders image volume number (Unsupported what place) = IsUnsupportedAt orders image volume what place
IsWrong orders image volume number (Limit bound most) = IsOver orders image volume number bound most

-- A volume without the magic is something else. What refuses a volume with the magic is wrong with it, nothing is wrong with one
-- that is read, and one with which nothing is wrong is read.
pub record RefusalsAreTrue (orders : List Order) (image : List ℕ) (volume : Range) (number : ℕ) : Type 0 where
  pub other : ((version : ℕ) (order : Order) → HasMagic orders image volume version order → ⊥) → result_of image (volume_at orders (length image) volume number) ≡ Err NotThis
  pub refuses : (version : ℕ) (order : Order) (refusal : Refusal) → HasMagic orders image volume version order → result_of image (volume_at orders (length image) volume number) ≡ Err refusal
      → IsWrong orders image volume number refusal
  pub accepts : (found : FoundVolume) (refusal : Refusal) → result_of image (volume_at orders (length image) volume number) ≡ Ok found → IsWrong orders image volume number refusal → ⊥
  pub complete : (version : ℕ) (order : Order) → HasMagic orders image volume version order → ((refusal : Refusal) → IsWrong orders image volume number refusal → ⊥)
      → (found : FoundVolume) × (result_of image (volume_at orders (length image) volume number) ≡ Ok found)

abbrev pub UfsDamageLaw : Type 0
UfsDamageLaw = (orders : List Order) (image : List ℕ) (volume : Range) (number : ℕ) → RefusalsAreTrue orders image volume number
