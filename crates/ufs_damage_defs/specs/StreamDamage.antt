-- What is wrong with the pointers of a stream, in the words of the table of damage, and the runs of a stream.
use Rattle.std.specs.Prelude.{◌≡◌, ℕ, zero, suc, ◌+◌, ◌*◌, ◌<◌, ℤ, pos, negsuc, true, false, Option, Some, None, List, [], ◌∷◌, length}
use Rattle.ufs_inode_defs.specs.Layout.{pointer_len}
use Rattle.ufs_inode_defs.specs.Superblock.{block_size}
use Rattle.ufs_inode_defs.specs.Stream.{Pointer, Stream, span, block_count, allocated_len}
use Rattle.ufs_inode_defs.specs.Blocks.{fragment_place, lies_within}
use Rattle.ufs_inode_defs.specs.BlockPlace.{pointer_at, byte_place}
use Rattle.ufs_inode_defs.specs.declared.superblock.Super.{Super}

-- a pointer stands in a list, behind so many others
abbrev pub StandsAt : List Pointer → ℕ → Pointer → Type 0
StandsAt [] number pointer = ⊥
StandsAt (first ∷ rest) zero pointer = first ≡ pointer
StandsAt (first ∷ rest) (suc number) pointer = StandsAt rest number pointer

-- the first block that a pointer to blocks of pointers maps, behind so many others: those behind the direct blocks and what the
-- others map
abbrev pub first_mapped : Super → Stream → ℕ → ℕ
first_mapped sup stream zero = length stream.direct
first_mapped sup stream (suc number) = first_mapped sup stream number + span sup (suc number)

-- A pointer that is used: of a level, and the first block that it maps. Each direct pointer to a block of the stream is, each
-- pointer to blocks of pointers that maps such a block, and those in a block of pointers that map one.
pub data IsUsed (image : List ℕ) (sup : Super) (stream : Stream) : ℕ → ℕ → Pointer → Type 0 where
  Direct : (block : ℕ) (pointer : Pointer) → StandsAt stream.direct block pointer → block < block_count sup stream.size → IsUsed image sup stream 0 block pointer
  Rising : (number : ℕ) (pointer : Pointer) → StandsAt stream.indirect number pointer → first_mapped sup stream number < block_count sup stream.size
      → IsUsed image sup stream (suc number) (first_mapped sup stream number) pointer
  Below : (level first number fragment : ℕ) (above : Pointer) → IsUsed image sup stream (suc level) first above → above.value ≡ pos (suc fragment)
      → lies_within sup (suc fragment) (block_size sup) ≡ true → number < sup.nindir → first + number * span sup level < block_count sup stream.size
      → IsUsed image sup stream level (first + number * span sup level)
      (record { at = fragment_place sup (suc fragment) + number * pointer_len sup.version; value = pointer_at image sup (fragment_place sup (suc fragment)) number })

-- a pointer is negative, or the bytes to which it leads pass the volume's end
abbrev pub LeadsOut : Super → ℕ → ℤ → Type 0
LeadsOut sup len (pos zero) = ⊥
LeadsOut sup len (pos (suc before)) = lies_within sup (suc before) len ≡ false
LeadsOut sup len (negsuc n) = Unit {0}

-- the bytes to which a pointer of a level leads
abbrev pub led_len : Super → Stream → ℕ → ℕ → ℕ
led_len sup stream zero first = allocated_len sup stream.size first
led_len sup stream (suc level) first = block_size sup

-- a pointer of a stream that is used and leads out stands at a place
pub record HasBadPointer (image : List ℕ) (sup : Super) (stream : Stream) (place : ℕ) : Type 0 where
  pub level : ℕ
  pub first : ℕ
  pub pointer : Pointer
  pub used : IsUsed image sup stream level first pointer
  pub out : LeadsOut sup (led_len sup stream level first) pointer.value
  pub stands : pointer.at ≡ place

-- ---- runs

-- a byte goes on where the one before it ends: neither stands anywhere, or it is the next on the disk
abbrev pub GoesOn : Option ℕ → Option ℕ → Type 0
GoesOn None None = Unit {0}
GoesOn None (Some at) = ⊥
GoesOn (Some before) None = ⊥
GoesOn (Some before) (Some at) = suc before ≡ at

-- where a run begins: a piece at a byte, or a block of pointers by its level and the first block that it maps
pub data Start : Type 0 where
  AtByte : ℕ → Start
  AtPointers : ℕ → ℕ → Start

-- A run of a stream: the piece that begins with its first byte, one that begins where a byte doesn't go on, and a block of
-- pointers that is visited, since a pointer that is used leads to it.
pub data BeginsRun (image : List ℕ) (sup : Super) (stream : Stream) : Start → Type 0 where
  FirstPiece : 0 < stream.size → BeginsRun image sup stream (AtByte 0)
  NextPiece : (byte : ℕ) → suc byte < stream.size → (GoesOn (byte_place image sup stream byte) (byte_place image sup stream (suc byte)) → ⊥) → BeginsRun image sup stream (AtByte (suc byte))
  Visit : (level first fragment : ℕ) (pointer : Pointer) → IsUsed image sup stream (suc level) first pointer → pointer.value ≡ pos (suc fragment)
      → BeginsRun image sup stream (AtPointers (suc level) first)
