-- The streams of an inode: its content, and in UFS2 the extended area.
use Rattle.std.specs.Prelude.{ℕ, zero, suc, ◌+◌, ◌-◌, ◌*◌, min, ℤ, nat_lt, if◌then◌else◌, List, [], ◌∷◌}
use Rattle.std.specs.Int.{div_ceil}
use Rattle.ufs_inode_defs.specs.Layout.{layout_of, pointer_len}
use Rattle.ufs_inode_defs.specs.Superblock.{block_size, fragment_size}
use Rattle.ufs_inode_defs.specs.declared.superblock.Super.{Super}
use Rattle.ufs_inode_defs.specs.declared.inode.Inode.{Inode}

-- a pointer: the place in the image where it stands, and the fragment that it names
pub record Pointer : Type 0 where
  pub at : ℕ
  pub value : ℤ

-- a stream: its bytes, the pointers to its first blocks, and those to blocks of pointers, by rising level
pub record Stream : Type 0 where
  pub size : ℕ
  pub direct : List Pointer
  pub indirect : List Pointer

-- pointers that stand one behind the other
abbrev pub pointers_from : ℕ → ℕ → List ℤ → List Pointer
pointers_from at len [] = []
pointers_from at len (value ∷ values) = record { at = at; value = value } ∷ pointers_from (at + len) len values

abbrev pub content_stream : Super → Inode → Stream
content_stream sup inode = record {
  size = inode.size;
  direct = pointers_from (inode.at + (layout_of sup.version).direct_at) (pointer_len sup.version) inode.direct;
  indirect = pointers_from (inode.at + (layout_of sup.version).indirect_at) (pointer_len sup.version) inode.indirect;
}

abbrev pub extended_stream : Inode → Stream
extended_stream inode = record { size = inode.extsize; direct = pointers_from (inode.at + 96) 8 inode.ext; indirect = [] }

-- the blocks that a pointer maps through so many levels of blocks of pointers
abbrev pub span : Super → ℕ → ℕ
span sup zero = 1
span sup (suc level) = sup.nindir * span sup level

-- the blocks that so many bytes take up
abbrev pub block_count : Super → ℕ → ℕ
block_count sup size = div_ceil size (block_size sup)

-- the bytes of the stream in a block
abbrev pub content_len : Super → ℕ → ℕ → ℕ
content_len sup size block = min (block_size sup) (size - block * block_size sup)

-- the bytes that a block has on the disk: one of the first twelve has no more fragments than it needs (the macro blksize)
abbrev pub allocated_len : Super → ℕ → ℕ → ℕ
allocated_len sup size block =
    if nat_lt block 12
    then div_ceil (content_len sup size block) (fragment_size sup) * fragment_size sup
    else block_size sup
