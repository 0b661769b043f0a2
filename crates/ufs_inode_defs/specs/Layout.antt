-- Where the two versions of UFS differ: FreeBSD's sys/ufs/ffs/fs.h (SBLOCK_UFS1, FS_UFS1_MAGIC, ..) and sys/ufs/ufs/dinode.h
-- (struct ufs1_dinode, struct ufs2_dinode).
use Rattle.std.specs.Prelude.{ℕ, ◌==◌, if◌then◌else◌}
use Rattle.std.specs.Int.{Width, w32, w64}
use Rattle.bytes_defs.specs.Numbers.{bytes_of_width}

-- the places of the superblock in the volume, and of fields in an inode; the width of a pointer; and the least size of a link
-- whose target doesn't stand in its inode
pub record Layout : Type 0 where
  pub superblock_at : ℕ
  pub magic : ℕ
  pub inode_len : ℕ
  pub size_at : ℕ
  pub direct_at : ℕ
  pub indirect_at : ℕ
  pub flags_at : ℕ
  pub pointer : Width
  pub short_link : ℕ

abbrev pub layout_1 : Layout
layout_1 = record {
  superblock_at = 8192;
  magic = 0x00011954;
  inode_len = 128;
  size_at = 8;
  direct_at = 40;
  indirect_at = 88;
  flags_at = 100;
  pointer = w32;
  short_link = 60;
}

abbrev pub layout_2 : Layout
layout_2 = record {
  superblock_at = 65536;
  magic = 0x19540119;
  inode_len = 256;
  size_at = 16;
  direct_at = 112;
  indirect_at = 208;
  flags_at = 88;
  pointer = w64;
  short_link = 120;
}

-- the layout of a version: 1 is UFS1
abbrev pub layout_of : ℕ → Layout
layout_of version = if version == 1 then layout_1 else layout_2

-- the bytes of a pointer
abbrev pub pointer_len : ℕ → ℕ
pointer_len version = bytes_of_width (layout_of version).pointer
