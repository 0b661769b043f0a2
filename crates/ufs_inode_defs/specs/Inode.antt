-- Inodes: FreeBSD's sys/ufs/ufs/dinode.h.
use Rattle.std.specs.Prelude.{ℕ, ◌+◌, ◌*◌, pos, Bool, not, ◌&&◌, ◌||◌, ◌==◌, nat_lt, bit_and, if◌then◌else◌, List, [], ◌∷◌}
use Rattle.std.specs.Int.{w32, w64}
use Rattle.bytes_defs.specs.Bytes.{part}
use Rattle.bytes_defs.specs.Numbers.{number_at, signed_at}
use Rattle.bytes_defs.specs.declared.order.Order.{Order}
use Rattle.image_defs.specs.Ask.{Ask, Done, look, check, ◌>>=◌, ◌>>◌}
use Rattle.fault_defs.specs.declared.Refusal.{Refusal}
use Rattle.fault_defs.specs.declared.Refusal.TheVariants.{Damaged, Unsupported}
use Rattle.fault_defs.specs.declared.Sort.TheVariants.{InodeNumber, DeadInode, FileSize}
use Rattle.fault_defs.specs.declared.What.TheVariants.{Snapshot}
use Rattle.ufs_inode_defs.specs.Layout.{layout_of}
use Rattle.ufs_inode_defs.specs.Numbers.{signed_fields}
use Rattle.ufs_inode_defs.specs.Superblock.{block_size, inode_place, has_inode}
use Rattle.ufs_inode_defs.specs.declared.superblock.Super.{Super}
use Rattle.ufs_inode_defs.specs.declared.inode.Inode.{Inode}

-- struct ufs1_dinode, of 128 bytes
unfoldable pub inode_1 : Order → ℕ → List ℕ → Inode
inode_1 order at bytes = record {
  at = at;
  mode = number_at order 2 bytes 0;
  nlink = number_at order 2 bytes 2;
  uid = number_at order 4 bytes 112;
  gid = number_at order 4 bytes 116;
  size = number_at order 8 bytes 8;
  blocks = number_at order 4 bytes 104;
  atime = signed_at order w32 bytes 16;
  mtime = signed_at order w32 bytes 24;
  ctime = signed_at order w32 bytes 32;
  birth = pos 0;
  flags = number_at order 4 bytes 100;
  extsize = 0;
  ext = pos 0 ∷ pos 0 ∷ [];
  direct = signed_fields order w32 12 bytes 40;
  indirect = signed_fields order w32 3 bytes 88;
}

-- struct ufs2_dinode, of 256 bytes
unfoldable pub inode_2 : Order → ℕ → List ℕ → Inode
inode_2 order at bytes = record {
  at = at;
  mode = number_at order 2 bytes 0;
  nlink = number_at order 2 bytes 2;
  uid = number_at order 4 bytes 4;
  gid = number_at order 4 bytes 8;
  size = number_at order 8 bytes 16;
  blocks = number_at order 8 bytes 24;
  atime = signed_at order w64 bytes 32;
  mtime = signed_at order w64 bytes 40;
  ctime = signed_at order w64 bytes 48;
  birth = signed_at order w64 bytes 56;
  flags = number_at order 4 bytes 88;
  extsize = number_at order 4 bytes 92;
  ext = signed_fields order w64 2 bytes 96;
  direct = signed_fields order w64 12 bytes 112;
  indirect = signed_fields order w64 3 bytes 208;
}

-- the inode at a place that these bytes hold
abbrev pub inode_of : Super → ℕ → List ℕ → Inode
inode_of sup at bytes = if sup.version == 1 then inode_1 sup.order at bytes else inode_2 sup.order at bytes

-- the inode of a number as it stands in an image, sound or not
abbrev pub stored_inode : List ℕ → Super → ℕ → Inode
stored_inode image sup number = inode_of sup (inode_place sup number) (part image (inode_place sup number) (layout_of sup.version).inode_len)

-- the bits of the mode that say what a file is
abbrev pub type_bits : Inode → ℕ
type_bits inode = bit_and inode.mode 0xF000

abbrev pub is_directory : Inode → Bool
is_directory inode = type_bits inode == 0x4000

abbrev pub is_file : Inode → Bool
is_file inode = type_bits inode == 0x8000

abbrev pub is_link : Inode → Bool
is_link inode = type_bits inode == 0xA000

-- a link whose target stands in the place of its pointers
abbrev pub is_short_link : Super → Inode → Bool
is_short_link sup inode = is_link inode && nat_lt inode.size (layout_of sup.version).short_link

-- the flag of a snapshot
abbrev pub is_snapshot : Inode → Bool
is_snapshot inode = not (bit_and inode.flags 0x00200000 == 0)

-- the bytes that the pointers of an inode reach
abbrev pub reach : Super → ℕ
reach sup = block_size sup * (12 + sup.nindir + sup.nindir * sup.nindir + sup.nindir * (sup.nindir * sup.nindir))

-- a file may have 2^62 bytes, and as many as its pointers reach
abbrev pub is_too_long : Super → Inode → Bool
is_too_long sup inode = nat_lt 4611686018427387904 inode.size || nat_lt (reach sup) inode.size

-- the extended area may have two blocks
abbrev pub is_ext_too_long : Super → Inode → Bool
is_ext_too_long sup inode = nat_lt (2 * block_size sup) inode.extsize

-- the places of fields in the image
abbrev pub size_place : Super → Inode → ℕ
size_place sup inode = inode.at + (layout_of sup.version).size_at

abbrev pub ext_size_place : Inode → ℕ
ext_size_place inode = inode.at + 92

abbrev pub flags_place : Super → Inode → ℕ
flags_place sup inode = inode.at + (layout_of sup.version).flags_at

-- the tests of an inode that is reached
unfoldable pub sound_inode : Super → Inode → Ask Refusal (Unit {0})
sound_inode sup inode = do
  check (not (inode.mode == 0)) (Damaged DeadInode inode.at)
  check (not (is_snapshot inode)) (Unsupported Snapshot (flags_place sup inode))
  check (not (is_too_long sup inode)) (Damaged FileSize (size_place sup inode))
  check (not (is_ext_too_long sup inode)) (Damaged FileSize (ext_size_place inode))

-- an inode that passes them
abbrev pub tested_inode : Super → Inode → Ask Refusal Inode
tested_inode sup inode = sound_inode sup inode >> Done inode

-- the inode of a number
unfoldable pub inode_at : Super → ℕ → Ask Refusal Inode
inode_at sup number = do
  bytes ← look (inode_place sup number) (layout_of sup.version).inode_len
  tested_inode sup (inode_of sup (inode_place sup number) bytes)

-- the inode of a number that an entry at a place names
unfoldable pub inode_named : Super → ℕ → ℕ → Ask Refusal Inode
inode_named sup number entry = do
  check (has_inode sup number) (Damaged InodeNumber entry)
  inode_at sup number
