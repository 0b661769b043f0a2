-- The superblock: FreeBSD's sys/ufs/ffs/fs.h, struct fs.
use Rattle.std.specs.Prelude.{ℕ, ◌+◌, ◌-◌, ◌*◌, ◌/◌, ◌%◌, pos, int_lt, Bool, not, ◌&&◌, ◌==◌, nat_le, nat_lt, bit_and, if◌then◌else◌, Option, Some, None, Result, Ok, Err, List, [], ◌∷◌, length}
use Rattle.std.specs.List.{list_any}
use Rattle.std.specs.Int.{w32, is_power_of_two}
use Rattle.range_defs.specs.declared.Range.{Range}
use Rattle.bytes_defs.specs.Numbers.{number_at, signed_at}
use Rattle.bytes_defs.specs.declared.order.Order.{Order}
use Rattle.image_defs.specs.Ask.{Ask, Stop, look, given, ◌>>=◌, ◌>>◌}
use Rattle.image_defs.specs.Through.{look_in}
use Rattle.fault_defs.specs.declared.Refusal.{Refusal}
use Rattle.fault_defs.specs.declared.Refusal.TheVariants.{NotThis, Damaged}
use Rattle.fault_defs.specs.declared.Sort.TheVariants.{SuperField}
use Rattle.ufs_inode_defs.specs.Layout.{Layout, layout_1, layout_2, layout_of, pointer_len}
use Rattle.ufs_inode_defs.specs.Numbers.{non_negative}
use Rattle.ufs_inode_defs.specs.declared.superblock.Super.{Super}

-- the superblock that 1,376 bytes of a volume hold
unfoldable pub superblock_of : Range → ℕ → Order → List ℕ → Super
superblock_of volume version order bytes = record {
  at = volume.at;
  len = volume.len;
  version = version;
  order = order;
  iblkno = signed_at order w32 bytes 16;
  cblkno = signed_at order w32 bytes 12;
  old_cgoffset = signed_at order w32 bytes 24;
  old_cgmask = number_at order 4 bytes 28;
  ncg = number_at order 4 bytes 44;
  bsize = signed_at order w32 bytes 48;
  fsize = signed_at order w32 bytes 52;
  frag = signed_at order w32 bytes 56;
  nindir = number_at order 4 bytes 116;
  inopb = number_at order 4 bytes 120;
  ipg = number_at order 4 bytes 184;
  fpg = signed_at order w32 bytes 188;
}

abbrev pub block_size : Super → ℕ
block_size sup = non_negative sup.bsize

abbrev pub fragment_size : Super → ℕ
fragment_size sup = non_negative sup.fsize

-- ---- what can be wrong with it

-- a block has a power of two of bytes, from 4,096 to 65,536
unfoldable pub is_block_size : ℕ → Bool
is_block_size size = is_power_of_two size && (nat_le 4096 size && nat_le size 65536)

-- a fragment has a power of two of bytes, at least 512
unfoldable pub is_fragment_size : ℕ → Bool
is_fragment_size size = is_power_of_two size && nat_le 512 size

-- a block has 1, 2, 4 or 8 fragments, and these are all of its bytes
unfoldable pub is_fragment_count : ℕ → ℕ → ℕ → Bool
is_fragment_count count fragment block = list_any (λ n. count == n) (1 ∷ 2 ∷ 4 ∷ 8 ∷ []) && count * fragment == block

-- a group has some blocks of inodes
unfoldable pub is_inode_count : ℕ → ℕ → Bool
is_inode_count inodes in_block = nat_le 1 inodes && inodes % in_block == 0

-- the parts of what can be wrong, in order, each with the place in the superblock of the field that is then wrong
abbrev pub wrong_parts : Super → List (Bool × ℕ)
wrong_parts sup =
    (not (is_block_size (block_size sup)), 48)
    ∷ (not (is_fragment_size (fragment_size sup)), 52)
    ∷ (not (is_fragment_count (non_negative sup.frag) (fragment_size sup) (block_size sup)), 56)
    ∷ (not (sup.nindir == block_size sup / pointer_len sup.version), 116)
    ∷ (not (sup.inopb == block_size sup / (layout_of sup.version).inode_len), 120)
    ∷ (not (is_inode_count sup.ipg sup.inopb), 184)
    ∷ (int_lt sup.fpg (pos 1), 188)
    ∷ (nat_lt sup.ncg 1, 44)
    ∷ (int_lt sup.iblkno (pos 0), 16)
    ∷ (sup.version == 1 && int_lt sup.old_cgoffset (pos 0), 24)
    ∷ (nat_lt 4294967296 (sup.ncg * sup.ipg), 44)
    ∷ []

-- the field of the first part that applies
abbrev pub first_applying : List (Bool × ℕ) → Option ℕ
first_applying [] = None
first_applying (part ∷ parts) = if part.0 then Some part.1 else first_applying parts

-- the place in the superblock of the field that is wrong, if one is
unfoldable pub wrong_field : Super → Option ℕ
wrong_field sup = first_applying (wrong_parts sup)

-- the place of the superblock in the image
abbrev pub super_place : Super → ℕ
super_place sup = sup.at + (layout_of sup.version).superblock_at

-- the superblock, where no field of it is wrong
abbrev pub checked_super : Super → Option ℕ → Result Super Refusal
checked_super sup None = Ok sup
checked_super sup (Some at) = Err (Damaged SuperField (super_place sup + at))

-- ---- the superblock of a volume

-- whether four bytes are the magic of a version, in an order of their bytes
abbrev pub fits_magic : Layout → Order → List ℕ → Bool
fits_magic layout order bytes = length bytes == 4 && number_at order 4 bytes 0 == layout.magic

-- the first of some orders in which they are
abbrev pub magic_order : Layout → List Order → List ℕ → Option Order
magic_order layout [] bytes = None
magic_order layout (order ∷ orders) bytes = if fits_magic layout order bytes then Some order else magic_order layout orders bytes

unfoldable pub super_in : Range → ℕ → Order → Ask Refusal Super
super_in volume version order = do
  bytes ← look (volume.at + (layout_of version).superblock_at) 1376
  given (checked_super (superblock_of volume version order bytes) (wrong_field (superblock_of volume version order bytes)))

-- the superblock of a version where its magic fits in some order, and else what another one says
abbrev pub super_or : Range → ℕ → Option Order → Ask Refusal Super → Ask Refusal Super
super_or volume version (Some order) other = super_in volume version order
super_or volume version None other = other

unfoldable pub super_of_2 : List Order → Range → Ask Refusal Super
super_of_2 orders volume = do
  magic ← look_in volume 66908 4
  super_or volume 2 (magic_order layout_2 orders magic) (Stop NotThis)

unfoldable pub super_of_1 : List Order → Range → Ask Refusal Super
super_of_1 orders volume = do
  magic ← look_in volume 9564 4
  super_or volume 1 (magic_order layout_1 orders magic) (super_of_2 orders volume)

-- the superblock of a volume whose numbers are in one of some orders, behind the bytes by which other kinds of volumes are
-- known
unfoldable pub volume_super : List Order → Range → Ask Refusal Super
volume_super orders volume = do
  look_in volume 3 8
  look_in volume 510 2
  look_in volume 1024 4
  super_of_1 orders volume

-- ---- where inodes stand

-- the fragment at which a group begins: those of UFS1 are moved round (the macro cgstart)
abbrev pub group_start : Super → ℕ → ℕ
group_start sup group =
    non_negative sup.fpg * group
    + (if sup.version == 1 then non_negative sup.old_cgoffset * bit_and group (4294967295 - sup.old_cgmask) else 0)

-- the place of an inode in the image: the macros ino_to_fsba and ino_to_fsbo
unfoldable pub inode_place : Super → ℕ → ℕ
inode_place sup number =
    sup.at
    + (group_start sup (number / sup.ipg) + non_negative sup.iblkno + non_negative sup.frag * (number % sup.ipg / sup.inopb)) * fragment_size sup
    + (layout_of sup.version).inode_len * (number % sup.inopb)

-- the volume has an inode of this number, and it lies in the volume
unfoldable pub has_inode : Super → ℕ → Bool
has_inode sup number = nat_lt number (sup.ncg * sup.ipg) && nat_le (inode_place sup number + (layout_of sup.version).inode_len) (sup.at + sup.len)
