-- Places of inodes and blocks of streams, worked out by hand.
use Rattle.std.specs.Prelude.{◌≡◌, ℕ, ℤ, pos, negsuc, true, false, Some, None, Ok, Err, List, [], ◌∷◌, ◌++◌, replicate, refl}
use Rattle.bytes_defs.specs.Bytes.{part}
use Rattle.bytes_defs.specs.Numbers.{number_at, signed_at}
use Rattle.bytes_defs.specs.declared.order.Order.TheVariants.{Little, Big}
use Rattle.image_defs.specs.Ask.{result_of, visits}
use Rattle.rx_ranges.specs.declared.pieces.PieceKind.TheVariants.{Disk, Zero}
use Rattle.fault_defs.specs.declared.Refusal.TheVariants.{Damaged}
use Rattle.fault_defs.specs.declared.Sort.TheVariants.{BlockPointer}
use Rattle.std.specs.Int.Count.{ones}
use Rattle.ufs_inode_defs.specs.Numbers.{numbers_from}
use Rattle.ufs_inode_defs.specs.Superblock.{superblock_of, wrong_field, is_block_size, is_fragment_size, is_fragment_count, is_inode_count, inode_place, has_inode}
use Rattle.ufs_inode_defs.specs.Inode.{inode_1, inode_2}
use Rattle.ufs_inode_defs.specs.Stream.{Stream, pointers_from}
use Rattle.ufs_inode_defs.specs.Blocks.{mapped_blocks, stream_blocks}
use Rattle.ufs_inode_defs.specs.BlockPlace.{block_pointer, byte_place}
use Rattle.ufs_inode_defs.specs.declared.superblock.Super.{Super}
use Rattle.ufs_inode_defs.specs.declared.inode.Inode.{Inode}

-- ---- blocks of 32,768 bytes

abbrev super_22 : Super
super_22 = record {
  at = 0;
  len = 4000000;
  version = 2;
  order = Little;
  iblkno = pos 24;
  cblkno = pos 16;
  old_cgoffset = pos 0;
  old_cgmask = 0;
  ncg = 4;
  bsize = pos 32768;
  fsize = pos 4096;
  frag = pos 8;
  nindir = 4096;
  inopb = 128;
  ipg = 256;
  fpg = pos 100;
}

-- a file of 393,217 bytes: twelve blocks side by side, and one through a block of pointers at fragment 4
abbrev stream_22 : Stream
stream_22 = record {
  size = 393217;
  direct = pointers_from 112 8 (pos 300 ∷ pos 308 ∷ pos 316 ∷ pos 324 ∷ pos 332 ∷ pos 340 ∷ pos 348 ∷ pos 356 ∷ pos 364 ∷ pos 372 ∷ pos 380 ∷ pos 388 ∷ []);
  indirect = pointers_from 208 8 (pos 4 ∷ pos 0 ∷ pos 0 ∷ []);
}

-- the first pointer of that block is 200
unfoldable image_22 : List ℕ
image_22 = replicate 16384 0 ++ 200 ∷ replicate 32767 0

blocks_22 : result_of image_22 (stream_blocks super_22 stream_22 0) ≡ Ok (record {
  block = 13;
  pieces = record { from = 0; len = 393216; kind = Disk; at = 1228800 } ∷ record { from = 393216; len = 1; kind = Disk; at = 819200 } ∷ [];
  slack = record { at = 819201; len = 32767 } ∷ [];
  visited = 1;
  before = 0;
})
unfolding image_22 part number_at signed_at mapped_blocks stream_blocks
blocks_22 = refl

visits_22 : visits image_22 (stream_blocks super_22 stream_22 0) ≡ record { at = 16384; len = 32768 } ∷ []
unfolding image_22 part number_at signed_at mapped_blocks stream_blocks
visits_22 = refl

place_22 : (byte_place image_22 super_22 stream_22 393215 ≡ Some 1622015) × (byte_place image_22 super_22 stream_22 393216 ≡ Some 819200)
unfolding image_22 signed_at number_at byte_place block_pointer
place_22 = (refl, refl)

-- without that block of pointers the rest is a hole
hole_22 : result_of image_22 (stream_blocks super_22 (record stream_22 { indirect = pointers_from 208 8 (pos 0 ∷ pos 0 ∷ pos 0 ∷ []) }) 0) ≡ Ok (record {
  block = 4108;
  pieces = record { from = 0; len = 393216; kind = Disk; at = 1228800 } ∷ record { from = 393216; len = 1; kind = Zero; at = 0 } ∷ [];
  slack = [];
  visited = 0;
  before = 0;
})
unfolding image_22 part number_at signed_at mapped_blocks stream_blocks
hole_22 = refl

-- one byte needs one fragment, the last of which is 975; the pointer behind the end is ignored, whatever it is
last_22 : result_of [] (stream_blocks super_22 (record { size = 1; direct = pointers_from 112 8 (pos 975 ∷ pos 9999 ∷ []); indirect = [] }) 0) ≡ Ok (record {
  block = 1;
  pieces = record { from = 0; len = 1; kind = Disk; at = 3993600 } ∷ [];
  slack = record { at = 3993601; len = 4095 } ∷ [];
  visited = 0;
  before = 0;
})
unfolding mapped_blocks stream_blocks
last_22 = refl

passes_22 : result_of [] (stream_blocks super_22 (record { size = 1; direct = pointers_from 112 8 (pos 976 ∷ []); indirect = [] }) 0) ≡ Err (Damaged BlockPointer 112)
unfolding mapped_blocks stream_blocks
passes_22 = refl

negative_22 : result_of [] (stream_blocks super_22 (record { size = 32769; direct = pointers_from 112 8 (pos 8 ∷ negsuc 0 ∷ []); indirect = [] }) 0) ≡ Err (Damaged BlockPointer 120)
unfolding mapped_blocks stream_blocks
negative_22 = refl

-- ---- three levels of blocks of pointers

-- a volume of blocks of 4,096 bytes, one fragment each; the last pointer of the inode leads to block 1, of which pointer 0 leads
-- to block 2, of which pointer 1 leads to block 3, of which pointer 2 leads to block 9
abbrev super_3 : Super
super_3 = record super_22 { len = 65536; bsize = pos 4096; fsize = pos 4096; frag = pos 1; nindir = 512; inopb = 16; ipg = 16; fpg = pos 16; ncg = 1 }

abbrev none_but : List ℤ → List ℤ
none_but last = pos 0 ∷ pos 0 ∷ last

abbrev stream_3 : Stream
stream_3 = record {
  size = 1077993480;
  direct = pointers_from 112 8 (none_but (none_but (none_but (none_but (none_but (none_but []))))));
  indirect = pointers_from 208 8 (none_but (pos 1 ∷ []));
}

unfoldable image_3 : List ℕ
image_3 = replicate 4096 0 ++ 2 ∷ replicate 4103 0 ++ 3 ∷ replicate 4103 0 ++ 9 ∷ replicate 4096 0

-- block 263,182 of the stream is 2 behind 512 behind the 12, 512 and 262,144 of the first levels
place_3 : (byte_place image_3 super_3 stream_3 1077993479 ≡ Some 36871) × (byte_place image_3 super_3 stream_3 1077993471 ≡ None)
unfolding image_3 signed_at number_at byte_place block_pointer
place_3 = (refl, refl)

blocks_3 : result_of image_3 (stream_blocks super_3 stream_3 0) ≡ Ok (record {
  block = 263183;
  pieces = record { from = 0; len = 1077993472; kind = Zero; at = 0 } ∷ record { from = 1077993472; len = 8; kind = Disk; at = 36864 } ∷ [];
  slack = record { at = 36872; len = 4088 } ∷ [];
  visited = 3;
  before = 0;
})
unfolding image_3 part number_at signed_at mapped_blocks stream_blocks
blocks_3 = refl

visits_3 : visits image_3 (stream_blocks super_3 stream_3 0) ≡ record { at = 4096; len = 4096 } ∷ record { at = 8192; len = 4096 } ∷ record { at = 12288; len = 4096 } ∷ []
unfolding image_3 part number_at signed_at mapped_blocks stream_blocks
visits_3 = refl

-- ---- fields

-- 256 bytes, each of them its place
unfoldable places_256 : List ℕ
places_256 = numbers_from 0 256

-- the fields of a superblock, where each byte is the remainder of its place by 128
unfoldable bytes_of_super : List ℕ
bytes_of_super = numbers_from 0 128 ++ numbers_from 0 128

fields_super : superblock_of (record { at = 5; len = 7 }) 1 Little bytes_of_super ≡ record {
  at = 5;
  len = 7;
  version = 1;
  order = Little;
  iblkno = pos 0x13121110;
  cblkno = pos 0x0F0E0D0C;
  old_cgoffset = pos 0x1B1A1918;
  old_cgmask = 0x1F1E1D1C;
  ncg = 0x2F2E2D2C;
  bsize = pos 0x33323130;
  fsize = pos 0x37363534;
  frag = pos 0x3B3A3938;
  nindir = 0x77767574;
  inopb = 0x7B7A7978;
  ipg = 0x3B3A3938;
  fpg = pos 0x3F3E3D3C;
}
unfolding superblock_of bytes_of_super number_at signed_at
fields_super = refl

-- each byte of an inode is its place
abbrev of_inode_2 : Inode
of_inode_2 = inode_2 Big 9 places_256

fields_2 : (of_inode_2.at ≡ 9) × (of_inode_2.mode ≡ 0x0001) × (of_inode_2.nlink ≡ 0x0203) × (of_inode_2.uid ≡ 0x04050607) × (of_inode_2.gid ≡ 0x08090A0B) × (of_inode_2.size ≡ 0x1011121314151617)
    × (of_inode_2.blocks ≡ 0x18191A1B1C1D1E1F) × (of_inode_2.atime ≡ pos 0x2021222324252627) × (of_inode_2.mtime ≡ pos 0x28292A2B2C2D2E2F) × (of_inode_2.ctime ≡ pos 0x3031323334353637)
    × (of_inode_2.birth ≡ pos 0x38393A3B3C3D3E3F) × (of_inode_2.flags ≡ 0x58595A5B) × (of_inode_2.extsize ≡ 0x5C5D5E5F) × (of_inode_2.ext ≡ pos 0x6061626364656667 ∷ pos 0x68696A6B6C6D6E6F ∷ [])
    × (of_inode_2.indirect ≡ negsuc 0x2F2E2D2C2B2A2928 ∷ negsuc 0x2726252423222120 ∷ negsuc 0x1F1E1D1C1B1A1918 ∷ [])
unfolding inode_2 places_256 number_at signed_at
fields_2 = (refl, refl, refl, refl, refl, refl, refl, refl, refl, refl, refl, refl, refl, refl, refl)

abbrev of_inode_1 : Inode
of_inode_1 = inode_1 Little 9 places_256

fields_1 : (of_inode_1.at ≡ 9) × (of_inode_1.mode ≡ 0x0100) × (of_inode_1.nlink ≡ 0x0302) × (of_inode_1.uid ≡ 0x73727170) × (of_inode_1.gid ≡ 0x77767574) × (of_inode_1.size ≡ 0x0F0E0D0C0B0A0908)
    × (of_inode_1.blocks ≡ 0x6B6A6968) × (of_inode_1.atime ≡ pos 0x13121110) × (of_inode_1.mtime ≡ pos 0x1B1A1918) × (of_inode_1.ctime ≡ pos 0x23222120)
    × (of_inode_1.birth ≡ pos 0) × (of_inode_1.flags ≡ 0x67666564) × (of_inode_1.extsize ≡ 0) × (of_inode_1.indirect ≡ pos 0x5B5A5958 ∷ pos 0x5F5E5D5C ∷ pos 0x63626160 ∷ [])
unfolding inode_1 places_256 number_at signed_at
fields_1 = (refl, refl, refl, refl, refl, refl, refl, refl, refl, refl, refl, refl, refl, refl)

-- ---- what can be wrong with a superblock, part by part

wrong_sizes : (wrong_field super_22 ≡ None) × (wrong_field (record super_22 { bsize = pos 2048 }) ≡ Some 48) × (wrong_field (record super_22 { bsize = pos 131072 }) ≡ Some 48) × (wrong_field (record super_22 { fsize = pos 256 }) ≡ Some 52)
    × (wrong_field (record super_22 { frag = pos 16; fsize = pos 2048 }) ≡ Some 56) × (wrong_field (record super_22 { frag = pos 4 }) ≡ Some 56)
unfolding wrong_field is_block_size is_fragment_size is_fragment_count is_inode_count ones
wrong_sizes = (refl, refl, refl, refl, refl, refl)

wrong_counts : (wrong_field (record super_22 { nindir = 8192 }) ≡ Some 116) × (wrong_field (record super_22 { inopb = 256 }) ≡ Some 120) × (wrong_field (record super_22 { ipg = 0 }) ≡ Some 184) × (wrong_field (record super_22 { ipg = 130 }) ≡ Some 184)
    × (wrong_field (record super_22 { fpg = pos 0 }) ≡ Some 188) × (wrong_field (record super_22 { fpg = negsuc 0 }) ≡ Some 188) × (wrong_field (record super_22 { ncg = 0 }) ≡ Some 44) × (wrong_field (record super_22 { iblkno = negsuc 0 }) ≡ Some 16)
    × (wrong_field (record super_22 { ncg = 16777217 }) ≡ Some 44) × (wrong_field (record super_22 { ncg = 16777216 }) ≡ None)
unfolding wrong_field is_block_size is_fragment_size is_fragment_count is_inode_count ones
wrong_counts = (refl, refl, refl, refl, refl, refl, refl, refl, refl, refl)

-- only a UFS1 moves its groups
wrong_offset : (wrong_field (record super_22 { old_cgoffset = negsuc 0 }) ≡ None) × (wrong_field (record super_22 { version = 1; nindir = 8192; inopb = 256; old_cgoffset = negsuc 0 }) ≡ Some 24)
unfolding wrong_field is_block_size is_fragment_size is_fragment_count is_inode_count ones
wrong_offset = (refl, refl)

-- ---- where inodes stand

-- inode 300 is number 44 of group 1, in its first block of inodes, and inode 400 is in its second; there is none of number 1,024
place_300 : (inode_place super_22 300 ≡ 519168) × (inode_place super_22 400 ≡ 544768) × (has_inode super_22 1023 ≡ true) × (has_inode super_22 1024 ≡ false)
unfolding inode_place has_inode
place_300 = (refl, refl, refl, refl)

-- the groups of a UFS1 are moved round by fours
place_moved : inode_place (record super_22 { version = 1; old_cgoffset = pos 8; old_cgmask = 4294967292; inopb = 256 }) 1324 ≡ 2184704
unfolding inode_place
place_moved = refl
