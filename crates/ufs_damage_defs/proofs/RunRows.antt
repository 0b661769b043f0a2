-- The runs of a small stream, worked out by hand.
use Rattle.std.specs.Prelude.{◌≡◌, pos, List, [], ◌∷◌, ◌++◌, replicate, refl, ℕ}
use Rattle.bytes_defs.specs.Numbers.{number_at, signed_at}
use Rattle.bytes_defs.specs.declared.order.Order.TheVariants.{Little}
use Rattle.ufs_inode_defs.specs.Stream.{Stream, pointers_from}
use Rattle.ufs_inode_defs.specs.BlockPlace.{block_pointer, byte_place}
use Rattle.ufs_inode_defs.specs.declared.superblock.Super.{Super}
use Rattle.ufs_damage_defs.specs.StreamDamage.{AtByte, AtPointers}
use Rattle.ufs_damage_defs.proofs.Visits.{stream_starts}

-- a UFS1 of 32 blocks of 8 bytes, two pointers to a block
abbrev super_8 : Super
super_8 = record {
  at = 0;
  len = 256;
  version = 1;
  order = Little;
  iblkno = pos 0;
  cblkno = pos 0;
  old_cgoffset = pos 0;
  old_cgmask = 0;
  ncg = 1;
  bsize = pos 8;
  fsize = pos 8;
  frag = pos 1;
  nindir = 2;
  inopb = 0;
  ipg = 0;
  fpg = pos 32;
}

-- block 20 has a pointer to block 21, and one to a hole
abbrev image_8 : List ℕ
image_8 = replicate 160 0 ++ (21 ∷ replicate 95 0)

-- a stream of 14 blocks: the first eleven in a row, two alone, and a hole of the last
abbrev stream_8 : Stream
stream_8 = record {
  size = 110;
  direct = pointers_from 40 4 (pos 1 ∷ pos 2 ∷ pos 3 ∷ pos 4 ∷ pos 5 ∷ pos 6 ∷ pos 7 ∷ pos 8 ∷ pos 9 ∷ pos 10 ∷ pos 11 ∷ pos 13 ∷ []);
  indirect = pointers_from 88 4 (pos 20 ∷ pos 0 ∷ pos 0 ∷ []);
}

-- it has four pieces, and one block of pointers is visited
runs_8 : stream_starts image_8 super_8 stream_8 ≡ AtByte 0 ∷ AtByte 88 ∷ AtByte 96 ∷ AtByte 104 ∷ AtPointers 1 12 ∷ []
unfolding number_at signed_at block_pointer byte_place
runs_8 = refl
