-- What is found of an inode: its parts, and the blocks of pointers that were visited.
use Rattle.std.specs.Prelude.{ℕ, nat_le, Result, List, length}
use Rattle.range_defs.specs.declared.Range.{Range}
use Rattle.range_defs.specs.declared.TheConstants.{LONGEST_IMAGE}
use Rattle.range_defs.specs.Places.{covers, longest_ranges}
use Rattle.image_defs.specs.Ask.{Ask, result_of, visits, check, ◌>>◌}
use Rattle.image_defs.specs.Results.{with_value}
use Rattle.rx_tree.specs.PartValue.{PartValue}
use Rattle.fault_defs.specs.declared.Refusal.{Refusal}
use Rattle.fault_defs.specs.declared.Refusal.TheVariants.{Limit}
use Rattle.fault_defs.specs.declared.Bound.TheVariants.{Image}
use Rattle.ufs_inode_defs.specs.declared.superblock.Super.{Super}
use Rattle.ufs_inode_defs.specs.declared.inode.Inode.{Inode}
use Rattle.ufs_volume_defs.specs.Files.{Parted, inode_parts}

-- the parts, and the bytes of the blocks of pointers that were visited, as the longest ranges
pub record FoundBlocks : Type 0 where
  pub parts : List PartValue
  pub indirect : List Range

-- the parts of an inode in an image of `size` bytes, which may not be longer than 2^46
abbrev pub sized_parts : ℕ → Super → Inode → Ask Refusal Parted
sized_parts size sup inode = check (nat_le size LONGEST_IMAGE) (Limit Image LONGEST_IMAGE) >> inode_parts sup 0 inode

-- an inode's program looks at blocks of pointers alone
abbrev pub found_in : List ℕ → Super → Inode → Parted → FoundBlocks
found_in image sup inode parted = record {
  parts = parted.parts;
  indirect = longest_ranges (covers (visits image (inode_parts sup 0 inode))) 0 (length image);
}

abbrev pub blocks_found : List ℕ → Super → Inode → Result FoundBlocks Refusal
blocks_found image sup inode = with_value (found_in image sup inode) (result_of image (sized_parts (length image) sup inode))
