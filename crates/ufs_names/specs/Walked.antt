-- What holds of a walk over every store, also one that tells nothing.
use Rattle.std.specs.Prelude.{◌≡◌, ℕ, ◌+◌, ◌*◌, ◌<◌, ◌≤◌, true, All, nat_le, if◌then◌else◌, Result, Ok, Err, List, length}
use Rattle.rx_ranges.specs.Path.{IsPath}
use Rattle.rx_ranges.specs.declared.pieces.Piece.{Piece}
use Rattle.image_defs.specs.Ask.{Ask, Done, given, ◌>>=◌}
use Rattle.image_defs.specs.Through.{through}
use Rattle.fault_defs.specs.declared.Refusal.{Refusal}
use Rattle.fault_defs.specs.declared.Refusal.TheVariants as refusal
use Rattle.fault_defs.specs.declared.Bound.TheVariants.{Path}
use Rattle.ufs_inode_defs.specs.Superblock.{block_size, has_inode, inode_place}
use Rattle.ufs_inode_defs.specs.Inode.{sound_inode}
use Rattle.ufs_inode_defs.specs.Blocks.{most_runs}
use Rattle.ufs_inode_defs.specs.Stream.{content_len}
use Rattle.ufs_inode_defs.specs.declared.superblock.Super.{Super}
use Rattle.ufs_inode_defs.specs.declared.inode.Inode.{Inode}
use Rattle.ufs_volume_defs.specs.Names.{Named, Walk, Block, longest_path, most_names, most_path_bytes, path_bytes, block_names, directory_blocks}

-- a sound inode of a number that the volume has
pub record IsInodeOf (sup : Super) (number : ℕ) (inode : Inode) : Type 0 where
  pub within : has_inode sup number ≡ true
  pub place : inode.at ≡ inode_place sup number
  pub sound : sound_inode sup inode ≡ Done tt

-- a name has a path, and gives it to such an inode
pub record IsNamed (sup : Super) (name : Named) : Type 0 where
  pub path : IsPath name.path
  pub inode : IsInodeOf sup name.number name.inode

-- the names and the runs of a walk are within their limits
pub record IsWalked (sup : Super) (walk : Walk) : Type 0 where
  pub named : All (IsNamed sup) walk.names
  pub few : length walk.names ≤ most_names
  pub short : path_bytes walk.names ≤ most_path_bytes
  pub runs : walk.runs ≤ most_runs

-- a block begins in a content of so many bytes, and what it has of it lies in the volume
pub record LiesIn (sup : Super) (size : ℕ) (block : Block) : Type 0 where
  pub begins : block.index * block_size sup < size
  pub inside : block.at + content_len sup size block.index ≤ sup.at + sup.len

-- a path that isn't too long
abbrev pub limited_path : List ℕ → Result (List ℕ) Refusal
limited_path path = if nat_le (length path) longest_path then Ok path else Err (refusal.Limit Path longest_path)

-- a name whose path isn't too long
abbrev pub limited_name : Named → Result Named Refusal
limited_name name = if nat_le (length name.path) longest_path then Ok name else Err (refusal.Limit Path longest_path)

-- the names that the blocks of a directory with these pieces give, behind those that were found: none of the blocks is a hole
abbrev pub blocks_names : Super → Named → Walk → List Piece → Ask Refusal Walk
blocks_names sup directory walk pieces = given (directory_blocks sup directory.inode pieces) >>= through (block_names sup directory) walk
