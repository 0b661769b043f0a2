-- What is kept of the inode table.
use Rattle.std.specs.Prelude.{◌≡◌, ℕ, ◌+◌, ◌≤◌, Option, IfSome, List, length}
use Rattle.bytes_defs.specs.Bytes.{part}
use Rattle.ufs_inode.specs.declared.block.InodeBlock.{InodeBlock}

-- the bytes that are kept are those of the image at their place, where the store tells its image
abbrev pub IsBlockOf : Option (List ℕ) → InodeBlock → Type 0
IsBlockOf told block = IfSome told (λ image. block.bytes.items ≡ part image block.at (length block.bytes.items))

-- a range is among them
pub record HasRange (block : InodeBlock) (at len : ℕ) : Type 0 where
  pub begins : block.at ≤ at
  pub ends : at + len ≤ block.at + length block.bytes.items
