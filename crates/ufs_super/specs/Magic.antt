-- The magic of a version: the last four bytes of its superblock.
use Rattle.std.specs.Prelude.{ℕ, ◌+◌, ◌-◌, min, Bool, List}
use Rattle.bytes_defs.specs.Bytes.{part}
use Rattle.bytes_defs.specs.declared.order.Order.TheVariants.{Little}
use Rattle.ufs_inode_defs.specs.Layout.{layout_of}
use Rattle.ufs_inode_defs.specs.Superblock.{fits_magic}

-- the place of the magic in the volume
abbrev pub magic_at : ℕ → ℕ
magic_at version = (layout_of version).superblock_at + 1372

-- whether the volume of `len` bytes at `at` has the magic of a version, with the lowest byte first
abbrev pub has_magic : List ℕ → ℕ → ℕ → ℕ → Bool
has_magic image at len version = fits_magic (layout_of version) Little (part image (at + magic_at version) (min 4 (len - magic_at version)))
