-- The tree of an image.
use Rattle.std.specs.Prelude.{ℕ, List}
use Rattle.range_defs.specs.declared.Range.{Range}
use Rattle.rx_tree.specs.declared.file.FileEntry.{FileEntry}
use Rattle.rx_tree.specs.declared.volume.Volume.{Volume}

-- what an image says: its length, its volumes, the bytes of partitions that aren't read, its files, and the guard
pub record TreeValue : Type 0 where
  pub image_len : ℕ
  pub volumes : List Volume
  pub unread : List Range
  pub files : List FileEntry
  pub guard : List Range
