-- An attribute list in clusters that is not read has a wrong stream.
use Rattle.std.specs.Prelude.{◌≡◌, ℕ, false, []}
use Rattle.fault_defs.specs.declared.Sort.{Sort}
use Rattle.ntfs_volume_defs.specs.Slots.{Mft}
use Rattle.ntfs_volume_defs.specs.Segments.{Held, is_resident}
use Rattle.ntfs_damage_defs.specs.Wrong.{IsWrongStream}

-- a list in clusters whose stream is wrong
pub record IsWrongListStream (mft : Mft) (list : Held) (sort : Sort) (place : ℕ) : Type 0 where
  pub in_clusters : is_resident list ≡ false
  pub wrong : IsWrongStream mft list [] sort place
