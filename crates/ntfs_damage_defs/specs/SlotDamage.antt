-- Sizes of clusters and records in whole sectors.
use Rattle.std.specs.Prelude.{◌≡◌, ◌%◌, ◌<◌, ◌≤◌}
use Rattle.ntfs_volume_defs.specs.declared.boot.Boot.{Boot}

-- sizes that are read: clusters and records are whole sectors
pub record HasWholeSectors (boot : Boot) : Type 0 where
  pub cluster : boot.cluster % 512 ≡ 0
  pub some_cluster : 0 < boot.cluster
  pub record_size : boot.record_size % 512 ≡ 0
  pub long : 512 ≤ boot.record_size
