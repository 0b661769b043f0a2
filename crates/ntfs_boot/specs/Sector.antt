-- The boot sector by its bytes, one test after the other, and what holds of each volume that it describes.
use Rattle.std.specs.Prelude.{◌≡◌, ℕ, ◌+◌, ◌*◌, ◌<◌, ◌≤◌, true, nat_lt, if◌then◌else◌, Result, Ok, Err, List, [], ◌∷◌}
use Rattle.fault_defs.specs.declared.Sort.TheVariants.{BootField}
use Rattle.fault_defs.specs.declared.What.TheVariants.{BootGeometry}
use Rattle.fault_defs.specs.declared.Refusal.{Refusal}
use Rattle.fault_defs.specs.declared.Refusal.TheVariants.{NotThis, Damaged, Unsupported}
use Rattle.rx_store.specs.declared.read_fault.ReadFault.{ReadFault}
use Rattle.rx_store.specs.declared.read_fault.ReadFault.TheVariants as read
use Rattle.ntfs_volume_defs.specs.declared.boot.Boot.{Boot}
use Rattle.ntfs_volume_defs.specs.Boot.{is_boot_sector, is_one_of, is_total, sector_size, sectors_in_cluster, record_size_of, first_mft_cluster, clusters_of, boot_of}

abbrev pub sector_sizes : List ℕ
sector_sizes = 512 ∷ 1024 ∷ 2048 ∷ 4096 ∷ []

abbrev pub cluster_counts : List ℕ
cluster_counts = 1 ∷ 2 ∷ 4 ∷ 8 ∷ 16 ∷ 32 ∷ 64 ∷ 128 ∷ []

abbrev pub record_sizes : List ℕ
record_sizes = 1024 ∷ 4096 ∷ []

-- the powers of two of 512 to 524,288
abbrev pub cluster_sizes : List ℕ
cluster_sizes = 512 ∷ 1024 ∷ 2048 ∷ 4096 ∷ 8192 ∷ 16384 ∷ 32768 ∷ 65536 ∷ 131072 ∷ 262144 ∷ 524288 ∷ []

-- the volume with this geometry, where it has sectors for it
abbrev pub placed_boot : ℕ → ℕ → List ℕ → Result Boot Refusal
placed_boot at len bytes =
    if is_total len bytes
    then (if nat_lt (first_mft_cluster bytes) (clusters_of bytes) then Ok (boot_of at len bytes) else Err (Damaged BootField (at + 0x30)))
    else Err (Damaged BootField (at + 0x28))

-- the volume that a boot sector describes
unfoldable pub sector_boot : ℕ → ℕ → List ℕ → Result Boot Refusal
sector_boot at len bytes =
    if is_boot_sector bytes
    then (if is_one_of sector_sizes (sector_size bytes)
    then (if is_one_of cluster_counts (sectors_in_cluster bytes)
    then (if is_one_of record_sizes (record_size_of bytes) then placed_boot at len bytes else Err (Unsupported BootGeometry (at + 0x40)))
    else Err (Unsupported BootGeometry (at + 0x0D)))
    else Err (Unsupported BootGeometry (at + 0x0B)))
    else Err NotThis

-- a volume whose clusters lie in it, with the sizes that are read
pub record IsSoundBoot (at len : ℕ) (boot : Boot) : Type 0 where
  pub at_is : boot.at ≡ at
  pub len_is : boot.len ≡ len
  pub cluster : is_one_of cluster_sizes boot.cluster ≡ true
  pub record_size : is_one_of record_sizes boot.record_size ≡ true
  pub inside : boot.clusters * boot.cluster ≤ len
  pub mft_inside : boot.mft_cluster < boot.clusters

-- why a boot sector isn't read
abbrev pub IsBootRefusal : ReadFault → Type 0
IsBootRefusal read.Device = Unit {0}
IsBootRefusal read.NoMemory = ⊥
IsBootRefusal read.NotThis = Unit {0}
IsBootRefusal (read.Damaged sort place) = sort ≡ BootField
IsBootRefusal (read.Unsupported what place) = what ≡ BootGeometry
IsBootRefusal (read.Limit bound number) = ⊥
