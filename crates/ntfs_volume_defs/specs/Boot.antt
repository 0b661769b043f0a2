-- The boot sector (PACKED_BOOT_SECTOR): the first 512 bytes of a volume.
use Rattle.std.specs.Prelude.{ℕ, suc, ◌+◌, ◌*◌, ◌/◌, ◌^◌, ◌&&◌, ◌==◌, nat_le, nat_lt, Bool, ℤ, pos, negsuc, List, [], ◌∷◌, slice_index}
use Rattle.std.specs.List.{list_any}
use Rattle.std.specs.Str.{bytes_eq}
use Rattle.std.specs.Int.{w8}
use Rattle.bytes_defs.specs.Bytes.{part}
use Rattle.image_defs.specs.Ask.{Ask, Done, look, check, ◌>>=◌, ◌>>◌}
use Rattle.bytes_defs.specs.Numbers.{little_at, little_signed_at}
use Rattle.ntfs_volume_defs.specs.declared.boot.Boot.{Boot}
use Rattle.fault_defs.specs.declared.Sort.TheVariants.{BootField}
use Rattle.fault_defs.specs.declared.What.TheVariants.{BootGeometry}
use Rattle.fault_defs.specs.declared.Refusal.{Refusal}
use Rattle.fault_defs.specs.declared.Refusal.TheVariants.{NotThis, Damaged, Unsupported}

-- "NTFS" and four blanks, and 0x55 0xAA
abbrev pub is_boot_sector : List ℕ → Bool
is_boot_sector bytes =
    bytes_eq (part bytes 3 8) (78 ∷ 84 ∷ 70 ∷ 83 ∷ 32 ∷ 32 ∷ 32 ∷ 32 ∷ []) && bytes_eq (part bytes 510 2) (0x55 ∷ 0xAA ∷ [])

abbrev pub sector_size : List ℕ → ℕ
sector_size bytes = little_at 2 bytes 0x0B

abbrev pub sectors_in_cluster : List ℕ → ℕ
sectors_in_cluster bytes = slice_index bytes 0x0D

abbrev pub total_sectors : List ℕ → ℕ
total_sectors bytes = little_at 8 bytes 0x28

abbrev pub first_mft_cluster : List ℕ → ℕ
first_mft_cluster bytes = little_at 8 bytes 0x30

abbrev pub cluster_size : List ℕ → ℕ
cluster_size bytes = sector_size bytes * sectors_in_cluster bytes

-- a positive record size counts clusters, and a negative one is the power of two
abbrev pub size_of_record : ℕ → ℤ → ℕ
size_of_record cluster (pos n) = n * cluster
size_of_record cluster (negsuc n) = 2 ^ suc n

abbrev pub record_size_of : List ℕ → ℕ
record_size_of bytes = size_of_record (cluster_size bytes) (little_signed_at w8 bytes 0x40)

abbrev pub clusters_of : List ℕ → ℕ
clusters_of bytes = total_sectors bytes / sectors_in_cluster bytes

abbrev pub is_one_of : List ℕ → ℕ → Bool
is_one_of values number = list_any (λ value. number == value) values

-- the volume has sectors, and they don't pass its length
abbrev pub is_total : ℕ → List ℕ → Bool
is_total len bytes = nat_lt 0 (total_sectors bytes) && nat_le (total_sectors bytes * sector_size bytes) len

-- the geometry of the volume of `len` bytes from `at` on
unfoldable pub boot_of : ℕ → ℕ → List ℕ → Boot
boot_of at len bytes = record {
  at = at;
  len = len;
  cluster = cluster_size bytes;
  clusters = clusters_of bytes;
  mft_cluster = first_mft_cluster bytes;
  record_size = record_size_of bytes;
}

-- the boot sector of the volume of `len` bytes from `at` on
unfoldable pub boot_at : ℕ → ℕ → Ask Refusal Boot
boot_at at len = do
  check (nat_le 512 len) NotThis
  bytes ← look at 512
  check (is_boot_sector bytes) NotThis
  check (is_one_of (512 ∷ 1024 ∷ 2048 ∷ 4096 ∷ []) (sector_size bytes)) (Unsupported BootGeometry (at + 0x0B))
  check (is_one_of (1 ∷ 2 ∷ 4 ∷ 8 ∷ 16 ∷ 32 ∷ 64 ∷ 128 ∷ []) (sectors_in_cluster bytes)) (Unsupported BootGeometry (at + 0x0D))
  check (is_one_of (1024 ∷ 4096 ∷ []) (record_size_of bytes)) (Unsupported BootGeometry (at + 0x40))
  check (is_total len bytes) (Damaged BootField (at + 0x28))
  check (nat_lt (first_mft_cluster bytes) (clusters_of bytes)) (Damaged BootField (at + 0x30))
  Done (boot_of at len bytes)
