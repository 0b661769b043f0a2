-- What the volume of `len` bytes from `at` on says.
use Rattle.std.specs.Prelude.{ℕ, max, nat_le, Option, Some, None, List, [], ◌∷◌, length, sum_by, flat_map}
use Rattle.range_defs.specs.declared.Range.{Range}
use Rattle.range_defs.specs.Places.{longest_ranges}
use Rattle.image_defs.specs.Ask.{Ask, Done, check, ◌>>=◌, ◌>>◌}
use Rattle.fault_defs.specs.declared.Bound.TheVariants.{Names, PathBytes, Path, Runs}
use Rattle.fault_defs.specs.declared.Refusal.{Refusal}
use Rattle.fault_defs.specs.declared.Refusal.TheVariants.{Limit}
use Rattle.ntfs_volume_defs.specs.declared.boot.Boot.{Boot}
use Rattle.ntfs_volume_defs.specs.Boot.{boot_at}
use Rattle.ntfs_volume_defs.specs.Slots.{Mft}
use Rattle.ntfs_volume_defs.specs.Mft.{mft_of}
use Rattle.ntfs_volume_defs.specs.Files.{FoundFile, files_of}
use Rattle.ntfs_volume_defs.specs.Paths.{paths_of}
use Rattle.ntfs_volume_defs.specs.Guard.{is_guarded}

-- the volume with its files, by rising number
pub record FoundVolume : Type 0 where
  pub mft : Mft
  pub files : List FoundFile

abbrev pub all_found : List (Option FoundFile) → List FoundFile
all_found [] = []
all_found (None ∷ more) = all_found more
all_found (Some file ∷ more) = file ∷ all_found more

abbrev pub all_paths : List FoundFile → List (List ℕ)
all_paths files = flat_map (paths_of files) files

abbrev pub piece_count : List FoundFile → ℕ
piece_count files = sum_by (λ file. sum_by (λ part. length part.pieces) file.parts) files

-- whether each path is short enough
abbrev pub longest_path : List (List ℕ) → ℕ
longest_path [] = 0
longest_path (path ∷ paths) = max (length path) (longest_path paths)

unfoldable pub within_limits : FoundVolume → Ask Refusal FoundVolume
within_limits volume = do
  check (nat_le (piece_count volume.files) 4000000) (Limit Runs 4000000)
  check (nat_le (longest_path (all_paths volume.files)) 65535) (Limit Path 65535)
  check (nat_le (length (all_paths volume.files)) 1000000) (Limit Names 1000000)
  check (nat_le (sum_by length (all_paths volume.files)) 1073741824) (Limit PathBytes 1073741824)
  Done volume

abbrev pub volume_with : Boot → Mft → Ask Refusal FoundVolume
volume_with boot mft = files_of mft >>= (λ files. within_limits (record { mft = mft; files = all_found files }))

abbrev pub volume_behind : Boot → Ask Refusal FoundVolume
volume_behind boot = mft_of boot >>= volume_with boot

unfoldable pub volume_at : ℕ → ℕ → Ask Refusal FoundVolume
volume_at at len = boot_at at len >>= volume_behind

-- the guard of a volume in an image of so many bytes
unfoldable pub guard_of : ℕ → FoundVolume → List Range
guard_of size volume = longest_ranges (is_guarded volume.mft volume.files) 0 size
