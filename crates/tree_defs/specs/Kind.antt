-- The kinds of file systems that are told by their magic and aren't read yet. A place that the image lacks, or that passes its end,
-- fits no magic.
use Rattle.std.specs.Prelude.{◌≢◌, ℕ, Bool, ◌&&◌, ◌||◌, if◌then◌else◌, Option, Some, None, List, [], ◌∷◌}
use Rattle.std.specs.Str.{bytes_eq}
use Rattle.bytes_defs.specs.Bytes.{part}
use Rattle.rx_tree.specs.declared.volume.FsKind.{FsKind}
use Rattle.rx_tree.specs.declared.volume.FsKind.TheVariants.{Ntfs, HfsPlus}

-- NTFS: "NTFS" and four blanks at 3, and 0x55 0xAA at 510
abbrev pub is_ntfs : List ℕ → List ℕ → Bool
is_ntfs name mark = bytes_eq name (78 ∷ 84 ∷ 70 ∷ 83 ∷ 32 ∷ 32 ∷ 32 ∷ 32 ∷ []) && bytes_eq mark (0x55 ∷ 0xAA ∷ [])

-- HFS+ (TN1150, "Volume Header"): the signature "H+" with version 4 or "HX" with version 5 at 1024, the highest byte first
abbrev pub is_hfs : List ℕ → Bool
is_hfs bytes = bytes_eq bytes (0x48 ∷ 0x2B ∷ 0 ∷ 4 ∷ []) || bytes_eq bytes (0x48 ∷ 0x58 ∷ 0 ∷ 5 ∷ [])

-- the kind of an image with these bytes at 3, 510 and 1024, where it is one of the two
abbrev pub kind_of_magics : List ℕ → List ℕ → List ℕ → Option FsKind
kind_of_magics name mark signature = if is_ntfs name mark then Some Ntfs else (if is_hfs signature then Some HfsPlus else None)

-- the kind of an image, where it is one of the two
unfoldable pub other_kind : List ℕ → Option FsKind
other_kind image = kind_of_magics (part image 3 8) (part image 510 2) (part image 1024 4)

-- an image is of a kind that isn't read yet
abbrev pub IsOtherKind : List ℕ → Type 0
IsOtherKind image = other_kind image ≢ None
