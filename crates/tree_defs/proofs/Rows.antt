-- What the definitions say of small images, worked out by hand.
use Rattle.std.specs.Prelude.{◌≡◌, ℕ, true, take, Some, None, Err, is_ok, List, [], ◌∷◌, refl}
use Rattle.bytes_defs.specs.Bytes.{part}
use Rattle.fault_defs.specs.declared.Refusal.TheVariants.{NotThis, Damaged}
use Rattle.fault_defs.specs.declared.Sort.TheVariants.{DirTwice}
use Rattle.rx_tree.specs.declared.volume.FsKind.TheVariants.{Ntfs, HfsPlus}
use Rattle.ufs_volume_defs.specs.Volume.{volume_tree}
use Rattle.ufs_volume_defs.proofs.Images.{image_t, image_of_root_twice, zeros_but}
use Rattle.ufs_volume_defs.proofs.Rows.{computing}
use Rattle.tree_defs.specs.Kind.{other_kind}
use Rattle.tree_defs.specs.ImageTree.{image_tree}

-- ---- the kinds

-- "NTFS" and four blanks at 3, and these two bytes at 510
abbrev boot_sector : List ℕ → List ℕ
boot_sector mark = zeros_but 0 512 ((3, 78 ∷ 84 ∷ 70 ∷ 83 ∷ 32 ∷ 32 ∷ 32 ∷ 32 ∷ []) ∷ (510, mark) ∷ [])

ntfs : (other_kind (boot_sector (0x55 ∷ 0xAA ∷ [])) ≡ Some Ntfs) × (other_kind (boot_sector (0x55 ∷ 0xAB ∷ [])) ≡ None)
unfolding other_kind part
ntfs = (refl, refl)

-- this signature at 1024
abbrev volume_header : List ℕ → List ℕ
volume_header signature = zeros_but 0 1028 ((1024, signature) ∷ [])

-- "H+" with version 4 and "HX" with version 5; not "H+" with version 5, nor where the image ends behind "H+"
hfs_plus :
    (other_kind (volume_header (0x48 ∷ 0x2B ∷ 0 ∷ 4 ∷ [])) ≡ Some HfsPlus)
    × (other_kind (volume_header (0x48 ∷ 0x58 ∷ 0 ∷ 5 ∷ [])) ≡ Some HfsPlus)
    × (other_kind (volume_header (0x48 ∷ 0x2B ∷ 0 ∷ 5 ∷ [])) ≡ None)
    × (other_kind (take 1026 (volume_header (0x48 ∷ 0x2B ∷ 0 ∷ 4 ∷ []))) ≡ None)
unfolding other_kind part
hfs_plus = (refl, refl, refl, refl)

neither : (other_kind image_t ≡ None) × (other_kind [] ≡ None)
unfolding other_kind part image_t
neither = (refl, refl)

-- ---- the trees

read : is_ok (image_tree image_t) ≡ true
unfolding image_tree volume_tree computing image_t
read = refl

-- the entry "b" at 81956 names the root
damaged : image_tree image_of_root_twice ≡ Err (Damaged DirTwice 81956)
unfolding image_tree volume_tree computing image_of_root_twice
damaged = refl

-- an image that ends in front of its superblock, and one of no bytes
not_recognised : (image_tree (take 1000 image_t) ≡ Err NotThis) × (image_tree [] ≡ Err NotThis)
unfolding image_tree volume_tree computing image_t
not_recognised = (refl, refl)
