-- The guard and the tree of the small image, worked out by hand: the places of the magics, the superblock, the two inodes, which stand side
-- by side, and the root's entries.
use Rattle.std.specs.Prelude.{◌≡◌, ◌≤◌, ℕ, Bool, false, ◌||◌, Some, Ok, List, [], ◌∷◌, length, refl}
use Rattle.std.proofs.Common.{ap, sym, ◌∙◌, arith, lit<}
use Rattle.std.proofs.lemmas.Bool.Decides.{nat_tests}
use Rattle.range_defs.specs.declared.Range.{Range}
use Rattle.range_defs.specs.Places.{in_range, covers, IsRangeList, longest_ranges}
use Rattle.range_defs.proofs.RangeLaws.{same_as_longest_ranges, ends_where_covered}
use Rattle.bytes_defs.specs.declared.order.Order.TheVariants.{Little}
use Rattle.image_defs.specs.Ask.{result_of, visits}
use Rattle.image_defs.specs.Results.{with_value}
use Rattle.rx_ranges.specs.declared.pieces.PieceKind.TheVariants.{Disk}
use Rattle.rx_tree.specs.TreeValue.{TreeValue}
use Rattle.rx_tree.specs.declared.file.FileEntry.{FileEntry}
use Rattle.rx_tree.specs.declared.file.Kind.TheVariants.{File}
use Rattle.rx_tree.specs.declared.volume.FsKind.TheVariants.{Ufs2}
use Rattle.ufs_volume_defs.specs.Volume.{volume_at, guard_of, tree_of, volume_tree}
use Rattle.ufs_volume_defs.proofs.Images.{whole, image_t}
use Rattle.ufs_volume_defs.proofs.Rows.{computing, one_part, root_t, all_0, looked_at_t, visits_t}

abbrev guard_ranges_t : List Range
guard_ranges_t =
    record { at = 3; len = 8 }
    ∷ record { at = 510; len = 2 }
    ∷ record { at = 1024; len = 4 }
    ∷ record { at = 9564; len = 4 }
    ∷ record { at = 65536; len = 1376 }
    ∷ record { at = 74240; len = 512 }
    ∷ record { at = 81920; len = 512 }
    ∷ []

kept_t : IsRangeList guard_ranges_t
kept_t = (lit< tt, lit< tt, (lit< tt, lit< tt, (lit< tt, lit< tt, (lit< tt, lit< tt, (lit< tt, lit< tt, (lit< tt, lit< tt, (lit< tt, tt, tt)))))))

magic_inside : (byte : ℕ) (rest : Bool) → (in_range (record { at = 66908; len = 4 }) byte || (in_range (record { at = 65536; len = 1376 }) byte || rest)) ≡ (in_range (record { at = 65536; len = 1376 }) byte || rest)
magic_inside byte rest = grind (arith, nat_tests)

inodes_joined : (byte : ℕ)
    → (in_range (record { at = 74240; len = 256 }) byte || (in_range (record { at = 81920; len = 512 }) byte || (in_range (record { at = 74496; len = 256 }) byte || (in_range (record { at = 74240; len = 256 }) byte || (in_range (record { at = 74496; len = 256 }) byte || false)))))
    ≡ (in_range (record { at = 74240; len = 512 }) byte || (in_range (record { at = 81920; len = 512 }) byte || false))
inodes_joined byte = grind (arith, nat_tests)

-- both lists have the same bytes
same_t : (byte : ℕ) → covers looked_at_t byte ≡ covers guard_ranges_t byte
same_t byte =
    ap (λ rest. in_range (record { at = 3; len = 8 }) byte || rest)
    (ap (λ rest. in_range (record { at = 510; len = 2 }) byte || rest)
    (ap (λ rest. in_range (record { at = 1024; len = 4 }) byte || rest)
    (ap (λ rest. in_range (record { at = 9564; len = 4 }) byte || rest)
    (magic_inside byte _ ∙ ap (λ rest. in_range (record { at = 65536; len = 1376 }) byte || rest) (inodes_joined byte)))))

length_t : length image_t ≡ 262144
unfolding image_t
length_t = refl

ends_t : (byte : ℕ) → 262144 ≤ byte → covers guard_ranges_t byte ≡ false
ends_t byte past = grind (arith, nat_tests)

guard_t : guard_of (Little ∷ []) image_t (whole 262144) 0 ≡ guard_ranges_t
unfolding guard_of
guard_t =
    ap (λ size. longest_ranges (covers (visits image_t (volume_at (Little ∷ []) size (whole 262144) 0))) 0 size) length_t
    ∙ ap (λ ranges. longest_ranges (covers ranges) 0 262144) visits_t
    ∙ sym (same_as_longest_ranges (covers looked_at_t) 262144 guard_ranges_t kept_t (λ byte. sym (same_t byte)) (ends_where_covered guard_ranges_t 262144 kept_t ends_t))

-- a file of which the inode says this mode and so many links, and else zeros
abbrev said : ℕ → ℕ → FileEntry → FileEntry
said mode links file = record file { mode = Some mode; links = Some links; uid = Some 0; gid = Some 0; times = all_0 }

-- so the tree of the image is this one
abbrev tree_t : List Range → TreeValue
tree_t guard = record {
  image_len = 262144;
  volumes = record { number = 0; kind = Ufs2; at = 0; len = 262144 } ∷ [];
  unread = [];
  files =
      said 0x41ED 2 root_t
      ∷ said 0x81A4 1 (one_part 3 File ((47 ∷ 97 ∷ []) ∷ []) 3 (record { from = 0; len = 3; kind = Disk; at = 86016 } ∷ []) (record { at = 86019; len = 4093 } ∷ []))
      ∷ [];
  guard = guard;
}

tree_with : (guard : List Range) → with_value (tree_of 262144 (whole 262144) 0 guard) (result_of image_t (volume_at (Little ∷ []) 262144 (whole 262144) 0)) ≡ Ok (tree_t guard)
unfolding computing image_t
tree_with guard = refl

volume_t : volume_tree (Little ∷ []) image_t (whole 262144) 0 ≡ Ok (tree_t guard_ranges_t)
unfolding volume_tree
volume_t =
    ap (λ size. with_value (tree_of size (whole 262144) 0 (guard_of (Little ∷ []) image_t (whole 262144) 0)) (result_of image_t (volume_at (Little ∷ []) size (whole 262144) 0))) length_t
    ∙ ap (λ guard. with_value (tree_of 262144 (whole 262144) 0 guard) (result_of image_t (volume_at (Little ∷ []) 262144 (whole 262144) 0))) guard_t
    ∙ tree_with guard_ranges_t
