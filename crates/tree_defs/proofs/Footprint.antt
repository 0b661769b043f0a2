-- Images that agree on the guard read the same. The places of the magics are in the guard of each image, since the superblock is looked
-- for behind them.
use Rattle.std.specs.Prelude.{◌≡◌, ℕ, ◌+◌, ◌-◌, ◌<◌, ◌≤◌, min, nat_le, IsTrue, if◌then◌else◌, Err, List, ◌∷◌, length, refl}
use Rattle.std.proofs.Common.{ap, sym, ◌∙◌, subst, arith, ⊎_elim}
use Rattle.std.proofs.lemmas.Bool.{cases_lt}
use Rattle.std.proofs.lemmas.Option.{slice_get_past}
use Rattle.range_defs.specs.declared.Range.{Range}
use Rattle.range_defs.specs.declared.TheConstants.{LONGEST_IMAGE}
use Rattle.range_defs.specs.Places.{covers}
use Rattle.bytes_defs.specs.Bytes.{part}
use Rattle.image_defs.specs.Ask.{visits}
use Rattle.image_defs.specs.Agreement.{AgreeOn}
use Rattle.image_defs.proofs.Agreement.{covers_first, covers_behind, part_agree}
use Rattle.image_defs.proofs.Guard.{looked_at, looked_at-agree}
use Rattle.fault_defs.specs.declared.Refusal.TheVariants.{Limit}
use Rattle.fault_defs.specs.declared.Bound.TheVariants.{Image}
use Rattle.ufs_inode_defs.specs.Superblock.{volume_super}
use Rattle.ufs_volume_defs.specs.Volume.{volume_at, guard_of, volume_tree}
use Rattle.ufs_volume_defs.proofs.Footprint.{ufs_footprint_law}
use Rattle.tree_defs.specs.Kind.{kind_of_magics, other_kind}
use Rattle.tree_defs.specs.ImageTree.{image_orders, whole_image, image_guard, image_tree}
use Rattle.tree_defs.specs.Footprint.{ImageFootprintLaw}

-- ---- the places of the magics are looked at

-- a place of the image, as far as the image goes
abbrev probe : List ℕ → ℕ → ℕ → Range
probe image at len = record { at = at; len = min len (length image - at) }

-- the places of the magics stand in front of what is looked at
looks_first : (image : List ℕ) → (rest : List Range) × (visits image (volume_at image_orders (length image) (whole_image (length image)) 0) ≡ probe image 3 8 ∷ probe image 510 2 ∷ probe image 1024 4 ∷ rest)
unfolding volume_at volume_super
looks_first image = (_, refl)

module _ (a b : List ℕ) where
  -- where the images agree on a place as far as the image goes, they agree on all of it
  same_probe : (ranges : List Range) (at len : ℕ) → AgreeOn ranges a b → ((byte : ℕ) → at ≤ byte → byte < at + min len (length a - at) → IsTrue (covers ranges byte)) → part b at len ≡ part a at len
  same_probe ranges at len agree seen =
      sym (part_agree a b at len agree.same_length
      (λ byte from to.
      ⊎_elim
      (λ inside. agree.same_bytes byte (seen byte from (omega arith)))
      (λ past. slice_get_past a byte past ∙ sym (slice_get_past b byte (omega (arith, past, agree.same_length))))
      (cases_lt byte (length a))))

  same_kind : (rest : List Range) → AgreeOn (probe a 3 8 ∷ probe a 510 2 ∷ probe a 1024 4 ∷ rest) a b → other_kind b ≡ other_kind a
  unfolding other_kind
  same_kind rest agree =
      let third = probe a 1024 4 ∷ rest in
      let second = probe a 510 2 ∷ third in
      let all = probe a 3 8 ∷ second in
      ap (λ name. kind_of_magics name (part b 510 2) (part b 1024 4)) (same_probe all 3 8 agree (λ byte from to. covers_first (probe a 3 8) second byte from to))
      ∙ ap (λ mark. kind_of_magics (part a 3 8) mark (part b 1024 4))
      (same_probe all 510 2 agree (λ byte from to. covers_behind (probe a 3 8) second byte (covers_first (probe a 510 2) third byte from to)))
      ∙ ap (kind_of_magics (part a 3 8) (part a 510 2))
      (same_probe all 1024 4 agree (λ byte from to. covers_behind (probe a 3 8) second byte (covers_behind (probe a 510 2) third byte (covers_first (probe a 1024 4) rest byte from to))))

  -- ---- the law

  module _ (agree : AgreeOn (image_guard a) a b) where
    agree_guard : AgreeOn (guard_of image_orders a (whole_image (length a)) 0) a b
    unfolding image_guard
    agree_guard = agree

    guard_looked_at : guard_of image_orders a (whole_image (length a)) 0 ≡ looked_at a (volume_at image_orders (length a) (whole_image (length a)) 0)
    unfolding guard_of looked_at
    guard_looked_at = refl

    agree_visits : AgreeOn (visits a (volume_at image_orders (length a) (whole_image (length a)) 0)) a b
    agree_visits =
        let P : List Range → Type 0 = λ ranges. AgreeOn ranges a b in
        looked_at-agree a b (volume_at image_orders (length a) (whole_image (length a)) 0) (subst P guard_looked_at agree_guard)

    kind_agrees : other_kind b ≡ other_kind a
    kind_agrees =
        let P : List Range → Type 0 = λ ranges. AgreeOn ranges a b in
        let first = looks_first a in
        same_kind first.0 (subst P first.1 agree_visits)

    guard_agrees : image_guard b ≡ image_guard a
    unfolding image_guard
    guard_agrees =
        ap (λ size. guard_of image_orders b (whole_image size) 0) (sym agree.same_length)
        ∙ (ufs_footprint_law image_orders a b (whole_image (length a)) 0 agree_guard).1

    tree_agrees : image_tree b ≡ image_tree a
    unfolding image_tree
    tree_agrees =
        ap (λ size. if nat_le size LONGEST_IMAGE then volume_tree image_orders b (whole_image size) 0 else Err (Limit Image LONGEST_IMAGE)) (sym agree.same_length)
        ∙ ap (λ tree. if nat_le (length a) LONGEST_IMAGE then tree else Err (Limit Image LONGEST_IMAGE)) (ufs_footprint_law image_orders a b (whole_image (length a)) 0 agree_guard).0

pub image_footprint_law : ImageFootprintLaw
image_footprint_law a b agree = record { tree = tree_agrees a b agree; guard = guard_agrees a b agree; kind = kind_agrees a b agree }
