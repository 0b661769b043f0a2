-- The ranges at which one looks for a superblock.
use Rattle.std.specs.Prelude.{◌≡◌, ℕ, ◌+◌, ◌-◌, ◌≤◌, ◌==◌, min, Bool, true, false, if◌then◌else◌, Option, Some, None, IfSome, Result, Ok, List, [], ◌∷◌, ◌++◌}
use Rattle.std.proofs.Common.{ap, sym, subst, ◌∙◌, arith}
use Rattle.range_defs.specs.declared.Range.{Range}
use Rattle.bytes_defs.specs.Bytes.{part}
use Rattle.bytes_defs.specs.declared.order.Order.{Order}
use Rattle.bytes_defs.specs.declared.order.Order.TheVariants.{Little}
use Rattle.image_defs.specs.Ask.{Stop, result_of, visits}
use Rattle.image_defs.proofs.Results.{result_given, visits_given}
use Rattle.fault_defs.specs.declared.Refusal.{Refusal}
use Rattle.fault_defs.specs.declared.Refusal.TheVariants.{NotThis}
use Rattle.image_reads.specs.Steps.{ReadsAs}
use Rattle.image_reads.proofs.Bytes.{same_ranges}
use Rattle.ufs_inode_defs.specs.Layout.{Layout, layout_1, layout_2, layout_of}
use Rattle.ufs_inode_defs.specs.Superblock.{superblock_of, wrong_field, checked_super, super_in, super_or, super_of_1, super_of_2, volume_super}
use Rattle.ufs_inode_defs.specs.declared.superblock.Super.{Super}
use Rattle.ufs_super.specs.Magic.{has_magic}
use Rattle.ufs_super.specs.Looks.{version_looks, super_looks}

-- a superblock begins at byte 8192 at least
least_place : (version : ℕ) → 8192 ≤ (layout_of version).superblock_at
least_place version = by_version (version == 1)
  where
    by_version : (first : Bool) → (let layout : Layout = if first then layout_1 else layout_2 in 8192 ≤ layout.superblock_at)
    by_version true = omega arith
    by_version false = omega arith

-- ---- the program looks at them

module _ (image : List ℕ) (at len : ℕ) (sup : Super) where
  volume : Range
  volume = record { at = at; len = len }

  found : Bool → Option Order
  found fits = if fits then Some Little else None

  same_value : (first second : Super) → (let x : Result Super Refusal = Ok first in let y : Result Super Refusal = Ok second in x ≡ y) → first ≡ second
  same_value first second same = cc

  checked_gives : (stored : Super) (wrong : Option ℕ) → checked_super stored wrong ≡ Ok sup → stored ≡ sup
  checked_gives stored None gives = same_value stored sup gives
  checked_gives stored (Some place) gives = absurd cc

  stored : ℕ → Super
  stored version = superblock_of (record { at = at; len = len }) version Little (part image (at + (layout_of version).superblock_at) 1376)

  in_version : (version : ℕ) → result_of image (super_in (record { at = at; len = len }) version Little) ≡ Ok sup → sup.version ≡ version
  unfolding super_in superblock_of stored
  in_version version gives =
      let is : stored version ≡ sup = checked_gives (stored version) (wrong_field (stored version)) (sym (result_given image (checked_super (stored version) (wrong_field (stored version)))) ∙ gives) in
      ap (λ s. s.version) (sym is)

  version_visits : (version : ℕ) → visits image (super_in (record { at = at; len = len }) version Little) ≡ record { at = at + (layout_of version).superblock_at; len = 1376 } ∷ []
  unfolding super_in stored
  version_visits version = ap (λ ranges. record { at = at + (layout_of version).superblock_at; len = 1376 } ∷ ranges) (visits_given image (checked_super (stored version) (wrong_field (stored version))))

  uncut : (place count : ℕ) → place + count ≤ len → min count (len - place) ≡ count
  uncut place count inside = omega arith

  second_visits : (fits : Bool) → result_of image (super_or (record { at = at; len = len }) 2 (found fits) (Stop NotThis)) ≡ Ok sup → (layout_of sup.version).superblock_at + 1376 ≤ len
      → record { at = at + 66908; len = min 4 (len - 66908) } ∷ visits image (super_or (record { at = at; len = len }) 2 (found fits) (Stop NotThis)) ≡ version_looks at sup.version
  unfolding found
  second_visits true gives whole =
      let two : sup.version ≡ 2 = in_version 2 gives in
      let long : 65536 + 1376 ≤ len = let P : ℕ → Type 0 = λ version. (layout_of version).superblock_at + 1376 ≤ len in subst P two whole in
      ap (λ ranges. record { at = at + 66908; len = min 4 (len - 66908) } ∷ ranges) (version_visits 2)
      ∙ ap (λ count. record { at = at + 66908; len = count } ∷ record { at = at + 65536; len = 1376 } ∷ []) (uncut 66908 4 (omega arith))
      ∙ ap (version_looks at) (sym two)
  second_visits false gives whole = absurd cc

  first_visits : (fits : Bool) → result_of image (super_or (record { at = at; len = len }) 1 (found fits) (super_of_2 (Little ∷ []) (record { at = at; len = len }))) ≡ Ok sup → (layout_of sup.version).superblock_at + 1376 ≤ len
      → visits image (super_or (record { at = at; len = len }) 1 (found fits) (super_of_2 (Little ∷ []) (record { at = at; len = len }))) ≡ version_looks at sup.version
  unfolding found super_of_2
  first_visits true gives whole = version_visits 1 ∙ ap (version_looks at) (sym (in_version 1 gives))
  first_visits false gives whole = second_visits (has_magic image at len 2) gives whole

  super_visits : result_of image (volume_super (Little ∷ []) (record { at = at; len = len })) ≡ Ok sup → (layout_of sup.version).superblock_at + 1376 ≤ len
      → visits image (volume_super (Little ∷ []) (record { at = at; len = len })) ≡ super_looks at sup.version
  unfolding found volume_super super_of_1
  super_visits gives whole =
      let least = least_place sup.version in
      ap
      (λ ranges.
      record { at = at + 3; len = min 8 (len - 3) }
      ∷ record { at = at + 510; len = min 2 (len - 510) }
      ∷ record { at = at + 1024; len = min 4 (len - 1024) }
      ∷ record { at = at + 9564; len = min 4 (len - 9564) }
      ∷ ranges)
      (first_visits (has_magic image at len 1) gives whole)
      ∙ ap (λ count. record { at = at + 3; len = count } ∷ record { at = at + 510; len = min 2 (len - 510) } ∷ record { at = at + 1024; len = min 4 (len - 1024) } ∷ record { at = at + 9564; len = min 4 (len - 9564) } ∷ version_looks at sup.version) (uncut 3 8 (omega arith))
      ∙ ap (λ count. record { at = at + 3; len = 8 } ∷ record { at = at + 510; len = count } ∷ record { at = at + 1024; len = min 4 (len - 1024) } ∷ record { at = at + 9564; len = min 4 (len - 9564) } ∷ version_looks at sup.version) (uncut 510 2 (omega arith))
      ∙ ap (λ count. record { at = at + 3; len = 8 } ∷ record { at = at + 510; len = 2 } ∷ record { at = at + 1024; len = count } ∷ record { at = at + 9564; len = min 4 (len - 9564) } ∷ version_looks at sup.version) (uncut 1024 4 (omega arith))
      ∙ ap (λ count. record { at = at + 3; len = 8 } ∷ record { at = at + 510; len = 2 } ∷ record { at = at + 1024; len = 4 } ∷ record { at = at + 9564; len = count } ∷ version_looks at sup.version) (uncut 9564 4 (omega arith))

-- ---- what a call answers that keeps them

pub keeps_looks : (told : Option (List ℕ)) (at len : ℕ) (sup : Super) (before looked : List Range) → IfSome told (λ image. result_of image (volume_super (Little ∷ []) (record { at = at; len = len })) ≡ Ok sup)
    → (layout_of sup.version).superblock_at + 1376 ≤ len → looked ≡ before ++ super_looks at sup.version
    → ReadsAs told (volume_super (Little ∷ []) (record { at = at; len = len })) before looked (Ok sup)
keeps_looks None at len sup before looked gives whole kept = tt
keeps_looks (Some image) at len sup before looked gives whole kept = record {
  given = gives;
  looks = same_ranges looked (before ++ visits image (volume_super (Little ∷ []) (record { at = at; len = len }))) (kept ∙ ap (λ ranges. before ++ ranges) (sym (super_visits image at len sup gives whole)));
}
