-- Laws behind Refusals: what is true of a volume's refusal is true of the image's.
use Rattle.std.specs.Prelude.{◌≡◌, ℕ, None, Result, Ok, Err, List, length, refl}
use Rattle.std.proofs.Common.{sym, ◌∙◌, subst, ⊎_elim}
use Rattle.std.proofs.lemmas.Bool.{cases_lt}
use Rattle.range_defs.specs.declared.Range.{Range}
use Rattle.range_defs.specs.declared.TheConstants.{LONGEST_IMAGE}
use Rattle.image_defs.specs.Ask.{result_of}
use Rattle.image_defs.specs.Results.{with_value}
use Rattle.rx_tree.specs.TreeValue.{TreeValue}
use Rattle.fault_defs.specs.declared.Refusal.{Refusal}
use Rattle.fault_defs.specs.declared.Refusal.TheVariants.{NotThis, Damaged, Unsupported, Limit}
use Rattle.fault_defs.specs.declared.Bound.TheVariants.{Image}
use Rattle.ufs_volume_defs.specs.Volume.{FoundVolume, volume_at, guard_of, tree_of, volume_tree}
use Rattle.ufs_damage_defs.specs.Damage.{First, Second, order_of_1, order_of_2, IsWrong, LongImage}
use Rattle.ufs_damage_defs.proofs.SuperDamage.{magics}
use Rattle.ufs_damage_defs.proofs.VolumeDamage.{ufs_damage_law}
use Rattle.tree_defs.specs.ImageTree.{image_orders, whole_image, image_tree}
use Rattle.tree_defs.specs.Refusals.{HasNoMagic, IsTrueOf, ImageRefusalLaw}
use Rattle.tree_defs.proofs.ImageLaws.{too_long, not_too_long}

stopped : {E X Y : Type 0} (change : X → Y) (found : Result X E) (e : E) → with_value change found ≡ Err e → found ≡ Err e
stopped change (Ok x) e is = absurd cc
stopped change (Err other) e is = let same : other ≡ e = cc in cc

given : {E X Y : Type 0} (change : X → Y) (found : Result X E) (y : Y) → with_value change found ≡ Ok y → (x : X) × (found ≡ Ok x)
given change (Ok x) y is = (x, refl)
given change (Err other) y is = absurd cc

module _ (image : List ℕ) where
  abbrev whole : Range
  whole = whole_image (length image)

  abbrev found_in : Result FoundVolume Refusal
  found_in = result_of image (volume_at image_orders (length image) whole 0)

  -- ---- the tree and the volume

  volume_stopped : (refusal : Refusal) → volume_tree image_orders image whole 0 ≡ Err refusal → found_in ≡ Err refusal
  unfolding volume_tree
  volume_stopped refusal is = stopped (tree_of (length image) whole 0 (guard_of image_orders image whole 0)) found_in refusal is

  volume_given : (tree : TreeValue) → volume_tree image_orders image whole 0 ≡ Ok tree → (found : FoundVolume) × (found_in ≡ Ok found)
  unfolding volume_tree
  volume_given tree is = given (tree_of (length image) whole 0 (guard_of image_orders image whole 0)) found_in tree is

  -- ---- a refusal is true

  no_magic : order_of_1 image_orders image whole ≡ None → order_of_2 image_orders image whole ≡ None → HasNoMagic image
  no_magic first second version order (First o is) = let both = sym first ∙ is in absurd cc
  no_magic first second version order (Second o other is) = let both = sym second ∙ is in absurd cc

  true_of : (refusal : Refusal) → IsWrong image_orders image whole 0 refusal → IsTrueOf image refusal
  true_of NotThis wrong = absurd wrong
  true_of other wrong = wrong

  refused : (refusal : Refusal) → found_in ≡ Err refusal → IsTrueOf image refusal
  refused refusal is =
      ⊎_elim
      (λ some. true_of refusal ((ufs_damage_law image_orders image whole 0).refuses some.version some.order refusal some.magic is))
      (λ none.
      let nothing = no_magic none.0 none.1 in
      let other : NotThis ≡ refusal = let both = sym ((ufs_damage_law image_orders image whole 0).other nothing) ∙ is in cc in
      subst (IsTrueOf image) other nothing)
      (magics image_orders image whole)

  refuses : (refusal : Refusal) → image_tree image ≡ Err refusal → IsTrueOf image refusal
  refuses refusal is =
      ⊎_elim
      (λ long. let limit : Limit Image LONGEST_IMAGE ≡ refusal = let both = sym (too_long image long) ∙ is in cc in subst (IsTrueOf image) limit (LongImage long))
      (λ short. refused refusal (volume_stopped refusal (sym (not_too_long image short) ∙ is)))
      (cases_lt LONGEST_IMAGE (length image))

  -- ---- nothing of the kind is true where there is a tree

  sound : (found : FoundVolume) (refusal : Refusal) → found_in ≡ Ok found → ¬ (IsTrueOf image refusal)
  sound found NotThis is = λ nothing. let both = sym ((ufs_damage_law image_orders image whole 0).other nothing) ∙ is in cc
  sound found (Damaged sort place) is = (ufs_damage_law image_orders image whole 0).accepts found (Damaged sort place) is
  sound found (Unsupported what place) is = (ufs_damage_law image_orders image whole 0).accepts found (Unsupported what place) is
  sound found (Limit bound number) is = (ufs_damage_law image_orders image whole 0).accepts found (Limit bound number) is

  accepts : (tree : TreeValue) (refusal : Refusal) → image_tree image ≡ Ok tree → ¬ (IsTrueOf image refusal)
  accepts tree refusal is =
      ⊎_elim
      (λ long. let both = sym (too_long image long) ∙ is in absurd cc)
      (λ short. let volume = volume_given tree (sym (not_too_long image short) ∙ is) in sound volume.0 refusal volume.1)
      (cases_lt LONGEST_IMAGE (length image))

  -- ---- there is a tree where nothing of the kind is true

  complete : ((refusal : Refusal) → ¬ (IsTrueOf image refusal)) → (tree : TreeValue) × (image_tree image ≡ Ok tree)
  complete none = either (image_tree image) refl
    where
      either : (result : Result TreeValue Refusal) → image_tree image ≡ result → (tree : TreeValue) × (image_tree image ≡ Ok tree)
      either (Ok tree) is = (tree, is)
      either (Err refusal) is = absurd (none refusal (refuses refusal is))

pub image_refusal_law : ImageRefusalLaw
image_refusal_law image = record { refuses = refuses image; accepts = accepts image; complete = complete image }
