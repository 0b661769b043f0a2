-- What a tree says of the image that has it.
use Rattle.std.specs.Prelude.{◌≡◌, ℕ, ◌<◌, ◌≤◌, Bool, true, false, nat_le, if◌then◌else◌, Result, Ok, Err, List, length}
use Rattle.std.proofs.Common.{ap, sym, arith}
use Rattle.std.proofs.lemmas.Bool.Decides.{nat_tests}
use Rattle.range_defs.specs.declared.Range.{Range}
use Rattle.range_defs.specs.declared.TheConstants.{LONGEST_IMAGE}
use Rattle.image_defs.specs.Ask.{result_of}
use Rattle.image_defs.specs.Results.{with_value}
use Rattle.rx_tree.specs.TreeValue.{TreeValue}
use Rattle.fault_defs.specs.declared.Refusal.{Refusal}
use Rattle.fault_defs.specs.declared.Refusal.TheVariants.{Limit}
use Rattle.fault_defs.specs.declared.Bound.TheVariants.{Image}
use Rattle.ufs_volume_defs.specs.Volume.{FoundVolume, volume_at, guard_of, tree_of, volume_tree}
use Rattle.tree_defs.specs.ImageTree.{image_orders, whole_image, image_guard, image_tree}

-- an image that is too long has no tree
pub too_long : (image : List ℕ) → LONGEST_IMAGE < length image → image_tree image ≡ Err (Limit Image LONGEST_IMAGE)
unfolding image_tree
too_long image long = grind (arith, nat_tests)

-- one that isn't has that of its volume
pub not_too_long : (image : List ℕ) → length image ≤ LONGEST_IMAGE → image_tree image ≡ volume_tree image_orders image (whole_image (length image)) 0
unfolding image_tree
not_too_long image short = grind (arith, nat_tests)

-- ---- a tree has the image's length, and its guard

-- the tree that was made, if one was
abbrev tree_or : TreeValue → Result TreeValue Refusal → TreeValue
tree_or other (Ok tree) = tree
tree_or other (Err refusal) = other

made_of : (size : ℕ) (volume : Range) (guard : List Range) (found : Result FoundVolume Refusal) (tree : TreeValue)
    → with_value (tree_of size volume 0 guard) found ≡ Ok tree → (tree.guard ≡ guard) × (tree.image_len ≡ size)
made_of size volume guard (Ok found) tree is =
    let same : tree ≡ tree_of size volume 0 guard found = sym (ap (tree_or tree) is) in
    (ap (λ (t : TreeValue). t.guard) same, ap (λ (t : TreeValue). t.image_len) same)
made_of size volume guard (Err refusal) tree is = absurd cc

behind_test : (test : Bool) (given : Result TreeValue Refusal) (refusal : Refusal) (tree : TreeValue) → (if test then given else Err refusal) ≡ Ok tree → given ≡ Ok tree
behind_test true given refusal tree is = is
behind_test false given refusal tree is = absurd cc

module _ (image : List ℕ) (tree : TreeValue) (is : image_tree image ≡ Ok tree) where
  of_volume : volume_tree image_orders image (whole_image (length image)) 0 ≡ Ok tree
  unfolding image_tree
  of_volume = behind_test (nat_le (length image) LONGEST_IMAGE) (volume_tree image_orders image (whole_image (length image)) 0) (Limit Image LONGEST_IMAGE) tree is

  facts : (tree.guard ≡ guard_of image_orders image (whole_image (length image)) 0) × (tree.image_len ≡ length image)
  unfolding volume_tree
  facts =
      made_of (length image) (whole_image (length image)) (guard_of image_orders image (whole_image (length image)) 0)
      (result_of image (volume_at image_orders (length image) (whole_image (length image)) 0)) tree of_volume

  pub tree-guard : tree.guard ≡ image_guard image
  unfolding image_guard
  tree-guard = facts.0
