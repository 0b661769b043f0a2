-- Why an image has no tree is true of it, and an image of which nothing of the kind is true has one.
use Rattle.std.specs.Prelude.{◌≡◌, ℕ, Ok, Err, List, length}
use Rattle.bytes_defs.specs.declared.order.Order.{Order}
use Rattle.rx_tree.specs.TreeValue.{TreeValue}
use Rattle.fault_defs.specs.declared.Refusal.{Refusal}
use Rattle.fault_defs.specs.declared.Refusal.TheVariants.{NotThis}
use Rattle.ufs_damage_defs.specs.Damage.{HasMagic, IsWrong}
use Rattle.tree_defs.specs.ImageTree.{image_orders, whole_image, image_tree}

-- the image has the magic of no version of UFS
abbrev pub HasNoMagic : List ℕ → Type 0
HasNoMagic image = (version : ℕ) (order : Order) → ¬ (HasMagic image_orders image (whole_image (length image)) version order)

-- what a refusal says of an image: it has no magic, or a clause is false at that place, something there isn't supported, or it has
-- more than the limit
abbrev pub IsTrueOf : List ℕ → Refusal → Type 0
IsTrueOf image NotThis = HasNoMagic image
IsTrueOf image refusal = IsWrong image_orders image (whole_image (length image)) 0 refusal

pub record RefusesTruly (image : List ℕ) : Type 0 where
  pub refuses : (refusal : Refusal) → image_tree image ≡ Err refusal → IsTrueOf image refusal
  pub accepts : (tree : TreeValue) (refusal : Refusal) → image_tree image ≡ Ok tree → ¬ (IsTrueOf image refusal)
  pub complete : ((refusal : Refusal) → ¬ (IsTrueOf image refusal)) → (tree : TreeValue) × (image_tree image ≡ Ok tree)

abbrev pub ImageRefusalLaw : Type 0
ImageRefusalLaw = (image : List ℕ) → RefusesTruly image
