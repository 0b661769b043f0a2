-- On which bytes a tree rests.
use Rattle.std.specs.Prelude.{◌≡◌, ℕ, Ok, List, [], ◌∷◌}
use Rattle.range_defs.specs.declared.Range.{Range}
use Rattle.bytes_defs.specs.declared.order.Order.TheVariants.{Little}
use Rattle.image_defs.specs.Agreement.{AgreeOn}
use Rattle.rx_tree.specs.TreeValue.{TreeValue}
use Rattle.ufs_volume_defs.specs.Volume.{volume_tree}

-- each image of the same length and with the same bytes in the guard has the tree too
abbrev pub RestsOnGuard : Range → ℕ → TreeValue → List ℕ → Type 0
RestsOnGuard volume number tree image = (other : List ℕ) → AgreeOn tree.guard image other → volume_tree (Little ∷ []) other volume number ≡ Ok tree
