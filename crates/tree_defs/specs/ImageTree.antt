-- The tree of an image: that of the one UFS volume that the whole image is. Its guard is the bytes on which the tree rests.
use Rattle.std.specs.Prelude.{ℕ, nat_le, if◌then◌else◌, Result, Err, List, [], ◌∷◌, length}
use Rattle.range_defs.specs.declared.Range.{Range}
use Rattle.range_defs.specs.declared.TheConstants.{LONGEST_IMAGE}
use Rattle.bytes_defs.specs.declared.order.Order.{Order}
use Rattle.bytes_defs.specs.declared.order.Order.TheVariants.{Little}
use Rattle.rx_tree.specs.TreeValue.{TreeValue}
use Rattle.fault_defs.specs.declared.Refusal.{Refusal}
use Rattle.fault_defs.specs.declared.Refusal.TheVariants.{Limit}
use Rattle.fault_defs.specs.declared.Bound.TheVariants.{Image}
use Rattle.ufs_volume_defs.specs.Volume.{guard_of, volume_tree}

-- the orders of bytes in which a volume may have its numbers: the lowest byte first
abbrev pub image_orders : List Order
image_orders = Little ∷ []

-- the range of an image of so many bytes
abbrev pub whole_image : ℕ → Range
whole_image size = record { at = 0; len = size }

-- the guard of an image: the bytes at which one looks for its files
unfoldable pub image_guard : List ℕ → List Range
image_guard image = guard_of image_orders image (whole_image (length image)) 0

-- the tree of an image, or why it has none: first where it is too long
unfoldable pub image_tree : List ℕ → Result TreeValue Refusal
image_tree image =
    if nat_le (length image) LONGEST_IMAGE then volume_tree image_orders image (whole_image (length image)) 0
    else Err (Limit Image LONGEST_IMAGE)
