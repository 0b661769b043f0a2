-- The tree of an image rests on the image's length and on the bytes of the guard alone, and so does whether it is of another kind.
use Rattle.std.specs.Prelude.{◌≡◌, ℕ, List}
use Rattle.image_defs.specs.Agreement.{AgreeOn}
use Rattle.tree_defs.specs.Kind.{other_kind}
use Rattle.tree_defs.specs.ImageTree.{image_guard, image_tree}

-- the second image has the tree, or the refusal, of the first, its guard, and its kind
pub record ReadsTheSame (a b : List ℕ) : Type 0 where
  pub tree : image_tree b ≡ image_tree a
  pub guard : image_guard b ≡ image_guard a
  pub kind : other_kind b ≡ other_kind a

-- an image of the same length and with the same bytes in the guard reads the same
abbrev pub ImageFootprintLaw : Type 0
ImageFootprintLaw = (a b : List ℕ) → AgreeOn (image_guard a) a b → ReadsTheSame a b
