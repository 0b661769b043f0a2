-- The tree of a volume rests on the image's length and on the bytes of the guard alone.
use Rattle.std.specs.Prelude.{◌≡◌, ℕ, List, length, refl}
use Rattle.std.proofs.Common.{ap, sym, ◌∙◌, subst}
use Rattle.range_defs.specs.declared.Range.{Range}
use Rattle.bytes_defs.specs.declared.order.Order.{Order}
use Rattle.image_defs.specs.Ask.{result_of}
use Rattle.image_defs.specs.Agreement.{AgreeOn}
use Rattle.image_defs.specs.Results.{with_value}
use Rattle.image_defs.proofs.Guard.{looked_at, result_guarded, looked_at_guarded}
use Rattle.ufs_volume_defs.specs.Volume.{volume_at, guard_of, tree_of, volume_tree, UfsFootprintLaw}

module _ (orders : List Order) (volume : Range) (number : ℕ) where
  guard_of-looked_at : (image : List ℕ) → guard_of orders image volume number ≡ looked_at image (volume_at orders (length image) volume number)
  unfolding guard_of looked_at
  guard_of-looked_at image = refl

  module _ (a b : List ℕ) (agree : AgreeOn (guard_of orders a volume number) a b) where
    agree_looked_at : AgreeOn (looked_at a (volume_at orders (length a) volume number)) a b
    agree_looked_at = let P : List Range → Type 0 = λ ranges. AgreeOn ranges a b in subst P (guard_of-looked_at a) agree

    guard_agrees : guard_of orders b volume number ≡ guard_of orders a volume number
    guard_agrees =
        guard_of-looked_at b
        ∙ ap (λ len. looked_at b (volume_at orders len volume number)) (sym agree.same_length)
        ∙ looked_at_guarded a b (volume_at orders (length a) volume number) agree_looked_at
        ∙ sym (guard_of-looked_at a)

    files_agree : result_of b (volume_at orders (length b) volume number) ≡ result_of a (volume_at orders (length a) volume number)
    files_agree =
        ap (λ len. result_of b (volume_at orders len volume number)) (sym agree.same_length)
        ∙ result_guarded a b (volume_at orders (length a) volume number) agree_looked_at

    tree_agrees : volume_tree orders b volume number ≡ volume_tree orders a volume number
    unfolding volume_tree
    tree_agrees =
        ap (λ len. with_value (tree_of len volume number (guard_of orders b volume number)) (result_of b (volume_at orders (length b) volume number))) (sym agree.same_length)
        ∙ ap (λ guard. with_value (tree_of (length a) volume number guard) (result_of b (volume_at orders (length b) volume number))) guard_agrees
        ∙ ap (λ found. with_value (tree_of (length a) volume number (guard_of orders a volume number)) found) files_agree

pub ufs_footprint_law : UfsFootprintLaw
ufs_footprint_law orders a b volume number agree = (tree_agrees orders volume number a b agree, guard_agrees orders volume number a b agree)
