-- A tree that was read rests on its guard.
use Rattle.std.specs.Prelude.{◌≡◌, ℕ, Option, Some, None, IfSome, Result, Ok, Err, List, [], ◌∷◌, length}
use Rattle.std.proofs.Common.{ap, sym, ◌∙◌, subst}
use Rattle.range_defs.specs.declared.Range.{Range}
use Rattle.bytes_defs.specs.declared.order.Order.{Order}
use Rattle.bytes_defs.specs.declared.order.Order.TheVariants.{Little}
use Rattle.image_defs.specs.Agreement.{AgreeOn}
use Rattle.image_defs.specs.Ask.{result_of}
use Rattle.image_defs.specs.Results.{with_value}
use Rattle.fault_defs.specs.declared.Refusal.{Refusal}
use Rattle.rx_tree.specs.TreeValue.{TreeValue}
use Rattle.ufs_volume_defs.specs.Volume.{FoundVolume, volume_at, guard_of, tree_of, volume_tree}
use Rattle.ufs_volume_defs.proofs.Footprint.{ufs_footprint_law}
use Rattle.ufs_files.specs.Guarded.{RestsOnGuard}

module _ (image : List ℕ) (volume : Range) (number : ℕ) (tree : TreeValue) where
  abbrev orders : List Order
  orders = Little ∷ []

  own_guard : (result : Result FoundVolume Refusal) → with_value (tree_of (length image) volume number (guard_of orders image volume number)) result ≡ Ok tree → tree.guard ≡ guard_of orders image volume number
  own_guard (Ok found) gives = let same : (t u : TreeValue) → (let x : Result TreeValue Refusal = Ok t in let y : Result TreeValue Refusal = Ok u in x ≡ y) → t ≡ u = λ t u is. cc in ap (λ (t : TreeValue). t.guard) (sym (same _ tree gives))
  own_guard (Err refusal) gives = absurd cc

  guard_is : volume_tree orders image volume number ≡ Ok tree → tree.guard ≡ guard_of orders image volume number
  unfolding volume_tree
  guard_is gives = own_guard (result_of image (volume_at orders (length image) volume number)) gives

  rests : volume_tree orders image volume number ≡ Ok tree → RestsOnGuard volume number tree image
  rests gives = λ other agree.
      let P : List Range → Type 0 = λ guard. AgreeOn guard image other in
      (ufs_footprint_law orders image other volume number (subst P (guard_is gives) agree)).0 ∙ gives

pub rests_told : (told : Option (List ℕ)) (volume : Range) (number : ℕ) (tree : TreeValue) → IfSome told (λ image. volume_tree (Little ∷ []) image volume number ≡ Ok tree) → IfSome told (RestsOnGuard volume number tree)
rests_told None volume number tree gives = tt
rests_told (Some image) volume number tree gives = rests image volume number tree gives
