-- What the steps of the reader say of the image.
use Rattle.std.proofs.Common.{◌≡◌, ℕ, ◌<◌, ◌≤◌, Bool, false, Option, Some, None, IfSome, is_some, Result, Ok, Err, IsErr, IsErrAnd, List, [], ◌∷◌, length, sym, ap, ◌∙◌, subst, refl, arith}
use Rattle.range_defs.specs.declared.TheConstants.{LONGEST_IMAGE}
use Rattle.bytes_defs.specs.declared.order.Order.TheVariants.{Little}
use Rattle.fault_defs.specs.declared.Bound.TheVariants.{Image}
use Rattle.rx_store.specs.Answers.{Answers}
use Rattle.rx_store.specs.declared.read_fault.ReadFault.{ReadFault}
use Rattle.rx_store.specs.declared.read_fault.ReadFault.TheVariants.{Device, NoMemory, Limit}
use Rattle.rx_tree.specs.TreeValue.{TreeValue}
use Rattle.ufs_volume_defs.specs.Volume.{volume_tree}
use Rattle.tree_defs.specs.Kind.{other_kind}
use Rattle.tree_defs.specs.ImageTree.{image_tree, whole_image}
use Rattle.tree_defs.proofs.ImageLaws.{too_long, not_too_long}
use Rattle.image_reader.specs.declared.fault.ImageFault.{ImageFault}
use Rattle.image_reader.specs.declared.fault.ImageFault.TheVariants.{Read}
use Rattle.image_reader.specs.Says.{TellsTree}

no_kind : {A : Type 0} (kind : Option A) (other : Bool) → other ≡ is_some kind → other ≡ false → kind ≡ None
no_kind None other is none = refl
no_kind (Some kind) other is none = absurd cc

-- the answer of a reader of volumes, as one of the reader of images
abbrev pub of_image : Result TreeValue ReadFault → Result TreeValue ImageFault
of_image (Ok tree) = Ok tree
of_image (Err fault) = Err (Read fault)

answers_tell : (image : List ℕ) (result : Result TreeValue ReadFault) → other_kind image ≡ None → Answers result (image_tree image) → TellsTree (of_image result) image
answers_tell image (Err Device) none given = tt
answers_tell image (Err NoMemory) none given = tt
answers_tell image other none given = (none, given)

module _ (told behind : Option (List ℕ)) (size : ℕ) (other : Bool) (same : behind ≡ told) (sized : IfSome told (λ image. length image ≡ size))
    (kind : IfSome behind (λ image. other ≡ is_some (other_kind image))) (none : other ≡ false) where
  kind_here : IfSome told (λ image. other ≡ is_some (other_kind image))
  kind_here = subst (λ t. IfSome t (λ image. other ≡ is_some (other_kind image))) same kind

  -- the image is too long
  pub long_tells : LONGEST_IMAGE < size → IfSome told (λ image. TellsTree (Err (Read (Limit Image LONGEST_IMAGE))) image)
  long_tells long = by_told told sized kind_here
    where
      by_told : (told : Option (List ℕ)) → IfSome told (λ image. length image ≡ size) → IfSome told (λ image. other ≡ is_some (other_kind image))
          → IfSome told (λ image. TellsTree (Err (Read (Limit Image LONGEST_IMAGE))) image)
      by_told None sized kind = tt
      by_told (Some image) sized kind = (no_kind (other_kind image) other kind none, too_long image (omega (arith, sized, long)))

  -- it isn't, and its volume was read
  pub volume_tells : (later : Option (List ℕ)) (result : Result TreeValue ReadFault) → size ≤ LONGEST_IMAGE → later ≡ told
      → IfSome later (λ image. Answers result (volume_tree (Little ∷ []) image (record { at = 0; len = size }) 0)) → IfSome told (λ image. TellsTree (of_image result) image)
  volume_tells later result short also gives = by_told told sized kind_here (subst (λ t. IfSome t (λ image. Answers result (volume_tree (Little ∷ []) image (whole_image size) 0))) also gives)
    where
      by_told : (told : Option (List ℕ)) → IfSome told (λ image. length image ≡ size) → IfSome told (λ image. other ≡ is_some (other_kind image))
          → IfSome told (λ image. Answers result (volume_tree (Little ∷ []) image (whole_image size) 0)) → IfSome told (λ image. TellsTree (of_image result) image)
      by_told None sized kind gives = tt
      by_told (Some image) sized kind gives =
          answers_tell image result (no_kind (other_kind image) other kind none)
          (subst (λ given. Answers result given) (ap (λ len. volume_tree (Little ∷ []) image (whole_image len) 0) (sym sized) ∙ sym (not_too_long image (omega (arith, sized, short)))) gives)

-- the reader ends with a fault, handed on by `?`
pub handed_on : (told : Option (List ℕ)) (result : Result TreeValue ImageFault) (fault : ReadFault) → IsErr result → IsErrAnd result (λ other. other ≡ Read fault)
    → IfSome told (λ image. TellsTree (Err (Read fault)) image) → IfSome told (λ image. TellsTree result image)
handed_on told (Ok tree) fault is passed tells = absurd cc
handed_on told (Err other) fault is passed tells = subst (λ f. IfSome told (λ image. TellsTree (Err f) image)) (sym passed) tells
