-- The superblock of a volume: which one is read, and what refuses it.
use Rattle.std.specs.Prelude.{◌≡◌, ◌⊎◌, ◌+◌, ℕ, Option, Some, None, Ok, Err, List, refl}
use Rattle.std.proofs.Common.{ap, sym, ◌∙◌, subst, inl, inr, ⊎_elim}
use Rattle.range_defs.specs.declared.Range.{Range}
use Rattle.bytes_defs.specs.declared.order.Order.{Order}
use Rattle.image_defs.specs.Ask.{Stop, result_of}
use Rattle.image_defs.proofs.Results.{result_given}
use Rattle.fault_defs.specs.declared.Refusal.{Refusal}
use Rattle.fault_defs.specs.declared.Refusal.TheVariants.{NotThis, Damaged}
use Rattle.fault_defs.specs.declared.Sort.TheVariants.{SuperField}
use Rattle.ufs_inode_defs.specs.Superblock.{wrong_field, super_place, checked_super, super_in, super_or, super_of_1, super_of_2, volume_super}
use Rattle.ufs_inode_defs.specs.declared.superblock.Super.{Super}
use Rattle.ufs_damage_defs.specs.Damage.{order_of_1, order_of_2, HasMagic, First, Second, stored_super, HasSuper}
use Rattle.ufs_damage_defs.proofs.Walks.{same_value, same_error, not_both}

module _ (orders : List Order) (image : List ℕ) (volume : Range) where
  -- what a superblock that stands in the volume says
  abbrev Says : ℕ → Order → Type 0
  Says version order = result_of image (volume_super orders volume) ≡ checked_super (stored_super image volume version order) (wrong_field (stored_super image volume version order))

  pub says : (version : ℕ) (order : Order) → HasMagic orders image volume version order → Says version order
  unfolding volume_super super_of_1 super_of_2 super_in
  says version order (First o is) =
      ap (λ found. result_of image (super_or volume 1 found (super_of_2 orders volume))) is
      ∙ result_given image (checked_super (stored_super image volume 1 order) (wrong_field (stored_super image volume 1 order)))
  says version order (Second o none is) =
      ap (λ found. result_of image (super_or volume 1 found (super_of_2 orders volume))) none
      ∙ ap (λ found. result_of image (super_or volume 2 found (Stop NotThis))) is
      ∙ result_given image (checked_super (stored_super image volume 2 order) (wrong_field (stored_super image volume 2 order)))

  -- a volume without a magic is something else
  pub says_other : order_of_1 orders image volume ≡ None → order_of_2 orders image volume ≡ None → result_of image (volume_super orders volume) ≡ Err NotThis
  unfolding volume_super super_of_1 super_of_2
  says_other none no_other =
      ap (λ found. result_of image (super_or volume 1 found (super_of_2 orders volume))) none
      ∙ ap (λ found. result_of image (super_or volume 2 found (Stop NotThis))) no_other

  -- a volume has a magic or none
  pub record HasSome : Type 0 where
    pub version : ℕ
    pub order : Order
    pub magic : HasMagic orders image volume version order

  pub magics : HasSome ⊎ ((order_of_1 orders image volume ≡ None) × (order_of_2 orders image volume ≡ None))
  magics = either (order_of_1 orders image volume) (order_of_2 orders image volume) refl refl
    where
      either : (first second : Option Order) → order_of_1 orders image volume ≡ first → order_of_2 orders image volume ≡ second
          → HasSome ⊎ ((order_of_1 orders image volume ≡ None) × (order_of_2 orders image volume ≡ None))
      either (Some order) second is other = inl (record { version = 1; order = order; magic = First order is })
      either None (Some order) none is = inl (record { version = 2; order = order; magic = Second order none is })
      either None None none no_other = inr (none, no_other)

  -- what refuses a superblock is a wrong field
  pub super_refused : (version : ℕ) (order : Order) (e : Refusal) → HasMagic orders image volume version order → result_of image (volume_super orders volume) ≡ Err e
      → (at : ℕ) × (wrong_field (stored_super image volume version order) ≡ Some at) × (Damaged SuperField (super_place (stored_super image volume version order) + at) ≡ e)
  super_refused version order e magic is = either (wrong_field (stored_super image volume version order)) refl (sym (says version order magic) ∙ is)
    where
      either : (wrong : Option ℕ) → wrong_field (stored_super image volume version order) ≡ wrong → checked_super (stored_super image volume version order) wrong ≡ Err e
          → (at : ℕ) × (wrong_field (stored_super image volume version order) ≡ Some at) × (Damaged SuperField (super_place (stored_super image volume version order) + at) ≡ e)
      either None right same = absurd cc
      either (Some at) wrong same = (at, wrong, same_error {X = Super} (Damaged SuperField (super_place (stored_super image volume version order) + at)) e same)

  -- one that is read has none
  pub super_read : (version : ℕ) (order : Order) (sup : Super) → HasMagic orders image volume version order → HasSuper orders image volume sup
      → (wrong_field (stored_super image volume version order) ≡ None) × (stored_super image volume version order ≡ sup)
  super_read version order sup magic is = either (wrong_field (stored_super image volume version order)) refl (sym (says version order magic) ∙ is)
    where
      either : (wrong : Option ℕ) → wrong_field (stored_super image volume version order) ≡ wrong → checked_super (stored_super image volume version order) wrong ≡ Ok sup
          → (wrong_field (stored_super image volume version order) ≡ None) × (stored_super image volume version order ≡ sup)
      either None right same = (right, same_value {E = Refusal} (stored_super image volume version order) sup same)
      either (Some at) wrong same = absurd cc

  -- so nothing is wrong with a superblock that is read
  pub super_sound : (sup : Super) → HasSuper orders image volume sup → wrong_field sup ≡ None
  super_sound sup is =
      ⊎_elim
      (λ some.
      let read = super_read some.version some.order sup some.magic is in
      let P : Super → Type 0 = λ s. wrong_field s ≡ None in
      subst P read.1 read.0)
      (λ none. absurd (not_both sup NotThis (result_of image (volume_super orders volume)) is (says_other none.0 none.1)))
      magics
