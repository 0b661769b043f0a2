-- What refuses a volume is wrong with it.
use Rattle.std.specs.Prelude.{◌≡◌, ℕ, nat_le, None, Result, Ok, Err, List, length}
use Rattle.std.proofs.Common.{subst, ⊎_elim}
use Rattle.std.proofs.lemmas.Bool.{leb-false}
use Rattle.range_defs.specs.declared.Range.{Range}
use Rattle.range_defs.specs.declared.TheConstants.{LONGEST_IMAGE}
use Rattle.bytes_defs.specs.declared.order.Order.{Order}
use Rattle.image_defs.specs.Ask.{Ask, Done, result_of, check, ◌>>=◌, ◌>>◌}
use Rattle.image_defs.proofs.Looks.{bind_refuses, check_refuses}
use Rattle.fault_defs.specs.declared.Refusal.{Refusal}
use Rattle.fault_defs.specs.declared.Refusal.TheVariants.{NotThis, Damaged, Unsupported, Limit}
use Rattle.fault_defs.specs.declared.Bound.TheVariants.{Image}
use Rattle.ufs_inode_defs.specs.Superblock.{wrong_field, volume_super}
use Rattle.ufs_inode_defs.specs.declared.superblock.Super.{Super}
use Rattle.ufs_volume_defs.specs.Names.{volume_names}
use Rattle.ufs_volume_defs.specs.Files.{Filed, named_files}
use Rattle.ufs_volume_defs.specs.Volume.{FoundVolume, files_below, volume_at}
use Rattle.ufs_damage_defs.specs.Damage.{HasMagic, HasSuper, WrongField, FalseIn, UnsupportedIn, LongImage, OverIn, IsWrong}
use Rattle.ufs_damage_defs.proofs.SuperDamage.{super_refused, super_sound}
use Rattle.ufs_damage_defs.proofs.InodeDamage.{IsWrongIn}
use Rattle.ufs_damage_defs.proofs.NameDamage.{names_stop, names_give}
use Rattle.ufs_damage_defs.proofs.FileDamage.{files_stop}

module _ (orders : List Order) (image : List ℕ) (volume : Range) (number : ℕ) where
  -- what is wrong behind a sound superblock is wrong with the volume
  wrong_in : (sup : Super) (e : Refusal) → HasSuper orders image volume sup → IsWrongIn image sup number e → IsWrong orders image volume number e
  wrong_in sup NotThis has wrong = wrong
  wrong_in sup (Damaged sort place) has wrong = FalseIn sup sort place has wrong
  wrong_in sup (Unsupported what place) has wrong = UnsupportedIn sup what place has wrong
  wrong_in sup (Limit bound most) has wrong = OverIn sup bound most has wrong

  never : {X : Type 0} (x : X) (e : Refusal) → (let r : Result X Refusal = Ok x in r ≡ Err e) → ⊥
  never x e same = absurd cc

  below_refused : (sup : Super) (e : Refusal) → wrong_field sup ≡ None → result_of image (files_below sup number) ≡ Err e → IsWrongIn image sup number e
  unfolding files_below
  below_refused sup e sound is =
      let done : Filed → Ask Refusal FoundVolume = λ filed. Done (record { superblock = sup; files = filed.files }) in
      ⊎_elim
      (λ no_names. names_stop image sup number sound e no_names)
      (λ walk. ⊎_elim
      (λ no_files. files_stop image sup number sound walk.0 e (names_give image sup number sound walk.0 walk.1) no_files)
      (λ filed. absurd (never (record { superblock = sup; files = filed.0.files }) e filed.2))
      (bind_refuses image (named_files sup number walk.0.names) done e walk.2))
      (bind_refuses image (volume_names sup) (λ walk. named_files sup number walk.names >>= done) e is)

  pub volume_refused : (version : ℕ) (order : Order) (e : Refusal) → HasMagic orders image volume version order → result_of image (volume_at orders (length image) volume number) ≡ Err e
      → IsWrong orders image volume number e
  unfolding volume_at
  volume_refused version order e magic is =
      ⊎_elim
      (λ no_super.
      let wrong = super_refused orders image volume version order e magic no_super in
      subst (IsWrong orders image volume number) wrong.2 (WrongField version order wrong.0 magic wrong.1))
      (λ sup. ⊎_elim
      (λ long. subst (IsWrong orders image volume number) long.1 (LongImage (leb-false (length image) LONGEST_IMAGE long.0)))
      (λ short. wrong_in sup.0 e sup.1 (below_refused sup.0 e (super_sound orders image volume sup.0 sup.1) short.1))
      (check_refuses image (nat_le (length image) LONGEST_IMAGE) (Limit Image LONGEST_IMAGE) (λ short. files_below sup.0 number) e sup.2))
      (bind_refuses image (volume_super orders volume) (λ sup. check (nat_le (length image) LONGEST_IMAGE) (Limit Image LONGEST_IMAGE) >> files_below sup number) e is)
