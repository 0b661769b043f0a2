-- What refuses a volume is wrong with it, nothing is wrong with one that is read, and one with which nothing is wrong is read.
use Rattle.std.specs.Prelude.{◌≡◌, ℕ, nat_le, Result, Ok, Err, List, length, refl}
use Rattle.std.proofs.Common.{⊎_elim}
use Rattle.range_defs.specs.declared.Range.{Range}
use Rattle.range_defs.specs.declared.TheConstants.{LONGEST_IMAGE}
use Rattle.bytes_defs.specs.declared.order.Order.{Order}
use Rattle.image_defs.specs.Ask.{result_of, check, ◌>>◌}
use Rattle.image_defs.proofs.Results.{result_bind_err}
use Rattle.fault_defs.specs.declared.Refusal.{Refusal}
use Rattle.fault_defs.specs.declared.Refusal.TheVariants.{NotThis, Limit}
use Rattle.fault_defs.specs.declared.Bound.TheVariants.{Image}
use Rattle.ufs_inode_defs.specs.Superblock.{volume_super}
use Rattle.ufs_volume_defs.specs.Volume.{FoundVolume, files_below, volume_at}
use Rattle.ufs_damage_defs.specs.Damage.{HasMagic, IsWrong, UfsDamageLaw}
use Rattle.ufs_damage_defs.proofs.SuperDamage.{says_other, magics}
use Rattle.ufs_damage_defs.proofs.Refused.{volume_refused}
use Rattle.ufs_damage_defs.proofs.Accepted.{volume_accepted}

module _ (orders : List Order) (image : List ℕ) (volume : Range) (number : ℕ) where
  other_volume : ((version : ℕ) (order : Order) → HasMagic orders image volume version order → ⊥) → result_of image (volume_at orders (length image) volume number) ≡ Err NotThis
  unfolding volume_at
  other_volume none =
      ⊎_elim
      (λ some. absurd (none some.version some.order some.magic))
      (λ nothing. result_bind_err image (volume_super orders volume) (λ sup. check (nat_le (length image) LONGEST_IMAGE) (Limit Image LONGEST_IMAGE) >> files_below sup number) NotThis (says_other orders image volume nothing.0 nothing.1))
      (magics orders image volume)

  complete : (version : ℕ) (order : Order) → HasMagic orders image volume version order → ((refusal : Refusal) → IsWrong orders image volume number refusal → ⊥)
      → (found : FoundVolume) × (result_of image (volume_at orders (length image) volume number) ≡ Ok found)
  complete version order magic none = either (result_of image (volume_at orders (length image) volume number)) refl
    where
      either : (result : Result FoundVolume Refusal) → result_of image (volume_at orders (length image) volume number) ≡ result
          → (found : FoundVolume) × (result_of image (volume_at orders (length image) volume number) ≡ Ok found)
      either (Ok found) is = (found, is)
      either (Err refusal) is = absurd (none refusal (volume_refused orders image volume number version order refusal magic is))

pub ufs_damage_law : UfsDamageLaw
ufs_damage_law orders image volume number = record {
  other = other_volume orders image volume number;
  refuses = volume_refused orders image volume number;
  accepts = volume_accepted orders image volume number;
  complete = complete orders image volume number;
}
