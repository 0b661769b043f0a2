-- A volume that isn't read breaks a rule.
use Rattle.std.specs.Prelude.{◌≡◌, ℕ, ◌<◌, nat_le, Ok, Err, List, length, sum_by}
use Rattle.std.proofs.Common.{arith, subst, ⊎_elim}
use Rattle.std.proofs.lemmas.List.Elements.{All-contains}
use Rattle.image_defs.specs.Ask.{Done, result_of, each}
use Rattle.image_defs.proofs.Looks.{bind_refuses, check_refuses}
use Rattle.fault_defs.specs.declared.Bound.TheVariants.{Names, PathBytes, Path, Runs}
use Rattle.fault_defs.specs.declared.Sort.{Sort}
use Rattle.fault_defs.specs.declared.Refusal.{Refusal}
use Rattle.fault_defs.specs.declared.Refusal.TheVariants.{Limit}
use Rattle.ntfs_record_defs.specs.Stored.{count_from}
use Rattle.ntfs_volume_defs.specs.declared.boot.Boot.{Boot}
use Rattle.ntfs_volume_defs.specs.Boot.{boot_at}
use Rattle.ntfs_volume_defs.specs.Slots.{Mft, slots}
use Rattle.ntfs_volume_defs.specs.Mft.{mft_of}
use Rattle.ntfs_volume_defs.specs.Files.{file_of, files_of}
use Rattle.ntfs_volume_defs.specs.Volume.{FoundVolume, all_found, all_paths, piece_count, longest_path, within_limits, volume_with, volume_behind, volume_at}
use Rattle.ntfs_damage_defs.specs.Told.{IsToldBy}
use Rattle.ntfs_damage_defs.specs.Damage.{IsBoot, IsFalseAt}
use Rattle.ntfs_damage_defs.proofs.Told.{not_given}
use Rattle.ntfs_damage_defs.proofs.BootDamage.{boot_refuses}
use Rattle.ntfs_damage_defs.proofs.MapDamage.{mft_refuses}
use Rattle.ntfs_damage_defs.proofs.FileDamage.{file_refuses}
use Rattle.ntfs_damage_defs.proofs.Each.{each_refuses, count_below}

limits_told : (P : Sort → ℕ → Type 0) (image : List ℕ) (volume : FoundVolume) (refusal : Refusal) → result_of image (within_limits volume) ≡ Err refusal → IsToldBy P refusal
unfolding within_limits
limits_told P image volume refusal refuses =
    ⊎_elim (λ pieces. subst (IsToldBy P) pieces.1 tt)
    (λ pieces. ⊎_elim (λ path. subst (IsToldBy P) path.1 tt)
    (λ path. ⊎_elim (λ names. subst (IsToldBy P) names.1 tt)
    (λ names. ⊎_elim (λ bytes. subst (IsToldBy P) bytes.1 tt) (λ bytes. absurd (not_given volume refusal bytes.1))
    (check_refuses image (nat_le (sum_by length (all_paths volume.files)) 1073741824) (Limit PathBytes 1073741824) (λ x. Done volume) refusal names.1))
    (check_refuses image (nat_le (length (all_paths volume.files)) 1000000) (Limit Names 1000000) _ refusal path.1))
    (check_refuses image (nat_le (longest_path (all_paths volume.files)) 65535) (Limit Path 65535) _ refusal pieces.1))
    (check_refuses image (nat_le (piece_count volume.files) 4000000) (Limit Runs 4000000) _ refusal refuses)

pub volume_refuses : (image : List ℕ) (at len : ℕ) (refusal : Refusal) → result_of image (volume_at at len) ≡ Err refusal → IsToldBy (IsFalseAt image at len) refusal
unfolding volume_at files_of
volume_refuses image at len refusal refuses =
    ⊎_elim
    (λ boot. boot_refuses image at len refusal boot)
    (λ boot. ⊎_elim
    (λ mft. mft_refuses image at len boot.0 boot.1 refusal mft)
    (λ mft. ⊎_elim
    (λ files. files_told boot.0 mft.0 boot.1 mft.1 files)
    (λ files. limits_told (IsFalseAt image at len) image (record { mft = mft.0; files = all_found files.0 }) refusal files.2)
    (bind_refuses image (files_of mft.0) (λ files. within_limits (record { mft = mft.0; files = all_found files })) refusal mft.2))
    (bind_refuses image (mft_of boot.0) (volume_with boot.0) refusal boot.2))
    (bind_refuses image (boot_at at len) volume_behind refusal refuses)
  where
    files_told : (boot : Boot) (mft : Mft) → IsBoot image at len boot → result_of image (mft_of boot) ≡ Ok mft → result_of image (each (file_of mft) (count_from 0 (slots mft))) ≡ Err refusal → IsToldBy (IsFalseAt image at len) refusal
    files_told boot mft is_boot mft_is refuses =
        let file = each_refuses image (file_of mft) (count_from 0 (slots mft)) refusal refuses in
        let below = All-contains (λ number. number < slots mft) (count_from 0 (slots mft)) file.item (count_below (slots mft) 0 (slots mft) (omega arith)) file.among in
        file_refuses image at len boot mft file.item is_boot mft_is below refusal file.refuses
