-- A boot sector that is refused breaks a rule; one that is read breaks none, and its sizes are whole sectors.
use Rattle.std.specs.Prelude.{◌≡◌, ℕ, ◌+◌, ◌*◌, ◌/◌, ◌%◌, ◌<◌, ◌≤◌, ◌⊎◌, true, false, nat_le, nat_lt, Err, List, [], ◌∷◌, refl}
use Rattle.std.proofs.Common.{arith, lit≤, ap, ◌∙◌, subst, ⊎_elim, inl, inr}
use Rattle.std.proofs.Math.Nat.{mul-le-mul_left}
use Rattle.std.proofs.lemmas.Bool.{and_parts, and_cases, ltb-true, ltb-false, leb-true, leb-false}
use Rattle.bytes_defs.specs.Bytes.{part}
use Rattle.image_defs.specs.Ask.{Done, result_of}
use Rattle.image_defs.proofs.Looks.{check_gives, check_refuses}
use Rattle.fault_defs.specs.declared.Sort.TheVariants.{BootField}
use Rattle.fault_defs.specs.declared.What.TheVariants.{BootGeometry}
use Rattle.fault_defs.specs.declared.Refusal.{Refusal}
use Rattle.fault_defs.specs.declared.Refusal.TheVariants.{NotThis, Damaged, Unsupported}
use Rattle.ntfs_volume_defs.specs.declared.boot.Boot.{Boot}
use Rattle.ntfs_volume_defs.specs.Boot.{is_boot_sector, is_one_of, is_total, sector_size, sectors_in_cluster, total_sectors, record_size_of, first_mft_cluster, clusters_of, boot_of, boot_at}
use Rattle.ntfs_volume_defs.proofs.OneOf.{one_of_holds}
use Rattle.ntfs_damage_defs.specs.Told.{IsToldBy}
use Rattle.ntfs_damage_defs.specs.Damage.{IsBoot, IsFalseAt, NoSectors, NoFirstCluster}
use Rattle.ntfs_damage_defs.specs.SlotDamage.{HasWholeSectors}
use Rattle.ntfs_damage_defs.proofs.Told.{not_given}

-- ---- sizes that are read

record IsWhole (size : ℕ) : Type 0 where
  whole : size % 512 ≡ 0
  long : 512 ≤ size

whole_sector : (size : ℕ) → is_one_of (512 ∷ 1024 ∷ 2048 ∷ 4096 ∷ []) size ≡ true → IsWhole size
whole_sector size is =
    one_of_holds IsWhole (512 ∷ 1024 ∷ 2048 ∷ 4096 ∷ []) (
      record { whole = refl; long = lit≤ tt },
      (record { whole = refl; long = lit≤ tt }, (record { whole = refl; long = lit≤ tt }, (record { whole = refl; long = lit≤ tt }, tt))),
    ) size is

whole_record : (size : ℕ) → is_one_of (1024 ∷ 4096 ∷ []) size ≡ true → IsWhole size
whole_record size is = one_of_holds IsWhole (1024 ∷ 4096 ∷ []) (record { whole = refl; long = lit≤ tt }, (record { whole = refl; long = lit≤ tt }, tt)) size is

some_sectors : (count : ℕ) → is_one_of (1 ∷ 2 ∷ 4 ∷ 8 ∷ 16 ∷ 32 ∷ 64 ∷ 128 ∷ []) count ≡ true → 1 ≤ count
some_sectors count is =
    one_of_holds (λ n. 1 ≤ n) (1 ∷ 2 ∷ 4 ∷ 8 ∷ 16 ∷ 32 ∷ 64 ∷ 128 ∷ []) (lit≤ tt, (lit≤ tt, (lit≤ tt, (lit≤ tt, (lit≤ tt, (lit≤ tt, (lit≤ tt, (lit≤ tt, tt)))))))) count is

whole_cluster : (sector count : ℕ) → IsWhole sector → 1 ≤ count → IsWhole (sector * count)
whole_cluster sector count sectors some =
    let is : sector ≡ 512 * (sector / 512) = omega (arith, sectors.whole) in
    let product : sector * count ≡ 512 * ((sector / 512) * count) = ap (λ n. n * count) is ∙ omega arith in
    let at_least : sector * 1 ≤ sector * count = mul-le-mul_left sector some in
    record { whole = omega (arith, product); long = omega (arith, at_least, sectors.long) }

-- ---- a boot sector that is read

pub record IsReadBoot (image : List ℕ) (at len : ℕ) (boot : Boot) : Type 0 where
  pub total : is_total len (part image at 512) ≡ true
  pub first : nat_lt (first_mft_cluster (part image at 512)) (clusters_of (part image at 512)) ≡ true
  pub sectors : HasWholeSectors boot

pub boot_is_read : (image : List ℕ) (at len : ℕ) (boot : Boot) → IsBoot image at len boot → IsReadBoot image at len boot
unfolding boot_at boot_of
boot_is_read image at len boot gives =
    let bytes = part image at 512 in
    let long = check_gives image (nat_le 512 len) NotThis _ boot gives in
    let magic = check_gives image (is_boot_sector bytes) NotThis _ boot long.1 in
    let sector = check_gives image (is_one_of (512 ∷ 1024 ∷ 2048 ∷ 4096 ∷ []) (sector_size bytes)) (Unsupported BootGeometry (at + 0x0B)) _ boot magic.1 in
    let count = check_gives image (is_one_of (1 ∷ 2 ∷ 4 ∷ 8 ∷ 16 ∷ 32 ∷ 64 ∷ 128 ∷ []) (sectors_in_cluster bytes)) (Unsupported BootGeometry (at + 0x0D)) _ boot sector.1 in
    let size = check_gives image (is_one_of (1024 ∷ 4096 ∷ []) (record_size_of bytes)) (Unsupported BootGeometry (at + 0x40)) _ boot count.1 in
    let total = check_gives image (is_total len bytes) (Damaged BootField (at + 0x28)) _ boot size.1 in
    let first = check_gives image (nat_lt (first_mft_cluster bytes) (clusters_of bytes)) (Damaged BootField (at + 0x30)) _ boot total.1 in
    let same : boot_of at len bytes ≡ boot = cc (first.1) in
    let cluster = whole_cluster (sector_size bytes) (sectors_in_cluster bytes) (whole_sector (sector_size bytes) sector.0) (some_sectors (sectors_in_cluster bytes) count.0) in
    let record_size = whole_record (record_size_of bytes) size.0 in
    let whole : HasWholeSectors (boot_of at len bytes) = record {
      cluster = cluster.whole;
      some_cluster = omega (arith, cluster.long);
      record_size = record_size.whole;
      long = record_size.long;
    } in
    record { total = total.0; first = first.0; sectors = subst HasWholeSectors same whole }

-- ---- a boot sector that is refused

wrong_total : (len : ℕ) (bytes : List ℕ) → is_total len bytes ≡ false → (total_sectors bytes ≡ 0) ⊎ (len < total_sectors bytes * sector_size bytes)
wrong_total len bytes fails =
    ⊎_elim
    (λ none. let least : total_sectors bytes ≤ 0 = ltb-false 0 (total_sectors bytes) none in inl (omega (arith, least)))
    (λ many. inr (leb-false (total_sectors bytes * sector_size bytes) len many))
    (and_cases (nat_lt 0 (total_sectors bytes)) (nat_le (total_sectors bytes * sector_size bytes) len) fails)

pub total_is_sound : (len : ℕ) (bytes : List ℕ) → is_total len bytes ≡ true → (total_sectors bytes ≡ 0) ⊎ (len < total_sectors bytes * sector_size bytes) → ⊥
total_is_sound len bytes passes wrong =
    let both = and_parts (nat_lt 0 (total_sectors bytes)) (nat_le (total_sectors bytes * sector_size bytes) len) passes in
    let some : 0 < total_sectors bytes = ltb-true 0 (total_sectors bytes) both.0 in
    let fits : total_sectors bytes * sector_size bytes ≤ len = leb-true (total_sectors bytes * sector_size bytes) len both.1 in
    ⊎_elim (λ none. omega (arith, some, none)) (λ many. omega (arith, fits, many)) wrong

pub boot_refuses : (image : List ℕ) (at len : ℕ) (refusal : Refusal) → result_of image (boot_at at len) ≡ Err refusal → IsToldBy (IsFalseAt image at len) refusal
unfolding boot_at
boot_refuses image at len refusal refuses =
    let bytes = part image at 512 in
    let Told : Refusal → Type 0 = IsToldBy (IsFalseAt image at len) in
    ⊎_elim (λ short. subst Told short.1 tt)
    (λ long. ⊎_elim (λ other. subst Told other.1 tt)
    (λ magic. ⊎_elim (λ sector. subst Told sector.1 tt)
    (λ sector. ⊎_elim (λ count. subst Told count.1 tt)
    (λ count. ⊎_elim (λ size. subst Told size.1 tt)
    (λ size. ⊎_elim (λ total. subst Told total.1 (NoSectors magic.0 (wrong_total len bytes total.0)))
    (λ total. ⊎_elim
    (λ first. subst Told first.1 (NoFirstCluster magic.0 (ltb-false (first_mft_cluster bytes) (clusters_of bytes) first.0)))
    (λ first. absurd (not_given (boot_of at len bytes) refusal first.1))
    (check_refuses image (nat_lt (first_mft_cluster bytes) (clusters_of bytes)) (Damaged BootField (at + 0x30)) (λ x. Done (boot_of at len bytes)) refusal total.1))
    (check_refuses image (is_total len bytes) (Damaged BootField (at + 0x28)) _ refusal size.1))
    (check_refuses image (is_one_of (1024 ∷ 4096 ∷ []) (record_size_of bytes)) (Unsupported BootGeometry (at + 0x40)) _ refusal count.1))
    (check_refuses image (is_one_of (1 ∷ 2 ∷ 4 ∷ 8 ∷ 16 ∷ 32 ∷ 64 ∷ 128 ∷ []) (sectors_in_cluster bytes)) (Unsupported BootGeometry (at + 0x0D)) _ refusal sector.1))
    (check_refuses image (is_one_of (512 ∷ 1024 ∷ 2048 ∷ 4096 ∷ []) (sector_size bytes)) (Unsupported BootGeometry (at + 0x0B)) _ refusal magic.1))
    (check_refuses image (is_boot_sector bytes) NotThis _ refusal long.1))
    (check_refuses image (nat_le 512 len) NotThis _ refusal refuses)
