-- Boot sectors: sizes of records, the tests one after the other, and what holds of a volume that passes them.
use Rattle.std.proofs.Common.{◌≡◌, ℕ, ◌+◌, ◌*◌, ◌/◌, ◌%◌, ◌^◌, ◌<◌, ◌≤◌, min, Bool, true, false, ℤ, pos, negsuc, List, Option, Some, None, IfSome, Result, Ok, Err, arith, ap, sym, ◌∙◌, subst, ⊎_elim, refl}
use Rattle.std.specs.Prelude.{nat_lt, nat_le, if◌then◌else◌, slice_index}
use Rattle.std.specs.Int.{w8, cast_signed, cast_unsigned}
use Rattle.std.proofs.lemmas.Int.{of_z-to_z}
use Rattle.std.proofs.Math.Pow.{pow-lt, pow_mono}
use Rattle.std.proofs.Math.Nat.{div-mul-le_self, mul-le-mul_left}
use Rattle.std.proofs.lemmas.Bool.{and_parts, cases_lt, leb-true, leb-false, ltb-true, lt-leb, le-leb}
use Rattle.std.proofs.lemmas.Bool.Decides.{nat_tests}
use lib.Signed.{le_z}
use lib.IntN.{nat_abs}
use Rattle.bytes_defs.specs.Bytes.{part}
use Rattle.bytes_defs.specs.declared.order.Order.TheVariants.{Little}
use Rattle.bytes_defs.specs.Numbers.{number_at, little_signed_at}
use Rattle.bytes_defs.proofs.NumberLaws.{signed_at_number}
use Rattle.image_defs.specs.Ask.{Ask, result_of, check, ◌>>◌}
use Rattle.image_defs.proofs.Results.{result_check_true, result_check_false}
use Rattle.fault_defs.specs.declared.Sort.TheVariants.{BootField}
use Rattle.fault_defs.specs.declared.What.TheVariants.{BootGeometry}
use Rattle.fault_defs.specs.declared.Refusal.{Refusal}
use Rattle.fault_defs.specs.declared.Refusal.TheVariants.{NotThis, Damaged, Unsupported, Limit}
use Rattle.rx_store.specs.declared.read_fault.ReadFault.{ReadFault}
use Rattle.rx_store.specs.Answers.{Answers}
use Rattle.rx_store.specs.ReadFaults.{fault_of}
use Rattle.ntfs_volume_defs.specs.declared.boot.Boot.{Boot}
use Rattle.ntfs_volume_defs.proofs.OneOf.{one_of_holds}
use Rattle.ntfs_volume_defs.specs.Boot.{is_boot_sector, is_one_of, is_total, sector_size, sectors_in_cluster, total_sectors, cluster_size, size_of_record, record_size_of, first_mft_cluster, clusters_of, boot_of, boot_at}
use Rattle.ntfs_boot.specs.Sector.{sector_sizes, cluster_counts, record_sizes, cluster_sizes, placed_boot, sector_boot, IsSoundBoot, IsBootRefusal}

-- ---- the size of a record

pub positive_size : (cluster : ℕ) (size : ℤ) → le_z (pos 0) size ≡ true → nat_abs size * cluster ≡ size_of_record cluster size
positive_size cluster (pos n) is = refl
positive_size cluster (negsuc n) is = absurd cc

pub negative_size : (cluster : ℕ) (size : ℤ) → le_z (pos 0) size ≡ false → 2 ^ nat_abs size ≡ size_of_record cluster size
negative_size cluster (pos n) is = absurd (omega (arith, leb-false 0 n is))
negative_size cluster (negsuc n) is = refl

large_is_none : (size : ℕ) → 4096 < size → is_one_of record_sizes size ≡ false
large_is_none size large = grind (arith, nat_tests)

pub power_size : (n : ℕ) → is_one_of record_sizes ((1 * 2 ^ min n 63) % 18446744073709551616) ≡ is_one_of record_sizes (2 ^ n)
power_size n =
    ⊎_elim
    (λ small.
    let same : min n 63 ≡ n = omega (arith, small) in
    let fits : 2 ^ n < 2 ^ 64 = pow-lt small in
    let whole : (1 * 2 ^ n) % 18446744073709551616 ≡ 2 ^ n = omega (arith, fits) in
    ap (λ m. is_one_of record_sizes ((1 * 2 ^ m) % 18446744073709551616)) same ∙ ap (is_one_of record_sizes) whole)
    (λ large.
    let last : min n 63 ≡ 63 = omega (arith, large) in
    let wide : 2 ^ 64 ≤ 2 ^ n = pow_mono large in
    ap (λ m. is_one_of record_sizes ((1 * 2 ^ m) % 18446744073709551616)) last ∙ sym (large_is_none (2 ^ n) (omega (arith, wide))))
    (cases_lt n 64)

byte_number : (bytes : List ℕ) (at : ℕ) → number_at Little 1 bytes at ≡ slice_index bytes at
unfolding number_at
byte_number bytes at = omega arith

pub signed_byte : (bytes : List ℕ) (at : ℕ) → little_signed_at w8 bytes at ≡ cast_signed w8 (slice_index bytes at)
signed_byte bytes at = signed_at_number Little w8 bytes at ∙ ap (cast_signed w8) (byte_number bytes at)

pub record_size_is : (bytes : List ℕ) (sector sectors : ℕ) (size : ℤ) → sector ≡ sector_size bytes → sectors ≡ sectors_in_cluster bytes → size ≡ cast_signed w8 (slice_index bytes 0x40) → slice_index bytes 0x40 < 256
    → size_of_record (sector * sectors) (cast_signed w8 (cast_unsigned w8 size)) ≡ record_size_of bytes
record_size_is bytes sector sectors size sector_is sectors_is size_is small =
    ap (λ z. size_of_record (sector * sectors) (cast_signed w8 (cast_unsigned w8 z))) size_is
    ∙ ap (λ n. size_of_record (sector * sectors) (cast_signed w8 n)) (of_z-to_z w8 (slice_index bytes 0x40) small)
    ∙ ap (size_of_record (sector * sectors)) (sym (signed_byte bytes 0x40))
    ∙ ap (λ n. size_of_record (n * sectors) (little_signed_at w8 bytes 0x40)) sector_is
    ∙ ap (λ n. size_of_record (sector_size bytes * n) (little_signed_at w8 bytes 0x40)) sectors_is

-- ---- the tests

pub record AreSizes (bytes : List ℕ) : Type 0 where
  pub magic : is_boot_sector bytes ≡ true
  pub sector : is_one_of sector_sizes (sector_size bytes) ≡ true
  pub count : is_one_of cluster_counts (sectors_in_cluster bytes) ≡ true

nested : (magic sector count size : Bool) (at : ℕ) (placed : Result Boot Refusal) → Result Boot Refusal
nested magic sector count size at placed =
    if magic
    then (if sector
    then (if count
    then (if size then placed else Err (Unsupported BootGeometry (at + 0x40)))
    else Err (Unsupported BootGeometry (at + 0x0D)))
    else Err (Unsupported BootGeometry (at + 0x0B)))
    else Err NotThis

pub sizes_pass : (at len : ℕ) (bytes : List ℕ) → AreSizes bytes → is_one_of record_sizes (record_size_of bytes) ≡ true → sector_boot at len bytes ≡ placed_boot at len bytes
unfolding sector_boot nested
sizes_pass at len bytes are size =
    ap (λ test. nested test (is_one_of sector_sizes (sector_size bytes)) (is_one_of cluster_counts (sectors_in_cluster bytes)) (is_one_of record_sizes (record_size_of bytes)) at (placed_boot at len bytes)) are.magic
    ∙ ap (λ test. nested true test (is_one_of cluster_counts (sectors_in_cluster bytes)) (is_one_of record_sizes (record_size_of bytes)) at (placed_boot at len bytes)) are.sector
    ∙ ap (λ test. nested true true test (is_one_of record_sizes (record_size_of bytes)) at (placed_boot at len bytes)) are.count
    ∙ ap (λ test. nested true true true test at (placed_boot at len bytes)) size

pub size_fails : (at len : ℕ) (bytes : List ℕ) → AreSizes bytes → is_one_of record_sizes (record_size_of bytes) ≡ false → sector_boot at len bytes ≡ Err (Unsupported BootGeometry (at + 0x40))
unfolding sector_boot nested
size_fails at len bytes are size =
    ap (λ test. nested test (is_one_of sector_sizes (sector_size bytes)) (is_one_of cluster_counts (sectors_in_cluster bytes)) (is_one_of record_sizes (record_size_of bytes)) at (placed_boot at len bytes)) are.magic
    ∙ ap (λ test. nested true test (is_one_of cluster_counts (sectors_in_cluster bytes)) (is_one_of record_sizes (record_size_of bytes)) at (placed_boot at len bytes)) are.sector
    ∙ ap (λ test. nested true true test (is_one_of record_sizes (record_size_of bytes)) at (placed_boot at len bytes)) are.count
    ∙ ap (λ test. nested true true true test at (placed_boot at len bytes)) size

-- ---- the program

tested : {X : Type 0} (image : List ℕ) (test : Bool) (fault : Refusal) (next : Ask Refusal X) → result_of image (check test fault >> next) ≡ (if test then result_of image next else Err fault)
tested image true fault next = refl
tested image false fault next = refl

pub short_volume : (image : List ℕ) (at len : ℕ) → len < 512 → result_of image (boot_at at len) ≡ Err NotThis
unfolding boot_at
short_volume image at len short = result_check_false image (nat_le 512 len) NotThis _ (lt-leb 512 len short)

pub boot_run : (image : List ℕ) (at len : ℕ) → 512 ≤ len → result_of image (boot_at at len) ≡ sector_boot at len (part image at 512)
unfolding boot_at sector_boot
boot_run image at len long =
    let bytes = part image at 512 in
    result_check_true image (nat_le 512 len) NotThis _ (le-leb 512 len long)
    ∙ tested image (is_boot_sector bytes) NotThis _
    ∙ ap (λ (rest : Result Boot Refusal). if is_boot_sector bytes then rest else Err NotThis)
    (tested image (is_one_of sector_sizes (sector_size bytes)) (Unsupported BootGeometry (at + 0x0B)) _
    ∙ ap (λ (rest : Result Boot Refusal). if is_one_of sector_sizes (sector_size bytes) then rest else Err (Unsupported BootGeometry (at + 0x0B)))
    (tested image (is_one_of cluster_counts (sectors_in_cluster bytes)) (Unsupported BootGeometry (at + 0x0D)) _
    ∙ ap (λ (rest : Result Boot Refusal). if is_one_of cluster_counts (sectors_in_cluster bytes) then rest else Err (Unsupported BootGeometry (at + 0x0D)))
    (tested image (is_one_of record_sizes (record_size_of bytes)) (Unsupported BootGeometry (at + 0x40)) _
    ∙ ap (λ (rest : Result Boot Refusal). if is_one_of record_sizes (record_size_of bytes) then rest else Err (Unsupported BootGeometry (at + 0x40)))
    (tested image (is_total len bytes) (Damaged BootField (at + 0x28)) _
    ∙ ap (λ (rest : Result Boot Refusal). if is_total len bytes then rest else Err (Damaged BootField (at + 0x28)))
    (tested image (nat_lt (first_mft_cluster bytes) (clusters_of bytes)) (Damaged BootField (at + 0x30)) _)))))

-- ---- what holds of a volume that is found

is_cluster : (sector sectors : ℕ) → is_one_of sector_sizes sector ≡ true → is_one_of cluster_counts sectors ≡ true → is_one_of cluster_sizes (sector * sectors) ≡ true
is_cluster sector sectors first second =
    one_of_holds (λ sector. is_one_of cluster_sizes (sector * sectors) ≡ true) sector_sizes (
      one_of_holds (λ sectors. is_one_of cluster_sizes (512 * sectors) ≡ true) cluster_counts (refl, (refl, (refl, (refl, (refl, (refl, (refl, (refl, tt)))))))) sectors second,
      (
        one_of_holds (λ sectors. is_one_of cluster_sizes (1024 * sectors) ≡ true) cluster_counts (refl, (refl, (refl, (refl, (refl, (refl, (refl, (refl, tt)))))))) sectors second,
        (
          one_of_holds (λ sectors. is_one_of cluster_sizes (2048 * sectors) ≡ true) cluster_counts (refl, (refl, (refl, (refl, (refl, (refl, (refl, (refl, tt)))))))) sectors second,
          (one_of_holds (λ sectors. is_one_of cluster_sizes (4096 * sectors) ≡ true) cluster_counts (refl, (refl, (refl, (refl, (refl, (refl, (refl, (refl, tt)))))))) sectors second, tt),
        ),
      ),
    ) sector first

clusters_inside : (total sector sectors len : ℕ) → total * sector ≤ len → total / sectors * (sector * sectors) ≤ len
clusters_inside total sector sectors len fits =
    let whole : total / sectors * sectors ≤ total = div-mul-le_self total sectors in
    let wide : sector * (total / sectors * sectors) ≤ sector * total = mul-le-mul_left sector whole in
    omega (arith, wide, fits)

then_gives : {X : Type 0} (test : Bool) (refusal : Refusal) (result : Result X Refusal) (x : X) → (if test then result else Err refusal) ≡ Ok x → (test ≡ true) × (result ≡ Ok x)
then_gives true refusal result x gives = (refl, gives)
then_gives false refusal result x gives = absurd cc

placed_sound : (at len : ℕ) (bytes : List ℕ) (boot : Boot) → is_one_of cluster_sizes (cluster_size bytes) ≡ true → is_one_of record_sizes (record_size_of bytes) ≡ true → placed_boot at len bytes ≡ Ok boot
    → IsSoundBoot at len boot
unfolding boot_of
placed_sound at len bytes boot cluster size gives =
    let total = then_gives (is_total len bytes) (Damaged BootField (at + 0x28)) _ boot gives in
    let first = then_gives (nat_lt (first_mft_cluster bytes) (clusters_of bytes)) (Damaged BootField (at + 0x30)) (Ok (boot_of at len bytes)) boot total.1 in
    let fits = and_parts (nat_lt 0 (total_sectors bytes)) (nat_le (total_sectors bytes * sector_size bytes) len) total.0 in
    let same : boot_of at len bytes ≡ boot = cc (first.1) in
    subst (IsSoundBoot at len) same (record {
      at_is = refl;
      len_is = refl;
      cluster = cluster;
      record_size = size;
      inside = clusters_inside (total_sectors bytes) (sector_size bytes) (sectors_in_cluster bytes) len (leb-true _ _ fits.1);
      mft_inside = ltb-true _ _ first.0;
    })

pub sound_boot : (at len : ℕ) (bytes : List ℕ) (boot : Boot) → sector_boot at len bytes ≡ Ok boot → IsSoundBoot at len boot
unfolding sector_boot
sound_boot at len bytes boot gives =
    let magic = then_gives (is_boot_sector bytes) NotThis _ boot gives in
    let sector = then_gives (is_one_of sector_sizes (sector_size bytes)) (Unsupported BootGeometry (at + 0x0B)) _ boot magic.1 in
    let count = then_gives (is_one_of cluster_counts (sectors_in_cluster bytes)) (Unsupported BootGeometry (at + 0x0D)) _ boot sector.1 in
    let size = then_gives (is_one_of record_sizes (record_size_of bytes)) (Unsupported BootGeometry (at + 0x40)) _ boot count.1 in
    placed_sound at len bytes boot (is_cluster (sector_size bytes) (sectors_in_cluster bytes) sector.0 count.0) size.0 size.1

-- a refusal of tests, one behind the other, is that of one of them
else_refuses : (P : Refusal → Type 0) (test : Bool) (own : Refusal) (result : Result Boot Refusal) (refusal : Refusal) → P own → (result ≡ Err refusal → P refusal)
    → (if test then result else Err own) ≡ Err refusal → P refusal
else_refuses P true own result refusal first later refuses = later refuses
else_refuses P false own result refusal first later refuses = let same : own ≡ refusal = cc in subst P same first

pub refusal_of_boot : (at len : ℕ) (bytes : List ℕ) (refusal : Refusal) → sector_boot at len bytes ≡ Err refusal → IsBootRefusal (fault_of refusal)
unfolding sector_boot
refusal_of_boot at len bytes refusal refuses =
    let P : Refusal → Type 0 = λ refusal. IsBootRefusal (fault_of refusal) in
    let geometry = Unsupported BootGeometry in
    else_refuses P (is_boot_sector bytes) NotThis _ refusal tt
    (λ refuses. else_refuses P (is_one_of sector_sizes (sector_size bytes)) (Unsupported BootGeometry (at + 0x0B)) _ refusal refl
    (λ refuses. else_refuses P (is_one_of cluster_counts (sectors_in_cluster bytes)) (Unsupported BootGeometry (at + 0x0D)) _ refusal refl
    (λ refuses. else_refuses P (is_one_of record_sizes (record_size_of bytes)) (Unsupported BootGeometry (at + 0x40)) _ refusal refl
    (λ refuses. else_refuses P (is_total len bytes) (Damaged BootField (at + 0x28)) _ refusal refl
    (λ refuses. else_refuses P (nat_lt (first_mft_cluster bytes) (clusters_of bytes)) (Damaged BootField (at + 0x30)) _ refusal refl (λ given. absurd cc) refuses) refuses) refuses) refuses) refuses) refuses

-- ---- what is told

pub told_all : {B : List ℕ → Type 0} (told : Option (List ℕ)) → ((image : List ℕ) → B image) → IfSome told B
told_all None holds = tt
told_all (Some image) holds = holds image

pub told_map : {A B : List ℕ → Type 0} (told : Option (List ℕ)) → IfSome told A → ((image : List ℕ) → A image → B image) → IfSome told B
told_map None first follows = tt
told_map (Some image) first follows = follows image first

-- a refusal of the definitions is what a reader hands on
pub answers_refusal : {X : Type 0} (refusal : Refusal) (fault : ReadFault) (given : Result X Refusal) → given ≡ Err refusal → fault ≡ fault_of refusal → Answers {X = X} (Err fault) given
answers_refusal {X = X} refusal fault given is same = subst (λ fault. Answers {X = X} (Err fault) given) (sym same) (by_refusal refusal is)
  where
    by_refusal : (refusal : Refusal) → given ≡ Err refusal → Answers {X = X} (Err (fault_of refusal)) given
    by_refusal NotThis is = is
    by_refusal (Damaged sort place) is = is
    by_refusal (Unsupported what place) is = is
    by_refusal (Limit bound number) is = is
