-- What a header gives, test by test.
use Rattle.std.specs.Prelude.{◌≡◌, ℕ, ◌+◌, ◌^◌, ◌<◌, ◌≤◌, true, false, nat_le, Option, Some, None, IfSome, IfErr, Result, Ok, Err, List}
use Rattle.std.proofs.Common.{ap, sym, subst, ◌∙◌, arith, ⊎_elim}
use Rattle.std.proofs.lemmas.Bool.{le-leb, lt-leb}
use Rattle.disk_defs.specs.Count.{Faults}
use Rattle.disk_defs.specs.declared.Area.TheVariants.{Image}
use Rattle.bytes_defs.specs.Bytes.{part}
use Rattle.image_defs.specs.Ask.{result_of}
use Rattle.image_defs.proofs.Results.{result_given, result_check_true, result_check_false}
use Rattle.hfs_defs.specs.Header.{is_magic, header_of, wrong_field, checked, volume_header}
use Rattle.hfs_defs.specs.declared.header.Header.{Header}
use Rattle.hfs_defs.proofs.HeaderDamage.{header_law}
use Rattle.hfs_header.specs.Refusals.{IsHeaderRefusal, TellsHeader}
use Rattle.rx_store.specs.Answers.{Answers}
use Rattle.rx_store.specs.ReadFaults.{IsReadCounted}
use Rattle.rx_store.specs.declared.read_fault.ReadFault.{ReadFault}
use Rattle.rx_store.specs.declared.read_fault.ReadFault.TheVariants as read
use Rattle.fault_defs.specs.declared.Refusal.{Refusal}
use Rattle.fault_defs.specs.declared.Refusal.TheVariants.{NotThis, Damaged, Unsupported, Limit}
use Rattle.fault_defs.specs.declared.Sort.TheVariants.{HeaderField}

pub too_short : (image : List ℕ) (at len : ℕ) → len < 1028 → result_of image (volume_header at len) ≡ Err NotThis
unfolding volume_header
too_short image at len short = result_check_false image (nat_le 1028 len) NotThis _ (lt-leb 1028 len short)

pub other_magic : (image : List ℕ) (at len : ℕ) → 1028 ≤ len → is_magic (part image (at + 1024) 4) ≡ false → result_of image (volume_header at len) ≡ Err NotThis
unfolding volume_header
other_magic image at len enough other =
    result_check_true image (nat_le 1028 len) NotThis _ (le-leb 1028 len enough) ∙ result_check_false image (is_magic (part image (at + 1024) 4)) NotThis _ other

pub short_volume : (image : List ℕ) (at len : ℕ) → 1028 ≤ len → is_magic (part image (at + 1024) 4) ≡ true → len < 2560 → result_of image (volume_header at len) ≡ Err (Damaged HeaderField (at + 1024))
unfolding volume_header
short_volume image at len enough fits short =
    result_check_true image (nat_le 1028 len) NotThis _ (le-leb 1028 len enough)
    ∙ result_check_true image (is_magic (part image (at + 1024) 4)) NotThis _ fits
    ∙ result_check_false image (nat_le 2560 len) (Damaged HeaderField (at + 1024)) _ (lt-leb 2560 len short)

pub whole_header : (image : List ℕ) (at len : ℕ) → is_magic (part image (at + 1024) 4) ≡ true → 2560 ≤ len
    → result_of image (volume_header at len) ≡ checked (header_of at len (part image (at + 1024) 512)) (wrong_field (header_of at len (part image (at + 1024) 512)))
unfolding volume_header
whole_header image at len fits long =
    result_check_true image (nat_le 1028 len) NotThis _ (le-leb 1028 len (omega (arith, long)))
    ∙ result_check_true image (is_magic (part image (at + 1024) 4)) NotThis _ fits
    ∙ result_check_true image (nat_le 2560 len) (Damaged HeaderField (at + 1024)) _ (le-leb 2560 len long)
    ∙ result_given image (checked (header_of at len (part image (at + 1024) 512)) (wrong_field (header_of at len (part image (at + 1024) 512))))

-- ---- the same where the image is told

pub short_told : (told : Option (List ℕ)) (at len : ℕ) → len < 1028 → IfSome told (λ image. result_of image (volume_header at len) ≡ Err NotThis)
short_told None at len short = tt
short_told (Some image) at len short = too_short image at len short

pub magic_told : (told : Option (List ℕ)) (magic : List ℕ) (at len : ℕ) → 1028 ≤ len → IfSome told (λ image. magic ≡ part image (at + 1024) 4) → is_magic magic ≡ false
    → IfSome told (λ image. result_of image (volume_header at len) ≡ Err NotThis)
magic_told None magic at len enough read other = tt
magic_told (Some image) magic at len enough read other = other_magic image at len enough (ap is_magic (sym read) ∙ other)

pub length_told : (told : Option (List ℕ)) (magic : List ℕ) (at len : ℕ) → 1028 ≤ len → IfSome told (λ image. magic ≡ part image (at + 1024) 4) → is_magic magic ≡ true → len < 2560
    → IfSome told (λ image. result_of image (volume_header at len) ≡ Err (Damaged HeaderField (at + 1024)))
length_told None magic at len enough read fits short = tt
length_told (Some image) magic at len enough read fits short = short_volume image at len enough (ap is_magic (sym read) ∙ fits) short

pub header_told : (told later : Option (List ℕ)) (magic bytes : List ℕ) (at len : ℕ) (header : Header) (result : Result Header ReadFault) → later ≡ told
    → IfSome told (λ image. magic ≡ part image (at + 1024) 4) → is_magic magic ≡ true → 2560 ≤ len
    → IfSome later (λ image. bytes ≡ part image (at + 1024) 512) → header ≡ header_of at len bytes → Answers result (checked header (wrong_field header))
    → IfSome told (λ image. Answers result (result_of image (volume_header at len)))
header_told None later magic bytes at len header result same read fits long all is answer = tt
header_told (Some image) later magic bytes at len header result same read fits long all is answer =
    let P : Option (List ℕ) → Type 0 = λ told. IfSome told (λ image. bytes ≡ part image (at + 1024) 512) in
    let bytes_are : bytes ≡ part image (at + 1024) 512 = subst P same all in
    let Q : Header → Type 0 = λ h. Answers result (checked h (wrong_field h)) in
    let R : Result Header Refusal → Type 0 = λ given. Answers result given in
    subst R (sym (whole_header image at len (ap is_magic (sym read) ∙ fits) long)) (subst Q (is ∙ ap (header_of at len) bytes_are) answer)

-- ---- places, and counts

pub ends_in_reach : (at len size : ℕ) (bytes : List ℕ) (header : Header) → header ≡ header_of at len bytes → at + len ≤ size → size < 2 ^ 64 → header.at + header.len ≤ 18446744073709551615
unfolding header_of
ends_in_reach at len size bytes header is inside fits =
    let same : header.at ≡ at = ap (λ h. h.at) is in
    let long : header.len ≡ len = ap (λ h. h.len) is in
    omega (arith, same, long, inside, fits)

-- an answer that isn't the device's counts nothing
pub counts_nothing : (result : Result Header ReadFault) (before now : Faults) → (result ≡ Err read.Device → ⊥) → now ≡ before → IsReadCounted Image result before now
counts_nothing (Err read.Device) before now calm same = absurd (calm cc)
counts_nothing other before now calm same = same

-- ---- what an answer says of the volume

tells : (image : List ℕ) (at len : ℕ) (result : Result Header ReadFault) → (result ≡ Err read.NoMemory → ⊥) → Answers result (result_of image (volume_header at len)) → TellsHeader image at len result
tells image at len (Ok header) lean answer = (header_law image at len).accepts header answer
tells image at len (Err read.Device) lean answer = tt
tells image at len (Err read.NoMemory) lean answer = absurd (lean cc)
tells image at len (Err read.NotThis) lean answer = ⊎_elim (λ other. other.1) (λ damage. absurd damage.1) ((header_law image at len).refuses NotThis answer)
tells image at len (Err (read.Damaged sort place)) lean answer = ⊎_elim (λ other. absurd cc) (λ damage. damage) ((header_law image at len).refuses (Damaged sort place) answer)
tells image at len (Err (read.Unsupported what place)) lean answer = ⊎_elim (λ other. absurd cc) (λ damage. damage.1) ((header_law image at len).refuses (Unsupported what place) answer)
tells image at len (Err (read.Limit bound number)) lean answer = ⊎_elim (λ other. absurd cc) (λ damage. damage.1) ((header_law image at len).refuses (Limit bound number) answer)

no_memory : (at : ℕ) → IsHeaderRefusal at read.NoMemory → ⊥
no_memory at refusal = ⊎_elim (λ is. absurd cc) (λ more. ⊎_elim (λ is. absurd cc) (λ more. ⊎_elim (λ is. absurd cc) (λ more. ⊎_elim (λ is. absurd cc) (λ is. absurd cc) more) more) more) refusal

lean : (at : ℕ) (result : Result Header ReadFault) → IfErr result (IsHeaderRefusal at) → result ≡ Err read.NoMemory → ⊥
lean at (Ok header) refusals is = absurd cc
lean at (Err fault) refusals is =
    let P : ReadFault → Type 0 = IsHeaderRefusal at in
    no_memory at (subst P (same_fault fault read.NoMemory is) refusals)
  where
    same_fault : (one other : ReadFault) → (let a : Result Header ReadFault = Err one in let b : Result Header ReadFault = Err other in a ≡ b) → one ≡ other
    same_fault one other same = cc

pub tells_told : (told : Option (List ℕ)) (at len : ℕ) (result : Result Header ReadFault) → IfErr result (IsHeaderRefusal at) → IfSome told (λ image. Answers result (result_of image (volume_header at len)))
    → IfSome told (λ image. TellsHeader image at len result)
tells_told None at len result refusals answer = tt
tells_told (Some image) at len result refusals answer = tells image at len result (lean at result refusals) answer
