-- What the superblock of a volume gives, magic by magic.
use Rattle.std.specs.Prelude.{◌≡◌, ℕ, ◌+◌, ◌-◌, ◌^◌, ◌<◌, ◌≤◌, ◌==◌, ◌&&◌, min, Bool, true, false, if◌then◌else◌, Option, Some, None, IfSome, IfOk, Result, Ok, Err, List, [], ◌∷◌, length, drop}
use Rattle.std.proofs.Common.{ap, sym, subst, ◌∙◌, arith}
use Rattle.std.proofs.lemmas.List.{length-take}
use Rattle.std.proofs.lemmas.Bool.Decides.{nat_tests}
use Rattle.range_defs.specs.declared.Range.{Range}
use Rattle.bytes_defs.specs.Bytes.{part}
use Rattle.bytes_defs.specs.Numbers.{number_at}
use Rattle.bytes_defs.specs.declared.order.Order.{Order}
use Rattle.bytes_defs.specs.declared.order.Order.TheVariants.{Little}
use Rattle.image_defs.specs.Ask.{Stop, result_of}
use Rattle.image_defs.proofs.Results.{result_given}
use Rattle.fault_defs.specs.declared.Refusal.{Refusal}
use Rattle.fault_defs.specs.declared.Refusal.TheVariants.{NotThis}
use Rattle.rx_store.specs.Answers.{Answers}
use Rattle.rx_store.specs.declared.read_fault.ReadFault.{ReadFault}
use Rattle.ufs_inode_defs.specs.Layout.{layout_of}
use Rattle.ufs_inode_defs.specs.Superblock.{superblock_of, wrong_field, super_place, checked_super, super_in, super_or, super_of_1, super_of_2, volume_super}
use Rattle.ufs_inode_defs.specs.declared.superblock.Super.{Super}
use Rattle.ufs_super.specs.Magic.{magic_at, has_magic}

-- ---- the magic

short_part : (bytes : List ℕ) (at len : ℕ) → len < 4 → (length (part bytes at len) == 4) ≡ false
unfolding part
short_part bytes at len short =
    let long = length-take len (drop at bytes) in
    grind (arith, nat_tests)

no_magic : (image : List ℕ) (at len version : ℕ) → len < magic_at version + 4 → false ≡ has_magic image at len version
no_magic image at len version short =
    let none = short_part image (at + magic_at version) (min 4 (len - magic_at version)) (omega arith) in
    let fits : Bool = number_at Little 4 (part image (at + magic_at version) (min 4 (len - magic_at version))) 0 == (layout_of version).magic in
    ap (λ t. t && fits) (sym none)

pub no_magic_told : (told : Option (List ℕ)) (at len version : ℕ) → len < magic_at version + 4 → IfSome told (λ image. false ≡ has_magic image at len version)
no_magic_told None at len version short = tt
no_magic_told (Some image) at len version short = no_magic image at len version short

-- ---- the fields

module _ (at len version : ℕ) (bytes : List ℕ) (sup : Super) (is : sup ≡ superblock_of (record { at = at; len = len }) version Little bytes) where
  begins_at : sup.at ≡ at
  unfolding superblock_of
  begins_at = ap (λ s. s.at) is

  has_length : sup.len ≡ len
  unfolding superblock_of
  has_length = ap (λ s. s.len) is

  has_version : sup.version ≡ version
  unfolding superblock_of
  has_version = ap (λ s. s.version) is

  pub found_at : (result : Result Super ReadFault) → IfOk result (λ found. found ≡ sup) → IfOk result (λ found. found.at ≡ at)
  found_at (Ok found) same = ap (λ s. s.at) same ∙ begins_at
  found_at (Err fault) same = tt

  pub found_length : (result : Result Super ReadFault) → IfOk result (λ found. found ≡ sup) → IfOk result (λ found. found.len ≡ len)
  found_length (Ok found) same = ap (λ s. s.len) same ∙ has_length
  found_length (Err fault) same = tt

  pub found_version : (result : Result Super ReadFault) → IfOk result (λ found. found ≡ sup) → IfOk result (λ found. found.version ≡ version)
  found_version (Ok found) same = ap (λ s. s.version) same ∙ has_version
  found_version (Err fault) same = tt

  pub ends_in_reach : (size : ℕ) → at + len ≤ size → size < 2 ^ 64 → (layout_of version).superblock_at + 1376 ≤ len → super_place sup + 1376 ≤ 18446744073709551615
  ends_in_reach size inside fits whole =
      let place : super_place sup ≡ at + (layout_of version).superblock_at = ap (λ v. sup.at + (layout_of v).superblock_at) has_version ∙ ap (λ n. n + (layout_of version).superblock_at) begins_at in
      omega (arith, place, inside, fits, whole)

  stored : List ℕ → Super
  stored image = superblock_of (record { at = at; len = len }) version Little (part image (at + (layout_of version).superblock_at) 1376)

  fields_give : (image : List ℕ) → result_of image (super_in (record { at = at; len = len }) version Little) ≡ checked_super (stored image) (wrong_field (stored image))
  unfolding super_in stored
  fields_give image = result_given image (checked_super (stored image) (wrong_field (stored image)))

  pub fields_told : (told : Option (List ℕ)) (place : ℕ) (result : Result Super ReadFault) → place ≡ (layout_of version).superblock_at → IfSome told (λ image. bytes ≡ part image (at + place) 1376) → Answers result (checked_super sup (wrong_field sup))
      → IfSome told (λ image. Answers result (result_of image (super_in (record { at = at; len = len }) version Little)))
  unfolding stored
  fields_told None place result here read answer = tt
  fields_told (Some image) place result here read answer =
      let P : Result Super Refusal → Type 0 = λ given. Answers result given in
      subst P (ap (λ s. checked_super s (wrong_field s)) (is ∙ ap (superblock_of (record { at = at; len = len }) version Little) (read ∙ ap (λ from. part image (at + from) 1376) here)) ∙ sym (fields_give image)) answer

-- ---- version by version

-- the value of a test that was made
pub tested : (told : Option (List ℕ)) (has value : Bool) (test : List ℕ → Bool) → has ≡ value → IfSome told (λ image. has ≡ test image) → IfSome told (λ image. value ≡ test image)
tested None has value test is known = tt
tested (Some image) has value test is known = sym is ∙ known

module _ (at len : ℕ) where
  volume : Range
  volume = record { at = at; len = len }

  found : Bool → Option Order
  found fits = if fits then Some Little else None

  first_gives : (image : List ℕ) (fits : Bool) → has_magic image at len 1 ≡ fits → result_of image (volume_super (Little ∷ []) volume) ≡ result_of image (super_or volume 1 (found fits) (super_of_2 (Little ∷ []) volume))
  unfolding volume found volume_super super_of_1
  first_gives image fits is = ap (λ t. result_of image (super_or volume 1 (found t) (super_of_2 (Little ∷ []) volume))) is

  second_gives : (image : List ℕ) (fits : Bool) → has_magic image at len 2 ≡ fits → result_of image (super_of_2 (Little ∷ []) volume) ≡ result_of image (super_or volume 2 (found fits) (Stop NotThis))
  unfolding volume found super_of_2
  second_gives image fits is = ap (λ t. result_of image (super_or volume 2 (found t) (Stop NotThis))) is

  pub first_told : (told later : Option (List ℕ)) (result : Result Super ReadFault) → later ≡ told → IfSome told (λ image. true ≡ has_magic image at len 1)
      → IfSome later (λ image. Answers result (result_of image (super_in (record { at = at; len = len }) 1 Little)))
      → IfSome told (λ image. Answers result (result_of image (volume_super (Little ∷ []) (record { at = at; len = len }))))
  unfolding volume found
  first_told None later result same fits read = tt
  first_told (Some image) later result same fits read =
      let P : Option (List ℕ) → Type 0 = λ told. IfSome told (λ image. Answers result (result_of image (super_in volume 1 Little))) in
      let Q : Result Super Refusal → Type 0 = λ given. Answers result given in
      subst Q (sym (first_gives image true (sym fits))) (subst P same read)

  pub second_told : (told between later : Option (List ℕ)) (result : Result Super ReadFault) → between ≡ told → later ≡ told
      → IfSome told (λ image. false ≡ has_magic image at len 1) → IfSome between (λ image. true ≡ has_magic image at len 2)
      → IfSome later (λ image. Answers result (result_of image (super_in (record { at = at; len = len }) 2 Little)))
      → IfSome told (λ image. Answers result (result_of image (volume_super (Little ∷ []) (record { at = at; len = len }))))
  unfolding volume found
  second_told None between later result alike same other fits read = tt
  second_told (Some image) between later result alike same other fits read =
      let P : Option (List ℕ) → Type 0 = λ told. IfSome told (λ image. Answers result (result_of image (super_in volume 2 Little))) in
      let M : Option (List ℕ) → Type 0 = λ told. IfSome told (λ image. true ≡ has_magic image at len 2) in
      let Q : Result Super Refusal → Type 0 = λ given. Answers result given in
      subst Q (sym (first_gives image false (sym other) ∙ second_gives image true (sym (subst M alike fits)))) (subst P same read)

  pub neither_told : (told between : Option (List ℕ)) → between ≡ told
      → IfSome told (λ image. false ≡ has_magic image at len 1) → IfSome between (λ image. false ≡ has_magic image at len 2)
      → IfSome told (λ image. result_of image (volume_super (Little ∷ []) (record { at = at; len = len })) ≡ Err NotThis)
  unfolding volume found
  neither_told None between alike other none = tt
  neither_told (Some image) between alike other none =
      let M : Option (List ℕ) → Type 0 = λ told. IfSome told (λ image. false ≡ has_magic image at len 2) in
      first_gives image false (sym other) ∙ second_gives image false (sym (subst M alike none))
