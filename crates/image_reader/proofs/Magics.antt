-- What the bytes at the places of the magics say of the image.
use Rattle.std.proofs.Common.{◌≡◌, ℕ, ◌+◌, ◌<◌, Bool, true, false, ◌&&◌, ◌||◌, if◌then◌else◌, Option, Some, None, IfSome, is_some, List, [], ◌∷◌, length, take, drop, sym, ap, ◌∙◌, subst, refl, arith}
use Rattle.std.specs.Str.{bytes_eq}
use Rattle.std.proofs.lemmas.Bool.{false_from_ne_true}
use Rattle.std.proofs.lemmas.Slice.Eq.{bytes_eq-Decides}
use Rattle.std.proofs.lemmas.List.{length-take, length-drop}
use Rattle.bytes_defs.specs.Bytes.{part}
use Rattle.rx_tree.specs.declared.volume.FsKind.TheVariants.{Ntfs, HfsPlus}
use Rattle.tree_defs.specs.Kind.{is_ntfs, is_hfs, other_kind}

-- ---- a place that the image lacks

short_part : (image magic : List ℕ) (at len : ℕ) → 0 < length magic → length image < at + length magic → bytes_eq (part image at len) magic ≡ false
unfolding part
short_part image magic at len some short =
    false_from_ne_true (bytes_eq (part image at len) magic)
    (λ equal.
    let same : part image at len ≡ magic = (bytes_eq-Decides (part image at len) magic).0 equal in
    let lengths : length (take len (drop at image)) ≡ length magic = ap length same in
    omega (arith, lengths, length-take len (drop at image), length-drop at image, some, short))

and-false : (test : Bool) → (test && false) ≡ false
and-false true = refl
and-false false = refl

pub no_ntfs : (told : Option (List ℕ)) (size : ℕ) → IfSome told (λ image. length image ≡ size) → size < 512
    → IfSome told (λ image. false ≡ is_ntfs (part image 3 8) (part image 510 2))
no_ntfs None size sized short = tt
no_ntfs (Some image) size sized short =
    let name = bytes_eq (part image 3 8) (78 ∷ 84 ∷ 70 ∷ 83 ∷ 32 ∷ 32 ∷ 32 ∷ 32 ∷ []) in
    sym (ap (λ mark. name && mark) (short_part image (0x55 ∷ 0xAA ∷ []) 510 2 (omega arith) (omega (arith, sized, short))) ∙ and-false name)

pub no_hfs : (told : Option (List ℕ)) (size : ℕ) → IfSome told (λ image. length image ≡ size) → size < 1028
    → IfSome told (λ image. false ≡ is_hfs (part image 1024 4))
no_hfs None size sized short = tt
no_hfs (Some image) size sized short =
    let bytes = part image 1024 4 in
    sym
    (ap (λ test. test || bytes_eq bytes (0x48 ∷ 0x58 ∷ 0 ∷ 5 ∷ [])) (short_part image (0x48 ∷ 0x2B ∷ 0 ∷ 4 ∷ []) 1024 4 (omega arith) (omega (arith, sized, short)))
    ∙ short_part image (0x48 ∷ 0x58 ∷ 0 ∷ 5 ∷ []) 1024 4 (omega arith) (omega (arith, sized, short)))

-- ---- the kind

some_kind : (ntfs hfs : Bool) → is_some (if ntfs then Some Ntfs else (if hfs then Some HfsPlus else None)) ≡ (ntfs || hfs)
some_kind true hfs = refl
some_kind false true = refl
some_kind false false = refl

other_from_magics : (image : List ℕ) → is_some (other_kind image) ≡ (is_ntfs (part image 3 8) (part image 510 2) || is_hfs (part image 1024 4))
unfolding other_kind
other_from_magics image = some_kind (is_ntfs (part image 3 8) (part image 510 2)) (is_hfs (part image 1024 4))

pub kind_told : (told later : Option (List ℕ)) (ntfs hfs answer : Bool) → later ≡ told → IfSome told (λ image. ntfs ≡ is_ntfs (part image 3 8) (part image 510 2))
    → IfSome later (λ image. hfs ≡ is_hfs (part image 1024 4)) → answer ≡ (ntfs || hfs) → IfSome told (λ image. answer ≡ is_some (other_kind image))
kind_told told later ntfs hfs answer same first second is =
    by_told told first (subst (λ t. IfSome t (λ image. hfs ≡ is_hfs (part image 1024 4))) same second)
  where
    by_told : (told : Option (List ℕ)) → IfSome told (λ image. ntfs ≡ is_ntfs (part image 3 8) (part image 510 2)) → IfSome told (λ image. hfs ≡ is_hfs (part image 1024 4))
        → IfSome told (λ image. answer ≡ is_some (other_kind image))
    by_told None first second = tt
    by_told (Some image) first second = is ∙ ap (λ t. t || hfs) first ∙ ap (λ t. is_ntfs (part image 3 8) (part image 510 2) || t) second ∙ sym (other_from_magics image)
