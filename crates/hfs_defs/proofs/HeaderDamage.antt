-- What refuses a header is a clause of it that is false at its place, and none is false of one that passes.
use Rattle.std.specs.Prelude.{◌≡◌, ◌⊎◌, ℕ, ◌+◌, ◌*◌, ◌<◌, ◌≤◌, Bool, true, false, not, nat_le, nat_lt, if◌then◌else◌, Some, None, Result, Ok, Err, List, refl}
use Rattle.std.proofs.Common.{ap, sym, ◌∙◌, subst, arith, inl, inr, ⊎_elim}
use Rattle.std.proofs.lemmas.Bool.{true≢false, leb-true, leb-false, ltb-true, ltb-false, le-leb}
use Rattle.bytes_defs.specs.Bytes.{part}
use Rattle.image_defs.specs.Ask.{result_of}
use Rattle.image_defs.proofs.Looks.{check_gives, check_refuses}
use Rattle.image_defs.proofs.Results.{result_given, result_check_false, result_check_true}
use Rattle.hfs_defs.specs.Damage.{IsDamage}
use Rattle.hfs_defs.specs.Header.{header_of, is_magic, is_block_size, wrong_field, checked, volume_header}
use Rattle.hfs_defs.specs.HeaderDamage.{HasMagic, header_in, IsFalseInHeader, ShortVolume, OtherBlockSize, BlocksPassVolume, HeaderLaw}
use Rattle.fault_defs.specs.declared.Refusal.{Refusal}
use Rattle.fault_defs.specs.declared.Refusal.TheVariants.{NotThis, Damaged}
use Rattle.fault_defs.specs.declared.Sort.{Sort}
use Rattle.fault_defs.specs.declared.Sort.TheVariants.{HeaderField}
use Rattle.hfs_defs.specs.declared.header.Header.{Header}

same_at : (image : List ℕ) (at len : ℕ) → (header_in image at len).at ≡ at
unfolding header_of
same_at image at len = refl

same_len : (image : List ℕ) (at len : ℕ) → (header_in image at len).len ≡ len
unfolding header_of
same_len image at len = refl

same_error : (one other : Refusal) → (let a : Result Header Refusal = Err one in let b : Result Header Refusal = Err other in a ≡ b) → one ≡ other
same_error one other same = cc

same_value : (one other : Header) → (let a : Result Header Refusal = Ok one in let b : Result Header Refusal = Ok other in a ≡ b) → one ≡ other
same_value one other same = cc

header_refused : (image : List ℕ) (at len : ℕ) (fault : Refusal) → result_of image (volume_header at len) ≡ Err fault
    → ((NotThis ≡ fault) × (HasMagic image at len → ⊥)) ⊎ (HasMagic image at len × IsDamage (IsFalseInHeader image at len) fault)
unfolding volume_header wrong_field
header_refused image at len fault is =
    let header : Header = header_in image at len in
    let P : Refusal → Type 0 = IsDamage (IsFalseInHeader image at len) in
    ⊎_elim (λ short. inl (short.1, λ magic. absurd (true≢false (sym (le-leb 1028 len magic.enough) ∙ short.0))))
    (λ enough. ⊎_elim (λ other. inl (other.1, λ magic. absurd (true≢false (sym magic.fits ∙ other.0))))
    (λ fits. inr (
      record { enough = leb-true 1028 len enough.0; fits = fits.0 },
      ⊎_elim (λ short. subst P short.1 (ShortVolume (leb-false 2560 len short.0)))
          (λ long. field (leb-true 2560 len long.0) (is_block_size header.block_size) (nat_lt header.len (header.total_blocks * header.block_size)) refl refl (sym (result_given image (checked header (wrong_field header))) ∙ long.1))
          (check_refuses image (nat_le 2560 len) (Damaged HeaderField (at + 1024)) _ fault fits.1),
    ))
    (check_refuses image (is_magic (part image (at + 1024) 4)) NotThis _ fault enough.1))
    (check_refuses image (nat_le 1028 len) NotThis _ fault is)
  where
    field : 2560 ≤ len → (good over : Bool) → is_block_size (header_in image at len).block_size ≡ good
        → nat_lt (header_in image at len).len ((header_in image at len).total_blocks * (header_in image at len).block_size) ≡ over
        → checked (header_in image at len) (if not good then Some 40 else (if over then Some 44 else None)) ≡ Err fault → IsDamage (IsFalseInHeader image at len) fault
    field long false over other its same =
        let place : at + 1064 ≡ (header_in image at len).at + 1024 + 40 = omega (arith, same_at image at len) in
        subst (IsDamage (IsFalseInHeader image at len)) (ap (Damaged HeaderField) place ∙ same_error (Damaged HeaderField ((header_in image at len).at + 1024 + 40)) fault same) (OtherBlockSize long other)
    field long true true good its same =
        let place : at + 1068 ≡ (header_in image at len).at + 1024 + 44 = omega (arith, same_at image at len) in
        let Q : ℕ → Type 0 = λ n. n < (header_in image at len).total_blocks * (header_in image at len).block_size in
        subst (IsDamage (IsFalseInHeader image at len)) (ap (Damaged HeaderField) place ∙ same_error (Damaged HeaderField ((header_in image at len).at + 1024 + 44)) fault same)
        (BlocksPassVolume long (subst Q (same_len image at len) (ltb-true (header_in image at len).len ((header_in image at len).total_blocks * (header_in image at len).block_size) its)))
    field long true false good its same = absurd cc

header_passes : (image : List ℕ) (at len : ℕ) (header : Header) → result_of image (volume_header at len) ≡ Ok header → HasMagic image at len × (header ≡ header_in image at len) × ((sort : Sort) (place : ℕ) → IsFalseInHeader image at len sort place → ⊥)
unfolding volume_header wrong_field
header_passes image at len header is =
    let enough = check_gives image (nat_le 1028 len) NotThis _ header is in
    let fits = check_gives image (is_magic (part image (at + 1024) 4)) NotThis _ header enough.1 in
    let long = check_gives image (nat_le 2560 len) (Damaged HeaderField (at + 1024)) _ header fits.1 in
    let found : Header = header_in image at len in
    let right = fields (is_block_size found.block_size) (nat_lt found.len (found.total_blocks * found.block_size)) (sym (result_given image (checked found (wrong_field found))) ∙ long.1) in
    (record { enough = leb-true 1028 len enough.0; fits = fits.0 }, right.2, none (leb-true 2560 len long.0) right.0 right.1)
  where
    fields : (good over : Bool) → checked (header_in image at len) (if not good then Some 40 else (if over then Some 44 else None)) ≡ Ok header → (good ≡ true) × (over ≡ false) × (header ≡ header_in image at len)
    fields false over same = absurd cc
    fields true true same = absurd cc
    fields true false same = (refl, refl, sym (same_value (header_in image at len) header same))

    none : 2560 ≤ len → is_block_size (header_in image at len).block_size ≡ true
        → nat_lt (header_in image at len).len ((header_in image at len).total_blocks * (header_in image at len).block_size) ≡ false → (sort : Sort) (place : ℕ) → IsFalseInHeader image at len sort place → ⊥
    none long good within sort place (ShortVolume short) = absurd (omega (arith, long, short))
    none long good within sort place (OtherBlockSize enough other) = absurd (true≢false (sym good ∙ other))
    none long good within sort place (BlocksPassVolume enough over) =
        let fits : (header_in image at len).total_blocks * (header_in image at len).block_size ≤ (header_in image at len).len = ltb-false (header_in image at len).len ((header_in image at len).total_blocks * (header_in image at len).block_size) within in
        absurd (omega (arith, fits, over, same_len image at len))

-- a volume without the magic is something else
other_volume : (image : List ℕ) (at len : ℕ) → (HasMagic image at len → ⊥) → result_of image (volume_header at len) ≡ Err NotThis
unfolding volume_header
other_volume image at len none = either (nat_le 1028 len) (is_magic (part image (at + 1024) 4)) refl refl
  where
    either : (enough fits : Bool) → nat_le 1028 len ≡ enough → is_magic (part image (at + 1024) 4) ≡ fits → result_of image (volume_header at len) ≡ Err NotThis
    either false fits short its = result_check_false image (nat_le 1028 len) NotThis _ short
    either true false enough other = result_check_true image (nat_le 1028 len) NotThis _ enough ∙ result_check_false image (is_magic (part image (at + 1024) 4)) NotThis _ other
    either true true enough fits = absurd (none (record { enough = leb-true 1028 len enough; fits = fits }))

pub header_law : HeaderLaw
header_law image at len = record {
  other = other_volume image at len;
  refuses = header_refused image at len;
  accepts = header_passes image at len;
}
