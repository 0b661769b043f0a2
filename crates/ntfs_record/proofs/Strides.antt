-- The ends of strides, checked one after the other.
use Rattle.std.proofs.Common.{◌≡◌, ℕ, suc, ◌+◌, ◌-◌, ◌*◌, ◌/◌, ◌<◌, Bool, true, false, List, ◌∷◌, length, Result, Ok, Err, arith, ap, ◌∙◌, refl}
use Rattle.std.specs.Prelude.{not}
use Rattle.std.specs.Str.{bytes_eq}
use Rattle.bytes_defs.specs.Bytes.{part}
use Rattle.image_defs.specs.Ask.{result_of, each, check}
use Rattle.image_defs.specs.Results.{with_value}
use Rattle.image_defs.proofs.Results.{result_bind_ok, result_bind_err, result_bind_done}
use Rattle.ntfs_record_defs.specs.declared.fault.RecordFault.{RecordFault}
use Rattle.ntfs_record_defs.specs.declared.fault.RecordFault.TheVariants.{BadFixup}
use Rattle.ntfs_record_defs.specs.Stored.{count_from, ends_with}
use Rattle.ntfs_record_defs.specs.Record.{header_of}
use Rattle.ntfs_record.specs.Mending.{status, ends_check_from}

-- whether the end of a stride is the check number
abbrev pub is_end : List ℕ → ℕ → Bool
is_end bytes stride = bytes_eq (part bytes (512 * stride + 510) 2) (part bytes (header_of bytes).array 2)

status_front : {X : Type 0} (x : X) (result : Result (List X) RecordFault) → status (with_value (λ more. x ∷ more) result) ≡ status result
status_front x (Ok more) = refl
status_front x (Err fault) = refl

counted : (bytes number : List ℕ) (stride count : ℕ) → stride < count
    → result_of bytes (each (ends_with number) (count_from stride (count - stride))) ≡ result_of bytes (each (ends_with number) (stride ∷ count_from (suc stride) (count - suc stride)))
counted bytes number stride count below =
    let more : count - stride ≡ suc (count - suc stride) = omega (arith, below) in
    ap (λ n. result_of bytes (each (ends_with number) (count_from stride n))) more

pub end_passes : (bytes : List ℕ) (stride : ℕ) → stride < length bytes / 512 → is_end bytes stride ≡ true → ends_check_from bytes stride ≡ ends_check_from bytes (stride + 1)
end_passes bytes stride below is =
    let number = part bytes (header_of bytes).array 2 in
    let next : suc stride ≡ stride + 1 = omega arith in
    let rest = each (ends_with number) (count_from (suc stride) (length bytes / 512 - suc stride)) in
    ap status (counted bytes number stride (length bytes / 512) below
    ∙ result_bind_ok bytes (ends_with number stride) _ tt (ap (λ test. result_of bytes (check test (BadFixup stride))) is)
    ∙ result_bind_done bytes rest (λ more. tt ∷ more))
    ∙ status_front tt (result_of bytes rest)
    ∙ ap (ends_check_from bytes) next

pub end_refuses : (bytes : List ℕ) (stride : ℕ) → stride < length bytes / 512 → is_end bytes stride ≡ false → ends_check_from bytes stride ≡ Err (BadFixup stride)
end_refuses bytes stride below is =
    let number = part bytes (header_of bytes).array 2 in
    ap status (counted bytes number stride (length bytes / 512) below
    ∙ result_bind_err bytes (ends_with number stride) _ (BadFixup stride) (ap (λ test. result_of bytes (check test (BadFixup stride))) is))

-- ---- what a comparison of two parts tells

pub end_is : (bytes : List ℕ) (stride array : ℕ) (end number : List ℕ) → array ≡ (header_of bytes).array → end ≡ part bytes (512 * stride + 510) 2 → number ≡ part bytes array 2
    → bytes_eq end number ≡ is_end bytes stride
end_is bytes stride array end number array_is here number_is =
    ap (λ end. bytes_eq end number) here
    ∙ ap (λ number. bytes_eq (part bytes (512 * stride + 510) 2) number) number_is
    ∙ ap (λ array. bytes_eq (part bytes (512 * stride + 510) 2) (part bytes array 2)) array_is

pub differ : (same differs : Bool) → differs ≡ not same → differs ≡ true → same ≡ false
differ true differs is holds = absurd cc
differ false differs is holds = refl

pub differ_not : (same differs : Bool) → differs ≡ not same → differs ≡ false → same ≡ true
differ_not true differs is holds = refl
differ_not false differs is holds = absurd cc
