-- What is read of a block.
use Rattle.std.specs.Prelude.{ℕ, Option, None, Some, Result, Ok, Err, List, [], ◌++◌, refl}
use Rattle.std.proofs.Common.{sym, subst, append-nil}
use Rattle.range_defs.specs.declared.Range.{Range}
use Rattle.image_defs.specs.Ask.{given}
use Rattle.fault_defs.specs.declared.Refusal.{Refusal}
use Rattle.rx_store.specs.Answers.{Answers}
use Rattle.rx_store.specs.declared.read_fault.ReadFault.{ReadFault}
use Rattle.rx_store.specs.declared.read_fault.ReadFault.TheVariants.{Device, NoMemory, NotThis, Damaged, Unsupported, Limit}
use Rattle.image_reads.specs.Steps.{ReadsAs, IsRead}
use Rattle.image_reads.proofs.Bytes.{same_ranges}

-- a value or a refusal that reads nothing
pub given_reads : {X : Type 0} (told : Option (List ℕ)) (looked : List Range) (is : Result X Refusal) (result : Result X ReadFault) → Answers result is → ReadsAs told (given is) looked looked result
given_reads None looked is result says = tt
given_reads {X = X} (Some image) looked is result says = by_result result says
  where
    by_result : (result : Result X ReadFault) → Answers result is → IsRead image (given is) looked looked result
    by_result (Ok x) says = let P : Result X Refusal → Type 0 = λ one. IsRead image (given one) looked looked (Ok x) in subst P (sym says) (record { given = refl; looks = same_ranges looked (looked ++ []) (sym (append-nil looked)) })
    by_result (Err Device) says = record { given = tt; looks = tt }
    by_result (Err NoMemory) says = record { given = tt; looks = tt }
    by_result (Err NotThis) says = let P : Result X Refusal → Type 0 = λ one. IsRead image (given one) looked looked (Err NotThis) in subst P (sym says) (record { given = refl; looks = tt })
    by_result (Err (Damaged sort place)) says = let P : Result X Refusal → Type 0 = λ one. IsRead image (given one) looked looked (Err (Damaged sort place)) in subst P (sym says) (record { given = refl; looks = tt })
    by_result (Err (Unsupported what place)) says = let P : Result X Refusal → Type 0 = λ one. IsRead image (given one) looked looked (Err (Unsupported what place)) in subst P (sym says) (record { given = refl; looks = tt })
    by_result (Err (Limit bound number)) says = let P : Result X Refusal → Type 0 = λ one. IsRead image (given one) looked looked (Err (Limit bound number)) in subst P (sym says) (record { given = refl; looks = tt })
