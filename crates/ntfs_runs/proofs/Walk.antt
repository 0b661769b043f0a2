-- The walk over the runs of a run list.
use Rattle.std.proofs.Common.{◌≡◌, ℕ, ◌+◌, ◌^◌, ◌≤◌, Option, Some, None, IfSome, Ok, List, [], ◌∷◌, ◌++◌, refl, arith, subst}
use Rattle.std.specs.Prelude.{unwrap_or}
use Rattle.ntfs_defs.specs.declared.runs.Run.{Run}
use Rattle.ntfs_defs.specs.declared.runs.WrittenRun.{WrittenRun}
use Rattle.ntfs_defs.specs.WrittenRuns.{run_at}
use Rattle.ntfs_defs.specs.DecodedRuns.{base_after, checked_run}
use Rattle.ntfs_defs.proofs.ListLaws.{IsDecodedTo, decoding_goes_on}
use Rattle.ntfs_defs.proofs.RunLaws.{checked_run-ok}

-- what the loop keeps: its runs, and those from its place on, are all, and its numbers are within their limits
pub record IsWalked (clusters : ℕ) (bytes : List ℕ) (runs : List Run) (base total at : ℕ) : Type 0 where
  pub decoded : IsDecodedTo clusters bytes runs base total at
  pub base_inside : base ≤ 2 ^ 63
  pub total_fits : total ≤ 2 ^ 48

unwrap_or-base : (base : ℕ) (first : Option ℕ) → base_after base first ≡ unwrap_or first base
unwrap_or-base base None = refl
unwrap_or-base base (Some first) = refl

base_after-inside : (clusters base len : ℕ) (first : Option ℕ) → clusters ≤ 2 ^ 63 → base ≤ 2 ^ 63 → IfSome first (λ first. first + len ≤ clusters)
    → base_after base first ≤ 2 ^ 63
base_after-inside clusters base len None few before inside = before
base_after-inside clusters base len (Some first) few before inside = omega arith

pub walk_goes_on : (clusters : ℕ) (bytes : List ℕ) (runs : List Run) (base total at : ℕ) (written : WrittenRun) (run : Run)
    → clusters ≤ 2 ^ 63 → IsWalked clusters bytes runs base total at → run_at bytes at ≡ Ok (Some written)
    → checked_run clusters base total written ≡ Ok run
    → IsWalked clusters bytes (runs ++ run ∷ []) (unwrap_or run.cluster base) (total + run.len) written.next
walk_goes_on clusters bytes runs base total at written run few walked found is =
    let checked = checked_run-ok clusters base total written run is in
    let P : ℕ → Type 0 = λ base. IsWalked clusters bytes (runs ++ run ∷ []) base (total + run.len) written.next in
    subst P (unwrap_or-base base run.cluster) (record {
      decoded = decoding_goes_on clusters bytes runs base total at written run walked.decoded found is;
      base_inside = base_after-inside clusters base written.len run.cluster few walked.base_inside (checked.2).inside;
      total_fits = omega (arith, checked.1, (checked.2).same_len);
    })
