-- How the runs of a run list follow one on another.
use Rattle.std.specs.Prelude.{◌≡◌, ℕ, zero, suc, ◌+◌, ◌-◌, ◌<◌, ◌≤◌, Bool, true, false, ◌||◌, ◌==◌, nat_lt, nat_le, if◌then◌else◌, Option, Some, None, Result, Ok, Err, List, [], ◌∷◌, ◌++◌, length, slice_index, refl}
use Rattle.std.proofs.Common.{ap, sym, ◌∙◌, subst, arith, append_assoc, append-nil}
use Rattle.std.proofs.lemmas.Bool.{le-leb}
use Rattle.std.proofs.lemmas.Bool.Decides.{nat_tests}
use Rattle.ntfs_defs.specs.declared.runs.Run.{Run}
use Rattle.ntfs_defs.specs.declared.runs.WrittenRun.{WrittenRun}
use Rattle.ntfs_defs.specs.declared.fault.RunFault.{RunFault}
use Rattle.ntfs_defs.specs.declared.fault.RunFault.TheVariants.{TooLong, Short}
use Rattle.ntfs_defs.specs.WrittenRuns.{length_bytes, offset_bytes, run_with, run_behind, run_at, RunList, list_with, list_within, list_from}
use Rattle.ntfs_defs.specs.DecodedRuns.{base_after, behind_runs, followed_by, checked_run, runs_behind, decoded_runs}

-- behind the bytes no run begins
run_at-past : (bytes : List ℕ) (at : ℕ) → length bytes ≤ at → run_at bytes at ≡ Err (Short at)
unfolding run_at
run_at-past bytes at past = rw (le-leb (length bytes) at past) refl

-- a run begins at a byte, and the next header byte stands behind it
pub run_at-place : (bytes : List ℕ) (at : ℕ) (run : WrittenRun) → run_at bytes at ≡ Ok (Some run) → (at < length bytes) × (at < run.next)
unfolding run_at run_behind run_with
run_at-place bytes at run found =
    let header = slice_index bytes at in
    cases (nat_le (length bytes) at) (header == 0) (nat_lt 8 (length_bytes header) || nat_lt 8 (offset_bytes header))
    (nat_lt (length bytes) (at + 1 + length_bytes header + offset_bytes header)) refl found
  where
    cases : (past ends long short : Bool) → nat_le (length bytes) at ≡ past
        → (if past then Err (Short at) else (if ends then Ok None else (if long then Err (TooLong at) else (if short then Err (Short at) else Ok (Some (run_with bytes at (slice_index bytes at))))))) ≡ Ok (Some run)
        → (at < length bytes) × (at < run.next)
    cases true ends long short is found = absurd (cc)
    cases false true long short is found = absurd (cc)
    cases false false true short is found = absurd (cc)
    cases false false false true is found = absurd (cc)
    cases false false false false is found =
        let same : run_with bytes at (slice_index bytes at) ≡ run = cc in
        (grind (arith, nat_tests, is), subst (λ run. at < run.next) same (omega arith))

-- lists with the same behind a run are the same
list_with-same : (first : Result (Option WrittenRun) RunFault) (behind other : ℕ → RunList)
    → ((run : WrittenRun) → first ≡ Ok (Some run) → behind run.next ≡ other run.next) → list_with first behind ≡ list_with first other
list_with-same (Ok (Some run)) behind other same = ap (λ list. list_with (Ok (Some run)) (λ next. list)) (same run refl)
list_with-same (Ok None) behind other same = refl
list_with-same (Err damage) behind other same = refl

list_with-past : (bytes : List ℕ) (at : ℕ) (behind : ℕ → RunList) → length bytes ≤ at
    → list_with (run_at bytes at) behind ≡ record { runs = []; damage = Some (Short at) }
list_with-past bytes at behind past = ap (λ first. list_with first behind) (run_at-past bytes at past)

-- a number of runs that reaches the end of the bytes gives the whole list
list_within-enough : (count other : ℕ) (bytes : List ℕ) (at : ℕ) → length bytes ≤ at + count → length bytes ≤ at + other
    → list_within count bytes at ≡ list_within other bytes at
unfolding list_within
list_within-enough zero zero bytes at enough too = refl
list_within-enough zero (suc other) bytes at enough too = sym (list_with-past bytes at (list_within other bytes) (omega arith))
list_within-enough (suc count) zero bytes at enough too = list_with-past bytes at (list_within count bytes) (omega arith)
list_within-enough (suc count) (suc other) bytes at enough too =
    list_with-same (run_at bytes at) (list_within count bytes) (list_within other bytes)
    (λ run found.
    let place = run_at-place bytes at run found in
    list_within-enough count other bytes run.next (omega (arith, place.1)) (omega (arith, place.1)))

list_from-count : (count : ℕ) (bytes : List ℕ) (at : ℕ) → count ≡ length bytes - at
    → list_within count bytes at ≡ list_with (run_at bytes at) (list_from bytes)
unfolding list_within list_from
list_from-count zero bytes at is = sym (list_with-past bytes at (list_from bytes) (omega arith))
list_from-count (suc count) bytes at is =
    list_with-same (run_at bytes at) (list_within count bytes) (list_from bytes)
    (λ run found.
    let place = run_at-place bytes at run found in
    list_within-enough count (length bytes - run.next) bytes run.next (omega (arith, place.1)) (omega (arith, place.1)))

-- the list from a place on is what begins there and the list behind it
pub list_from-next : (bytes : List ℕ) (at : ℕ) → list_from bytes at ≡ list_with (run_at bytes at) (list_from bytes)
unfolding list_from
list_from-next bytes at = list_from-count (length bytes - at) bytes at refl

-- what the runs of a list give
of_list : ℕ → ℕ → ℕ → RunList → Result (List Run) RunFault
of_list clusters base total list = runs_behind clusters base total list.runs list.damage

-- a walk over the runs: those that were found, and those from its place on, are all
pub record IsDecodedTo (clusters : ℕ) (bytes : List ℕ) (runs : List Run) (base total at : ℕ) : Type 0 where
  pub whole : decoded_runs clusters bytes
      ≡ behind_runs runs (runs_behind clusters base total (list_from bytes at).runs (list_from bytes at).damage)

behind_runs-append : (runs more : List Run) (rest : Result (List Run) RunFault)
    → behind_runs runs (behind_runs more rest) ≡ behind_runs (runs ++ more) rest
behind_runs-append runs more (Ok rest) = ap Ok (sym (append_assoc runs more rest))
behind_runs-append runs more (Err damage) = refl

-- what the walk comes to, by what begins at its place
decoded_at : (clusters : ℕ) (bytes : List ℕ) (runs : List Run) (base total at : ℕ) (first : Result (Option WrittenRun) RunFault)
    → IsDecodedTo clusters bytes runs base total at → run_at bytes at ≡ first
    → decoded_runs clusters bytes ≡ behind_runs runs (of_list clusters base total (list_with first (list_from bytes)))
unfolding of_list
decoded_at clusters bytes runs base total at first walked is =
    walked.whole
    ∙ ap (λ list. behind_runs runs (of_list clusters base total list)) (list_from-next bytes at)
    ∙ ap (λ first. behind_runs runs (of_list clusters base total (list_with first (list_from bytes)))) is

pub decoding_ends : (clusters : ℕ) (bytes : List ℕ) (runs : List Run) (base total at : ℕ)
    → IsDecodedTo clusters bytes runs base total at → run_at bytes at ≡ Ok None → decoded_runs clusters bytes ≡ Ok runs
unfolding of_list
decoding_ends clusters bytes runs base total at walked is =
    decoded_at clusters bytes runs base total at (Ok None) walked is ∙ ap Ok (append-nil runs)

pub decoding_stops : (clusters : ℕ) (bytes : List ℕ) (runs : List Run) (base total at : ℕ) (damage : RunFault)
    → IsDecodedTo clusters bytes runs base total at → run_at bytes at ≡ Err damage → decoded_runs clusters bytes ≡ Err damage
unfolding of_list
decoding_stops clusters bytes runs base total at damage walked is = decoded_at clusters bytes runs base total at (Err damage) walked is

-- the walk at a run
decoded_run : (clusters : ℕ) (bytes : List ℕ) (runs : List Run) (base total at : ℕ) (written : WrittenRun) (checked : Result Run RunFault)
    → IsDecodedTo clusters bytes runs base total at → run_at bytes at ≡ Ok (Some written) → checked_run clusters base total written ≡ checked
    → decoded_runs clusters bytes
    ≡ behind_runs runs (followed_by checked (λ run. of_list clusters (base_after base run.cluster) (total + run.len) (list_from bytes written.next)))
unfolding of_list
decoded_run clusters bytes runs base total at written checked walked found is =
    decoded_at clusters bytes runs base total at (Ok (Some written)) walked found
    ∙ ap (λ checked. behind_runs runs (followed_by checked (λ run. of_list clusters (base_after base run.cluster) (total + run.len) (list_from bytes written.next)))) is

pub decoding_goes_on : (clusters : ℕ) (bytes : List ℕ) (runs : List Run) (base total at : ℕ) (written : WrittenRun) (run : Run)
    → IsDecodedTo clusters bytes runs base total at → run_at bytes at ≡ Ok (Some written) → checked_run clusters base total written ≡ Ok run
    → IsDecodedTo clusters bytes (runs ++ run ∷ []) (base_after base run.cluster) (total + run.len) written.next
unfolding of_list
decoding_goes_on clusters bytes runs base total at written run walked found is = record {
  whole =
      decoded_run clusters bytes runs base total at written (Ok run) walked found is
      ∙ behind_runs-append runs (run ∷ []) (of_list clusters (base_after base run.cluster) (total + run.len) (list_from bytes written.next));
}

pub decoding_refuses : (clusters : ℕ) (bytes : List ℕ) (runs : List Run) (base total at : ℕ) (written : WrittenRun) (damage : RunFault)
    → IsDecodedTo clusters bytes runs base total at → run_at bytes at ≡ Ok (Some written) → checked_run clusters base total written ≡ Err damage
    → decoded_runs clusters bytes ≡ Err damage
unfolding of_list
decoding_refuses clusters bytes runs base total at written damage walked found is =
    decoded_run clusters bytes runs base total at written (Err damage) walked found is
