-- When a run list is damaged, by the runs in front of each run: their lengths sum to the virtual clusters in front of it,
-- and their offsets sum to the cluster that its offset counts from.
use Rattle.std.specs.Prelude.{ℕ, ◌+◌, ◌^◌, ℤ, pos, negsuc, ◌+ℤ◌, Bool, true, ◌==◌, nat_lt, if◌then◌else◌, Option, Some, None, List, [], ◌∷◌, ◌++◌, sum_by}
use Rattle.ntfs_defs.specs.declared.runs.WrittenRun.{WrittenRun}
use Rattle.ntfs_defs.specs.declared.fault.RunFault.{RunFault}
use Rattle.ntfs_defs.specs.declared.fault.RunFault.TheVariants.{TooLong, ZeroRun, Negative, Outside}
use Rattle.ntfs_defs.specs.WrittenRuns.{run_list}

-- a hole moves nothing
abbrev pub offset_or_0 : Option ℤ → ℤ
offset_or_0 None = pos 0
offset_or_0 (Some offset) = offset

abbrev pub sum_of_offsets : List WrittenRun → ℤ
sum_of_offsets [] = pos 0
sum_of_offsets (run ∷ runs) = offset_or_0 run.offset +ℤ sum_of_offsets runs

abbrev pub sum_of_lengths : List WrittenRun → ℕ
sum_of_lengths runs = sum_by (λ run. run.len) runs

-- where a run with this offset begins behind these runs: nowhere for a hole
abbrev pub begin_behind : List WrittenRun → Option ℤ → Option ℤ
begin_behind front None = None
begin_behind front (Some offset) = Some (sum_of_offsets front +ℤ offset)

-- a test, and what is wrong where it holds
abbrev pub Check : Type 0
Check = Bool × RunFault

-- what can be wrong with the clusters of a run that begins at a number
abbrev pub begin_checks : ℕ → ℕ → ℕ → Option ℤ → List Check
begin_checks clusters at len None = []
begin_checks clusters at len (Some (negsuc n)) = (true, Negative at) ∷ []
begin_checks clusters at len (Some (pos first)) = (nat_lt clusters (first + len), Outside at first) ∷ []

-- what can be wrong with a run behind these runs, in order
abbrev pub checks_of : ℕ → List WrittenRun → WrittenRun → List Check
checks_of clusters front run =
    (run.len == 0, ZeroRun run.at)
    ∷ (nat_lt (2 ^ 48) (sum_of_lengths front + run.len), TooLong run.at)
    ∷ begin_checks clusters run.at run.len (begin_behind front run.offset)

-- the first of these things that is wrong, or else what is wrong behind them
abbrev pub first_of : List Check → Option RunFault → Option RunFault
first_of [] behind = behind
first_of (check ∷ checks) behind = if check.0 then Some check.1 else first_of checks behind

-- the first thing that is wrong with the runs behind these runs, or else with what stands behind them all
abbrev pub first_wrong : ℕ → List WrittenRun → List WrittenRun → Option RunFault → Option RunFault
first_wrong clusters front [] end = end
first_wrong clusters front (run ∷ runs) end = first_of (checks_of clusters front run) (first_wrong clusters (front ++ run ∷ []) runs end)

-- the first thing that is wrong with a run list
abbrev pub first_damage : ℕ → List ℕ → Option RunFault
first_damage clusters bytes = first_wrong clusters [] (run_list bytes).runs (run_list bytes).damage
