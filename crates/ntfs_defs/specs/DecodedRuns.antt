-- The runs of a run list, in order, or the first thing that is wrong with it. Each run passes its checks in one order:
-- it has clusters, the runs up to it have at most 2^48 clusters, it doesn't begin below cluster 0, and it doesn't pass
-- the clusters of the volume.
use Rattle.std.specs.Prelude.{ℕ, ◌+◌, ◌^◌, ℤ, pos, negsuc, ◌+ℤ◌, ◌==◌, nat_lt, if◌then◌else◌, Option, Some, None, Result, Ok, Err, List, [], ◌∷◌, ◌++◌}
use Rattle.ntfs_defs.specs.declared.runs.Run.{Run}
use Rattle.ntfs_defs.specs.declared.runs.WrittenRun.{WrittenRun}
use Rattle.ntfs_defs.specs.declared.fault.RunFault.{RunFault}
use Rattle.ntfs_defs.specs.declared.fault.RunFault.TheVariants.{TooLong, ZeroRun, Negative, Outside}
use Rattle.ntfs_defs.specs.WrittenRuns.{run_list}

-- the cluster of a number: none below 0
abbrev pub cluster_of_number : ℤ → Option ℕ
cluster_of_number (pos n) = Some n
cluster_of_number (negsuc n) = None

-- the cluster to which an offset leads from a base
unfoldable pub begin_of : ℕ → ℤ → Option ℕ
begin_of base offset = cluster_of_number (pos base +ℤ offset)

-- a run that begins at a cluster
abbrev pub run_from : ℕ → ℕ → ℕ → Option ℕ → Result Run RunFault
run_from clusters at len None = Err (Negative at)
run_from clusters at len (Some first) =
    if nat_lt clusters (first + len) then Err (Outside at first) else Ok (record { len = len; cluster = Some first })

-- a run with this offset
abbrev pub run_by : ℕ → ℕ → ℕ → ℕ → Option ℤ → Result Run RunFault
run_by clusters base at len None = Ok (record { len = len; cluster = None })
run_by clusters base at len (Some offset) = run_from clusters at len (begin_of base offset)

-- the run that is written behind runs of `total` clusters, where the last one that had an offset begins at `base`
unfoldable pub checked_run : ℕ → ℕ → ℕ → WrittenRun → Result Run RunFault
checked_run clusters base total run =
    if run.len == 0 then Err (ZeroRun run.at)
    else (if nat_lt (2 ^ 48) (total + run.len) then Err (TooLong run.at)
    else run_by clusters base run.at run.len run.offset)

-- where the last run that had an offset begins behind a run
abbrev pub base_after : ℕ → Option ℕ → ℕ
base_after base None = base
base_after base (Some first) = first

-- these runs and those behind them, or the damage behind them
abbrev pub behind_runs : List Run → Result (List Run) RunFault → Result (List Run) RunFault
behind_runs runs (Ok more) = Ok (runs ++ more)
behind_runs runs (Err damage) = Err damage

-- a run and the runs that follow it, or the first damage
abbrev pub followed_by : Result Run RunFault → (Run → Result (List Run) RunFault) → Result (List Run) RunFault
followed_by (Ok run) behind = behind_runs (run ∷ []) (behind run)
followed_by (Err damage) behind = Err damage

-- the runs that are written behind runs of `total` clusters
abbrev pub runs_behind : ℕ → ℕ → ℕ → List WrittenRun → Option RunFault → Result (List Run) RunFault
runs_behind clusters base total [] None = Ok []
runs_behind clusters base total [] (Some damage) = Err damage
runs_behind clusters base total (written ∷ more) damage =
    followed_by (checked_run clusters base total written)
    (λ run. runs_behind clusters (base_after base run.cluster) (total + run.len) more damage)

-- the runs of a list of run bytes on a volume of so many clusters
abbrev pub decoded_runs : ℕ → List ℕ → Result (List Run) RunFault
decoded_runs clusters bytes = runs_behind clusters 0 0 (run_list bytes).runs (run_list bytes).damage
