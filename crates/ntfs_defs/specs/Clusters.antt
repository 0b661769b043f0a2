-- The clusters of a run list: what each virtual cluster is. The offset of a run is relative to the begin of the last run
-- that had one, at first to 0.
use Rattle.std.specs.Prelude.{ℕ, ◌+◌, ◌-◌, ℤ, pos, negsuc, ◌+ℤ◌, nat_lt, if◌then◌else◌, Option, Some, None, List, [], ◌∷◌, sum_by}
use Rattle.ntfs_defs.specs.declared.runs.Run.{Run}
use Rattle.ntfs_defs.specs.declared.runs.WrittenRun.{WrittenRun}
use Rattle.ntfs_defs.specs.WrittenRuns.{run_list}

-- what a virtual cluster is: a hole, or stored in a cluster of the volume
pub data VirtualCluster : Type 0 where
  Hole : VirtualCluster
  Stored : ℕ → VirtualCluster

-- the cluster of a number: none below 0
abbrev pub stored : ℤ → Option VirtualCluster
stored (pos n) = Some (Stored n)
stored (negsuc n) = None

-- cluster v of a run with this offset, where the last run that had one begins at a base
abbrev pub cluster_of_run : ℤ → Option ℤ → ℕ → Option VirtualCluster
cluster_of_run base None v = Some Hole
cluster_of_run base (Some offset) v = stored (base +ℤ offset +ℤ pos v)

-- where the last run that had an offset begins behind a run with this one
abbrev pub base_behind : ℤ → Option ℤ → ℤ
base_behind base None = base
base_behind base (Some offset) = base +ℤ offset

-- virtual cluster v of these runs: none behind their end
abbrev pub cluster_from : ℤ → List WrittenRun → ℕ → Option VirtualCluster
cluster_from base [] v = None
cluster_from base (run ∷ runs) v =
    if nat_lt v run.len then cluster_of_run base run.offset v else cluster_from (base_behind base run.offset) runs (v - run.len)

-- virtual cluster v of a list of run bytes
abbrev pub cluster : List ℕ → ℕ → Option VirtualCluster
cluster bytes v = cluster_from (pos 0) (run_list bytes).runs v

-- how many virtual clusters the bytes have
abbrev pub virtual_clusters : List ℕ → ℕ
virtual_clusters bytes = sum_by (λ run. run.len) (run_list bytes).runs

-- cluster v of a run that begins at a cluster, or of a hole
abbrev pub cluster_in_run : Option ℕ → ℕ → VirtualCluster
cluster_in_run None v = Hole
cluster_in_run (Some first) v = Stored (first + v)

-- virtual cluster v of a list of runs: none behind their end
abbrev pub cluster_in : List Run → ℕ → Option VirtualCluster
cluster_in [] v = None
cluster_in (run ∷ runs) v = if nat_lt v run.len then Some (cluster_in_run run.cluster v) else cluster_in runs (v - run.len)
