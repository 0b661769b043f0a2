-- The runs that a run list has are its clusters.
use Rattle.std.specs.Prelude.{◌≡◌, ℕ, ◌+◌, ◌-◌, ◌<◌, ◌≤◌, ◌^◌, ◌==◌, ◌↔◌, ℤ, pos, negsuc, ◌+ℤ◌, Bool, true, false, nat_lt, if◌then◌else◌, Option, Some, None, IfSome, Result, Ok, Err, List, [], ◌∷◌, ◌++◌, sum_by, All, refl}
use Rattle.std.proofs.Common.{ap, sym, ◌∙◌, arith, subst}
use Rattle.std.proofs.lemmas.Bool.Decides.{nat_tests}
use Rattle.std.proofs.lemmas.List.Elements.{All-cons, All-head, All-nil, All-tail}
use Rattle.std.proofs.lemmas.List.Sums.{sum_by-cons}
use Rattle.ntfs_defs.specs.declared.runs.Run.{Run}
use Rattle.ntfs_defs.specs.declared.runs.WrittenRun.{WrittenRun}
use Rattle.ntfs_defs.specs.declared.fault.RunFault.{RunFault}
use Rattle.ntfs_defs.specs.declared.fault.RunFault.TheVariants.{TooLong, ZeroRun, Outside}
use Rattle.ntfs_defs.specs.WrittenRuns.{run_list}
use Rattle.ntfs_defs.specs.Clusters.{Stored, VirtualCluster, stored, cluster_of_run, base_behind, cluster_from, cluster, virtual_clusters, cluster_in_run, cluster_in}
use Rattle.ntfs_defs.specs.DecodedRuns.{cluster_of_number, begin_of, run_from, run_by, checked_run, base_after, behind_runs, followed_by, runs_behind, decoded_runs}

-- a test that a value passed
past_test : {X : Type 0} (test : Bool) (damage : RunFault) (rest : Result X RunFault) (x : X)
    → (if test then Err damage else rest) ≡ Ok x → (test ≡ false) × (rest ≡ Ok x)
past_test true damage rest x is = absurd (cc)
past_test false damage rest x is = (refl, is)

-- a run that passed its checks is the one that is written
pub record IsCheckedRun (clusters base total : ℕ) (offset : Option ℤ) (len : ℕ) (run : Run) : Type 0 where
  pub same_len : run.len ≡ len
  pub same_cluster : (v : ℕ) → cluster_of_run (pos base) offset v ≡ Some (cluster_in_run run.cluster v)
  pub same_base : base_behind (pos base) offset ≡ pos (base_after base run.cluster)
  pub inside : IfSome run.cluster (λ first. first + len ≤ clusters)

cluster_of_number-some : (number : ℤ) (n : ℕ) → cluster_of_number number ≡ Some n → number ≡ pos n
cluster_of_number-some (pos m) n is = cc
cluster_of_number-some (negsuc m) n is = absurd (cc)

-- an offset that leads to a cluster
begin_of-some : (base first : ℕ) (offset : ℤ) → begin_of base offset ≡ Some first → pos base +ℤ offset ≡ pos first
unfolding begin_of
begin_of-some base first offset is = cluster_of_number-some (pos base +ℤ offset) first is

run_from-ok : (clusters base total at len : ℕ) (offset : ℤ) (begin : Option ℕ) (run : Run) → begin_of base offset ≡ begin
    → run_from clusters at len begin ≡ Ok run → IsCheckedRun clusters base total (Some offset) len run
run_from-ok clusters base total at len offset None run is found = absurd (cc)
run_from-ok clusters base total at len offset (Some first) run is found =
    let passed : (nat_lt clusters (first + len) ≡ false) × (Ok (record { len = len; cluster = Some first }) ≡ Ok run) =
    past_test (nat_lt clusters (first + len)) (Outside at first) (Ok (record { len = len; cluster = Some first })) run found in
    let same : record { len = len; cluster = Some first } ≡ run = cc in
    let P : Run → Type 0 = λ run. IsCheckedRun clusters base total (Some offset) len run in
    let begins : pos base +ℤ offset ≡ pos first = begin_of-some base first offset is in
    subst P same (record {
      same_len = refl;
      same_cluster = λ v. ap (λ begin. stored (begin +ℤ pos v)) begins;
      same_base = begins;
      inside = grind (arith, nat_tests, passed.0);
    })

run_by-ok : (clusters base total at len : ℕ) (offset : Option ℤ) (run : Run) → run_by clusters base at len offset ≡ Ok run
    → IsCheckedRun clusters base total offset len run
run_by-ok clusters base total at len None run found =
    let same : record { len = len; cluster = None } ≡ run = cc in
    let P : Run → Type 0 = λ run. IsCheckedRun clusters base total None len run in
    subst P same (record { same_len = refl; same_cluster = λ v. refl; same_base = refl; inside = tt })
run_by-ok clusters base total at len (Some offset) run found =
    run_from-ok clusters base total at len offset (begin_of base offset) run refl found

pub checked_run-ok : (clusters base total : ℕ) (written : WrittenRun) (run : Run) → checked_run clusters base total written ≡ Ok run
    → (0 < written.len) × (total + written.len ≤ 2 ^ 48) × IsCheckedRun clusters base total written.offset written.len run
unfolding checked_run
checked_run-ok clusters base total written run found =
    let some = past_test (written.len == 0) (ZeroRun written.at)
    (if nat_lt (2 ^ 48) (total + written.len) then Err (TooLong written.at) else run_by clusters base written.at written.len written.offset) run found in
    let short = past_test (nat_lt (2 ^ 48) (total + written.len)) (TooLong written.at) (run_by clusters base written.at written.len written.offset) run some.1 in
    (grind (arith, nat_tests, some.0), grind (arith, nat_tests, short.0), run_by-ok clusters base total written.at written.len written.offset run short.1)

-- what is told where runs, and what is behind them, are all these runs
behind_runs-ok : (runs : List Run) (rest : Result (List Run) RunFault) (all : List Run) → behind_runs runs rest ≡ Ok all
    → (more : List Run) × (rest ≡ Ok more) × (runs ++ more ≡ all)
behind_runs-ok runs (Ok more) all found = (more, refl, cc)
behind_runs-ok runs (Err damage) all found = absurd (cc)

followed_by-ok : (first : Result Run RunFault) (behind : Run → Result (List Run) RunFault) (all : List Run) → followed_by first behind ≡ Ok all
    → (run : Run) × (more : List Run) × (first ≡ Ok run) × (behind run ≡ Ok more) × (run ∷ more ≡ all)
followed_by-ok (Ok run) behind all found =
    let rest = behind_runs-ok (run ∷ []) (behind run) all found in
    (run, rest.0, refl, rest.1, rest.2)
followed_by-ok (Err damage) behind all found = absurd (cc)

-- runs that are decoded from those that are written behind a total of clusters, where the last one in front that had an
-- offset begins at a base
pub record AreDecodedFrom (clusters base total : ℕ) (written : List WrittenRun) (runs : List Run) : Type 0 where
  pub same_clusters : (v : ℕ) → cluster_in runs v ≡ cluster_from (pos base) written v
  pub same_sum : sum_by (λ run. run.len) runs ≡ sum_by (λ run. run.len) written
  pub at_most : total ≤ 2 ^ 48 → total + sum_by (λ run. run.len) runs ≤ 2 ^ 48
  pub none_empty : All (λ run. 0 < run.len) runs
  pub all_inside : All (λ run. IfSome run.cluster (λ first. first + run.len ≤ clusters)) runs

-- cluster v of a run and of those behind it
cluster_in-more : (clusters base total len : ℕ) (offset : Option ℤ) (run : Run) (written : List WrittenRun) (runs : List Run) (v : ℕ)
    → IsCheckedRun clusters base total offset len run
    → ((v : ℕ) → cluster_in runs v ≡ cluster_from (pos (base_after base run.cluster)) written v)
    → (if nat_lt v run.len then Some (cluster_in_run run.cluster v) else cluster_in runs (v - run.len))
    ≡ (if nat_lt v len then cluster_of_run (pos base) offset v else cluster_from (base_behind (pos base) offset) written (v - len))
cluster_in-more clusters base total len offset run written runs v checked behind =
    rw (checked.same_len, checked.same_cluster v, checked.same_base, behind (v - len)) refl

decoded_behind : (clusters base total : ℕ) (first : WrittenRun) (written : List WrittenRun) (run : Run) (runs : List Run)
    → (0 < first.len) × (total + first.len ≤ 2 ^ 48) × IsCheckedRun clusters base total first.offset first.len run
    → AreDecodedFrom clusters (base_after base run.cluster) (total + run.len) written runs
    → AreDecodedFrom clusters base total (first ∷ written) (run ∷ runs)
decoded_behind clusters base total first written run runs (some, fits, checked) decoded = record {
  same_clusters = λ v. cluster_in-more clusters base total first.len first.offset run written runs v checked decoded.same_clusters;
  same_sum =
      sum_by-cons (λ run. run.len) run runs
      ∙ rw (checked.same_len, decoded.same_sum) (sym (sum_by-cons (λ run. run.len) first written));
  at_most = λ before.
      let after = decoded.at_most (omega (arith, checked.same_len)) in
      omega (arith, after, sum_by-cons (λ (run : Run). run.len) run runs);
  none_empty = All-cons (λ run. 0 < run.len) run runs (omega (arith, checked.same_len)) decoded.none_empty;
  all_inside = All-cons (λ run. IfSome run.cluster (λ first. first + run.len ≤ clusters)) run runs (rw checked.same_len checked.inside) decoded.all_inside;
}

runs_behind-ok : (clusters base total : ℕ) (written : List WrittenRun) (damage : Option RunFault) (runs : List Run)
    → runs_behind clusters base total written damage ≡ Ok runs → AreDecodedFrom clusters base total written runs
runs_behind-ok clusters base total [] None runs found =
    let none : [] ≡ runs = cc in
    let P : List Run → Type 0 = λ runs. AreDecodedFrom clusters base total [] runs in
    subst P none (record {
      same_clusters = λ v. refl;
      same_sum = refl;
      at_most = λ before. omega arith;
      none_empty = All-nil (λ run. 0 < run.len);
      all_inside = All-nil (λ run. IfSome run.cluster (λ first. first + run.len ≤ clusters));
    })
runs_behind-ok clusters base total [] (Some damage) runs found = absurd (cc)
runs_behind-ok clusters base total (first ∷ written) damage runs found =
    let parts = followed_by-ok (checked_run clusters base total first)
    (λ run. runs_behind clusters (base_after base run.cluster) (total + run.len) written damage) runs found in
    let P : List Run → Type 0 = λ runs. AreDecodedFrom clusters base total (first ∷ written) runs in
    subst P parts.4
    (decoded_behind clusters base total first written parts.0 parts.1 (checked_run-ok clusters base total first parts.0 parts.2)
    (runs_behind-ok clusters (base_after base (parts.0).cluster) (total + (parts.0).len) written damage parts.1 parts.3))

pub decoded_runs-ok : (clusters : ℕ) (bytes : List ℕ) (runs : List Run) → decoded_runs clusters bytes ≡ Ok runs
    → AreDecodedFrom clusters 0 0 (run_list bytes).runs runs
decoded_runs-ok clusters bytes runs found = runs_behind-ok clusters 0 0 (run_list bytes).runs (run_list bytes).damage runs found

-- a list of runs has a cluster exactly below the sum of their lengths
cluster_at : (len sum v : ℕ) (here : VirtualCluster) (rest : Option VirtualCluster) (inside : Bool) → nat_lt v len ≡ inside
    → ((rest ≡ None) ↔ (sum ≤ v - len)) → ((if inside then Some here else rest) ≡ None) ↔ (len + sum ≤ v)
cluster_at len sum v here rest true is behind = (λ none. absurd (cc), λ past. absurd (grind (arith, nat_tests, is)))
cluster_at len sum v here rest false is behind =
    let past : len ≤ v = grind (arith, nat_tests, is) in
    (λ none. let less = behind.0 none in omega arith, λ less. behind.1 (omega arith))

pub cluster_in-none : (runs : List Run) (v : ℕ) → (cluster_in runs v ≡ None) ↔ (sum_by (λ run. run.len) runs ≤ v)
cluster_in-none [] v = (λ none. omega arith, λ past. refl)
cluster_in-none (run ∷ runs) v =
    rw (sum_by-cons (λ (run : Run). run.len) run runs)
    (cluster_at run.len (sum_by (λ run. run.len) runs) v (cluster_in_run run.cluster v) (cluster_in runs (v - run.len)) (nat_lt v run.len) refl
    (cluster_in-none runs (v - run.len)))

-- the runs of a list of run bytes have its clusters, and as many
pub decoded_clusters : (clusters : ℕ) (bytes : List ℕ) (runs : List Run) → decoded_runs clusters bytes ≡ Ok runs
    → (v : ℕ) → cluster_in runs v ≡ cluster bytes v
decoded_clusters clusters bytes runs found = (decoded_runs-ok clusters bytes runs found).same_clusters

pub decoded_sum : (clusters : ℕ) (bytes : List ℕ) (runs : List Run) → decoded_runs clusters bytes ≡ Ok runs
    → sum_by (λ run. run.len) runs ≡ virtual_clusters bytes
decoded_sum clusters bytes runs found = (decoded_runs-ok clusters bytes runs found).same_sum

-- nothing stands behind their end
pub decoded_end : (clusters : ℕ) (bytes : List ℕ) (runs : List Run) → decoded_runs clusters bytes ≡ Ok runs
    → (v : ℕ) → (cluster bytes v ≡ None) ↔ (virtual_clusters bytes ≤ v)
decoded_end clusters bytes runs found v =
    let same = decoded_clusters clusters bytes runs found v in
    let sum = decoded_sum clusters bytes runs found in
    let ends = cluster_in-none runs v in
    (λ none. subst (λ sum. sum ≤ v) sum (ends.0 (same ∙ none)), λ past. sym same ∙ ends.1 (subst (λ sum. sum ≤ v) (sym sum) past))

-- what they are stored in is a cluster of the volume
run_inside : (clusters len v number : ℕ) (first : Option ℕ) → v < len → IfSome first (λ first. first + len ≤ clusters)
    → Some (cluster_in_run first v) ≡ Some (Stored number) → number < clusters
run_inside clusters len v number None below inside is = absurd (cc)
run_inside clusters len v number (Some first) below inside is =
    let place : first + v ≡ number = cc in
    omega arith

stored_inside : (clusters : ℕ) (runs : List Run) (v number : ℕ) → All (λ run. IfSome run.cluster (λ first. first + run.len ≤ clusters)) runs
    → cluster_in runs v ≡ Some (Stored number) → number < clusters
stored_inside clusters [] v number inside is = absurd (cc)
stored_inside clusters (run ∷ runs) v number inside is =
    here (λ behind. stored_inside clusters runs (v - run.len) number (All-tail (λ run. IfSome run.cluster (λ first. first + run.len ≤ clusters)) run runs inside) behind)
    (nat_lt v run.len) refl is
  where
    here : (cluster_in runs (v - run.len) ≡ Some (Stored number) → number < clusters) → (below : Bool) → nat_lt v run.len ≡ below
        → (if below then Some (cluster_in_run run.cluster v) else cluster_in runs (v - run.len)) ≡ Some (Stored number) → number < clusters
    here behind true test found =
        run_inside clusters run.len v number run.cluster (grind (arith, nat_tests, test))
        (All-head (λ run. IfSome run.cluster (λ first. first + run.len ≤ clusters)) run runs inside) found
    here behind false test found = behind found

pub decoded_stored_inside : (clusters : ℕ) (bytes : List ℕ) (runs : List Run) → decoded_runs clusters bytes ≡ Ok runs
    → (v number : ℕ) → cluster bytes v ≡ Some (Stored number) → number < clusters
decoded_stored_inside clusters bytes runs found v number is =
    stored_inside clusters runs v number (decoded_runs-ok clusters bytes runs found).all_inside (decoded_clusters clusters bytes runs found v ∙ is)
