-- What is told of a run list is the first thing that is wrong with it.
use Rattle.std.specs.Prelude.{◌≡◌, ◌≢◌, ℕ, zero, suc, ◌+◌, ◌-◌, ◌^◌, ◌==◌, ◌↔◌, ℤ, pos, negsuc, ◌+ℤ◌, Bool, true, false, nat_lt, nat_le, ◌||◌, if◌then◌else◌, Option, Some, None, Result, Ok, Err, IsOk, List, [], ◌∷◌, ◌++◌, length, slice_index, refl}
use Rattle.std.proofs.Common.{ap, sym, ◌∙◌, subst, arith}
use Rattle.std.proofs.lemmas.Int.{ints}
use Rattle.std.proofs.lemmas.List.Sums.{sum_by_push}
use Rattle.ntfs_defs.specs.declared.runs.Run.{Run}
use Rattle.ntfs_defs.specs.declared.runs.WrittenRun.{WrittenRun}
use Rattle.ntfs_defs.specs.declared.fault.RunFault.{RunFault}
use Rattle.ntfs_defs.specs.declared.fault.RunFault.TheVariants.{TooLong, Short, ZeroRun, Outside, NoMemory}
use Rattle.ntfs_defs.specs.Clusters.{base_behind}
use Rattle.ntfs_defs.specs.Damage.{offset_or_0, sum_of_offsets, sum_of_lengths, begin_behind, begin_checks, checks_of, first_of, first_wrong, first_damage}
use Rattle.ntfs_defs.specs.DecodedRuns.{cluster_of_number, begin_of, run_from, run_by, checked_run, base_after, behind_runs, followed_by, runs_behind, decoded_runs}
use Rattle.ntfs_defs.proofs.RunLaws.{IsCheckedRun, checked_run-ok}
use Rattle.ntfs_defs.specs.WrittenRuns.{length_bytes, offset_bytes, run_with, run_behind, run_at, RunList, list_with, list_within, list_from, run_list}

-- the numbers that the decoding carries are the sums over the runs in front
record Stands (front : List WrittenRun) (base total : ℕ) : Type 0 where
  base_is : sum_of_offsets front ≡ pos base
  total_is : sum_of_lengths front ≡ total

sum_of_offsets-push : (front : List WrittenRun) (run : WrittenRun) → sum_of_offsets (front ++ run ∷ []) ≡ sum_of_offsets front +ℤ offset_or_0 run.offset
sum_of_offsets-push [] run = omega (arith, ints)
sum_of_offsets-push (first ∷ front) run = omega (arith, ints, sum_of_offsets-push front run)

base_behind-sum : (base : ℤ) (offset : Option ℤ) → base +ℤ offset_or_0 offset ≡ base_behind base offset
base_behind-sum base None = omega (arith, ints)
base_behind-sum base (Some offset) = refl

stands_next : (clusters base total : ℕ) (front : List WrittenRun) (written : WrittenRun) (run : Run) → Stands front base total
    → IsCheckedRun clusters base total written.offset written.len run
    → Stands (front ++ written ∷ []) (base_after base run.cluster) (total + run.len)
stands_next clusters base total front written run stands checked = record {
  base_is =
      sum_of_offsets-push front written
      ∙ ap (λ base. base +ℤ offset_or_0 written.offset) stands.base_is
      ∙ base_behind-sum (pos base) written.offset
      ∙ checked.same_base;
  total_is = omega (arith, sum_by_push (λ (run : WrittenRun). run.len) front written, stands.total_is, checked.same_len);
}

-- what is wrong by a result, or else behind it
fault_or : {X : Type 0} → Result X RunFault → Option RunFault → Option RunFault
fault_or (Ok x) behind = behind
fault_or (Err fault) behind = Some fault

fault_or-if : {X : Type 0} (test : Bool) (fault : RunFault) (rest : Result X RunFault) (behind : Option RunFault)
    → fault_or (if test then Err fault else rest) behind ≡ (if test then Some fault else fault_or rest behind)
unfolding fault_or
fault_or-if true fault rest behind = refl
fault_or-if false fault rest behind = refl

-- the checks of the begin are those of a run
begin_checked : (clusters at len : ℕ) (begin : ℤ) (behind : Option RunFault)
    → fault_or (run_from clusters at len (cluster_of_number begin)) behind ≡ first_of (begin_checks clusters at len (Some begin)) behind
unfolding fault_or
begin_checked clusters at len (negsuc n) behind = refl
begin_checked clusters at len (pos first) behind =
    fault_or-if (nat_lt clusters (first + len)) (Outside at first) (Ok (record { len = len; cluster = Some first })) behind

offset_checked : (clusters base at len : ℕ) (front : List WrittenRun) (offset : Option ℤ) (behind : Option RunFault) → sum_of_offsets front ≡ pos base
    → fault_or (run_by clusters base at len offset) behind ≡ first_of (begin_checks clusters at len (begin_behind front offset)) behind
unfolding fault_or begin_of
offset_checked clusters base at len front None behind is = refl
offset_checked clusters base at len front (Some offset) behind is =
    begin_checked clusters at len (pos base +ℤ offset) behind
    ∙ ap (λ base. first_of (begin_checks clusters at len (Some (base +ℤ offset))) behind) (sym is)

-- the checks that a run passes behind these runs are its checks by the sums over them
run_checked : (clusters base total : ℕ) (front : List WrittenRun) (run : WrittenRun) (behind : Option RunFault) → Stands front base total
    → fault_or (checked_run clusters base total run) behind ≡ first_of (checks_of clusters front run) behind
unfolding checked_run
run_checked clusters base total front run behind stands =
    let begun : Result Run RunFault = run_by clusters base run.at run.len run.offset in
    fault_or-if (run.len == 0) (ZeroRun run.at) (if nat_lt (2 ^ 48) (total + run.len) then Err (TooLong run.at) else begun) behind
    ∙ ap (λ rest. if run.len == 0 then Some (ZeroRun run.at) else rest)
    (fault_or-if (nat_lt (2 ^ 48) (total + run.len)) (TooLong run.at) begun behind
    ∙ ap (λ total. if nat_lt (2 ^ 48) (total + run.len) then Some (TooLong run.at) else fault_or begun behind) (sym stands.total_is)
    ∙ ap (λ rest. if nat_lt (2 ^ 48) (sum_of_lengths front + run.len) then Some (TooLong run.at) else rest)
    (offset_checked clusters base run.at run.len front run.offset behind stands.base_is))

fault_or-behind : (runs : List Run) (rest : Result (List Run) RunFault) → fault_or (behind_runs runs rest) None ≡ fault_or rest None
unfolding fault_or
fault_or-behind runs (Ok more) = refl
fault_or-behind runs (Err fault) = refl

-- what is told is the first thing that is wrong
runs_checked : (clusters base total : ℕ) (front runs : List WrittenRun) (end : Option RunFault) → Stands front base total
    → fault_or (runs_behind clusters base total runs end) None ≡ first_wrong clusters front runs end
unfolding fault_or
runs_checked clusters base total front [] None stands = refl
runs_checked clusters base total front [] (Some fault) stands = refl
runs_checked clusters base total front (written ∷ runs) end stands =
    by_run (λ run. runs_checked clusters (base_after base run.cluster) (total + run.len) (front ++ written ∷ []) runs end)
    (checked_run clusters base total written) refl
    ∙ run_checked clusters base total front written (first_wrong clusters (front ++ written ∷ []) runs end) stands
  where
    by_run : ((run : Run) → Stands (front ++ written ∷ []) (base_after base run.cluster) (total + run.len)
        → fault_or (runs_behind clusters (base_after base run.cluster) (total + run.len) runs end) None ≡ first_wrong clusters (front ++ written ∷ []) runs end)
        → (checked : Result Run RunFault) → checked_run clusters base total written ≡ checked
        → fault_or (followed_by checked (λ run. runs_behind clusters (base_after base run.cluster) (total + run.len) runs end)) None
        ≡ fault_or checked (first_wrong clusters (front ++ written ∷ []) runs end)
    by_run behind (Err fault) is = refl
    by_run behind (Ok run) is =
        fault_or-behind (run ∷ []) (runs_behind clusters (base_after base run.cluster) (total + run.len) runs end)
        ∙ behind run (stands_next clusters base total front written run stands (checked_run-ok clusters base total written run is).2)

fault_is_first : (clusters : ℕ) (bytes : List ℕ) → fault_or (decoded_runs clusters bytes) None ≡ first_damage clusters bytes
fault_is_first clusters bytes = runs_checked clusters 0 0 [] (run_list bytes).runs (run_list bytes).damage (record { base_is = refl; total_is = refl })

is_fault : {X : Type 0} (result : Result X RunFault) (fault : RunFault) → (result ≡ Err fault) ↔ (fault_or result None ≡ Some fault)
unfolding fault_or
is_fault (Ok x) fault = (λ is. absurd (cc), λ is. absurd (cc))
is_fault (Err other) fault = (λ is. cc, λ is. cc)

is_value : {X : Type 0} (result : Result X RunFault) → IsOk result ↔ (fault_or result None ≡ None)
unfolding fault_or
is_value (Ok x) = (λ is. refl, λ is. refl)
is_value (Err other) = (λ is. absurd (cc), λ is. absurd (cc))

-- a damage is told exactly where it is the first, and runs exactly where nothing is wrong
pub decoded_damage : (clusters : ℕ) (bytes : List ℕ) (fault : RunFault) → (decoded_runs clusters bytes ≡ Err fault) ↔ (first_damage clusters bytes ≡ Some fault)
decoded_damage clusters bytes fault =
    let told = is_fault (decoded_runs clusters bytes) fault in
    (λ is. sym (fault_is_first clusters bytes) ∙ told.0 is, λ first. told.1 (fault_is_first clusters bytes ∙ first))

pub decoded_sound : (clusters : ℕ) (bytes : List ℕ) → IsOk (decoded_runs clusters bytes) ↔ (first_damage clusters bytes ≡ None)
decoded_sound clusters bytes =
    let told = is_value (decoded_runs clusters bytes) in
    (λ ok. sym (fault_is_first clusters bytes) ∙ told.0 ok, λ none. told.1 (fault_is_first clusters bytes ∙ none))

-- a damage, or none, but no want of memory
abbrev IsDamage : Option RunFault → Type 0
IsDamage (Some NoMemory) = ⊥
IsDamage fault = Unit {0}

damage-if : (test : Bool) (fault : RunFault) (behind : Option RunFault) → IsDamage (Some fault) → IsDamage behind → IsDamage (if test then Some fault else behind)
damage-if true fault behind here there = here
damage-if false fault behind here there = there

damage-begin : (clusters at len : ℕ) (begin : Option ℤ) (behind : Option RunFault) → IsDamage behind → IsDamage (first_of (begin_checks clusters at len begin) behind)
damage-begin clusters at len None behind there = there
damage-begin clusters at len (Some (negsuc n)) behind there = tt
damage-begin clusters at len (Some (pos first)) behind there = damage-if (nat_lt clusters (first + len)) (Outside at first) behind tt there

damage-runs : (clusters : ℕ) (front runs : List WrittenRun) (end : Option RunFault) → IsDamage end → IsDamage (first_wrong clusters front runs end)
damage-runs clusters front [] end there = there
damage-runs clusters front (run ∷ runs) end there =
    let behind : Option RunFault = first_wrong clusters (front ++ run ∷ []) runs end in
    let begun : Option RunFault = first_of (begin_checks clusters run.at run.len (begin_behind front run.offset)) behind in
    damage-if (run.len == 0) (ZeroRun run.at) (if nat_lt (2 ^ 48) (sum_of_lengths front + run.len) then Some (TooLong run.at) else begun) tt
    (damage-if (nat_lt (2 ^ 48) (sum_of_lengths front + run.len)) (TooLong run.at) begun tt
    (damage-begin clusters run.at run.len (begin_behind front run.offset) behind (damage-runs clusters (front ++ run ∷ []) runs end there)))

-- what begins at a place is no want of memory
damage-at : (bytes : List ℕ) (at : ℕ) → IsDamage (fault_or (run_at bytes at) None)
unfolding fault_or run_at run_behind
damage-at bytes at =
    let header = slice_index bytes at in
    cases (nat_le (length bytes) at) (header == 0) (nat_lt 8 (length_bytes header) || nat_lt 8 (offset_bytes header))
    (nat_lt (length bytes) (at + 1 + length_bytes header + offset_bytes header))
  where
    cases : (past ends long short : Bool)
        → IsDamage (fault_or (if past then Err (Short at) else (if ends then Ok None else (if long then Err (TooLong at) else (if short then Err (Short at) else Ok (Some (run_with bytes at (slice_index bytes at))))))) None)
    cases true ends long short = tt
    cases false true long short = tt
    cases false false true short = tt
    cases false false false true = tt
    cases false false false false = tt

damage-list : (first : Result (Option WrittenRun) RunFault) (behind : ℕ → RunList) → IsDamage (fault_or first None)
    → ((next : ℕ) → IsDamage (behind next).damage) → IsDamage (list_with first behind).damage
unfolding fault_or
damage-list (Ok (Some run)) behind here there = there run.next
damage-list (Ok None) behind here there = tt
damage-list (Err fault) behind here there = here

damage-within : (count : ℕ) (bytes : List ℕ) (at : ℕ) → IsDamage (list_within count bytes at).damage
unfolding list_within
damage-within zero bytes at = tt
damage-within (suc count) bytes at = damage-list (run_at bytes at) (list_within count bytes) (damage-at bytes at) (damage-within count bytes)

pub decoded_memory : (clusters : ℕ) (bytes : List ℕ) → decoded_runs clusters bytes ≢ Err NoMemory
unfolding fault_or list_from
decoded_memory clusters bytes is =
    subst IsDamage (sym (fault_is_first clusters bytes) ∙ ap (λ result. fault_or result None) is)
    (damage-runs clusters [] (run_list bytes).runs (run_list bytes).damage (damage-within (length bytes - 0) bytes 0))
