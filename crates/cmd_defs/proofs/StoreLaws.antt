-- Laws of stores that were synced and then carried out a plan.
use Rattle.std.proofs.Common.{◌≡◌, ℕ, Bool, Option, Some, None, IfSome, List, length, refl, ◌∙◌, ap, subst}
use Rattle.std.specs.Option.{option_map}
use Rattle.disk_defs.specs.Story.{Held, Change, Story, Made, Sync, held_by, and_then}
use Rattle.disk_defs.specs.Disk.{State, held, told_of, bytes_of, state_after, state_after_all}
use Rattle.disk_defs.specs.declared.Area.{Area}
use Rattle.rx_ranges.specs.PlanChecks.{IsPlan}
use Rattle.rx_ranges.specs.declared.plan.Plan.{Plan}
use Rattle.session_defs.specs.Script.{script, rest_of, changes_of}
use Rattle.session_defs.specs.Outcome.{filled, unmarked_ranges, changed_all}
use Rattle.session_defs.proofs.Made.{held_law}
use Rattle.session_defs.proofs.OutcomeLaws.{script_law, rest_law}
use Rattle.cmd_defs.specs.JournalFacts.{HoldsPlan, IsCarriedOut}

synced_told : (told : Option Story) → option_map held_by (option_map (and_then (Made Sync)) told) ≡ option_map held_by told
synced_told None = refl
synced_told (Some story) = refl

-- a sync changes nothing that is held
pub held_synced : (state : State) → held (state_after Sync state) ≡ held state
held_synced state = synced_told state.told

-- what holds of the bytes of an area holds of those among what is held
pub of_area : (area : Area) (told : Option Held) (Q : List ℕ → Type 0) → IfSome (option_map (bytes_of area) told) Q → IfSome told (λ held. Q (bytes_of area held))
of_area area None Q holds = tt
of_area area (Some held) Q holds = holds

-- the same, of a store that was synced
pub of_synced : (area : Area) (before synced : State) (Q : List ℕ → Type 0) → synced ≡ state_after Sync before → IfSome (told_of area synced) Q
    → IfSome (held before) (λ held. Q (bytes_of area held))
of_synced area before synced Q is holds =
    of_area area (held before) Q (subst (λ told. IfSome (option_map (bytes_of area) told) Q) (ap held is ∙ held_synced before) holds)

-- what is held after changes behind a sync
held_after_changes : (changes : List Change) (before now : State) (first : Held) → now ≡ state_after_all changes (state_after Sync before) → held before ≡ Some first
    → held now ≡ Some (changed_all changes first)
held_after_changes changes before now first is told =
    ap held is ∙ held_law changes (state_after Sync before) ∙ ap (option_map (changed_all changes)) (held_synced before ∙ told)

-- all calls of a plan were made
pub script_carried : (plan : Plan) (before now : State) (first : Held) → IsPlan plan → length first.image ≡ plan.image_len → held before ≡ Some first
    → now ≡ state_after_all (changes_of (script plan)) (state_after Sync before) → IsCarriedOut (changes_of (script plan)) plan (filled plan.ranges first.image) before now
script_carried plan before now first is_plan sized told is = record {
  changed = is;
  holds = held_after_changes (changes_of (script plan)) before now first is told ∙ ap Some (script_law plan first is_plan sized);
}

-- all calls were made that were left of a journal
pub rest_carried : (plan : Plan) (groups : List Bool) (last : Bool) (before now : State) (first : Held) → HoldsPlan first.journal plan groups last
    → length first.image ≡ plan.image_len → held before ≡ Some first → now ≡ state_after_all (changes_of (rest_of plan groups last)) (state_after Sync before)
    → IsCarriedOut (changes_of (rest_of plan groups last)) plan (filled (unmarked_ranges plan 0 groups) first.image) before now
rest_carried plan groups last before now first holds sized told is = record {
  changed = is;
  holds = held_after_changes (changes_of (rest_of plan groups last)) before now first is told ∙ ap Some (rest_law plan groups last first holds.is_plan sized holds.is_journal);
}
