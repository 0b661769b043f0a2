-- Laws of what a disk holds after changes.
use Rattle.std.proofs.Common.{◌≡◌, ℕ, ◌+◌, ◌≤◌, max, Some, List, ◌++◌, length, take, drop, refl, ap, arith, length-append, length-take, length-drop}
use Rattle.disk_defs.specs.Story.{Change, Write, Cut, Sync, Made, Story, overwritten, held_by, and_then}
use Rattle.disk_defs.specs.Disk.{State, MayWrite, state_told, state_after}
use Rattle.disk_defs.specs.declared.Area.TheVariants.{Image, Journal}

-- an area is as long as a write takes
pub length-overwritten : (old bytes : List ℕ) (at : ℕ) → at ≤ length old → length (overwritten old at bytes) ≡ max (length old) (at + length bytes)
unfolding overwritten
length-overwritten old bytes at within = omega (
  arith,
  length-append (take at old) (bytes ++ drop (at + length bytes) old),
  length-append bytes (drop (at + length bytes) old),
  length-take at old,
  length-drop (at + length bytes) old,
)

-- a store that tells this past and has these sizes
abbrev of_sizes : Story → ℕ → ℕ → State
of_sizes story image journal = record { sizes = record { image = image; journal = journal }; told = Some story }

-- a change may be made: a write lies where bytes may be written, and a cut makes the journal no longer
abbrev pub MayChange : Change → State → Type 0
MayChange (Write area at bytes) state = MayWrite area at (length bytes) state
MayChange (Cut len) state = len ≤ state.sizes.journal
MayChange Sync state = Unit {0}

-- a store that tells its past, after one more change, is the store after that change
pub state_told_after : (change : Change) (story : Story) → MayChange change (state_told story)
    → state_told (and_then (Made change) story) ≡ state_after change (state_told story)
state_told_after (Write Image at bytes) story may =
    ap (λ image. of_sizes (and_then (Made (Write Image at bytes)) story) image (length (held_by story).journal))
    (omega (arith, may, length-overwritten (held_by story).image bytes at (omega (arith, may))))
state_told_after (Write Journal at bytes) story may =
    ap (λ journal. of_sizes (and_then (Made (Write Journal at bytes)) story) (length (held_by story).image) journal)
    (length-overwritten (held_by story).journal bytes at may)
state_told_after (Cut len) story may =
    ap (λ journal. of_sizes (and_then (Made (Cut len)) story) (length (held_by story).image) journal)
    (length-take len (held_by story).journal)
state_told_after Sync story may = refl
