-- The disk: two areas, an image and a journal.
use Rattle.std.specs.Prelude.{◌≡◌, ℕ, ◌+◌, ◌^◌, ◌<◌, ◌≤◌, ◌⊎◌, max, min, Option, None, Some, IfSome, List, [], ◌∷◌, length}
use Rattle.std.specs.Option.{option_map}
use Rattle.bytes_defs.specs.Bytes.{part}
use Rattle.disk_defs.specs.Story.{Held, Change, Write, Cut, Sync, Made, Failed, Story, held_by, and_then, IsPartly}
use Rattle.disk_defs.specs.declared.Area.{Area}
use Rattle.disk_defs.specs.declared.Area.TheVariants.{Image, Journal}

-- the sizes of both areas, in bytes
pub record Sizes : Type 0 where
  pub image : ℕ
  pub journal : ℕ

-- a store: the sizes of its areas and, where it tells that, its past
pub record State : Type 0 where
  pub sizes : Sizes
  pub told : Option Story

-- a store that tells this past
abbrev pub state_told : Story → State
state_told story = record {
  sizes = record { image = length (held_by story).image; journal = length (held_by story).journal };
  told = Some story;
}

-- what a store holds, where it tells that
abbrev pub held : State → Option Held
held state = option_map held_by state.told

abbrev pub size_of : Area → State → ℕ
size_of Image state = state.sizes.image
size_of Journal state = state.sizes.journal

abbrev pub bytes_of : Area → Held → List ℕ
bytes_of Image held = held.image
bytes_of Journal held = held.journal

-- what an area holds, where the store tells that
abbrev pub told_of : Area → State → Option (List ℕ)
told_of area state = option_map (bytes_of area) (held state)

-- the image, where the store tells it
abbrev pub told_image : State → Option (List ℕ)
told_image state = told_of Image state

-- the journal, where the store tells it
abbrev pub told_journal : State → Option (List ℕ)
told_journal state = told_of Journal state

-- each size is a number of 64 bits
abbrev pub SizesFit : State → Type 0
SizesFit state = (area : Area) → size_of area state < 2 ^ 64

-- what is told has the sizes
abbrev pub TellsItsSizes : State → Type 0
TellsItsSizes state = (area : Area) → IfSome (told_of area state) (λ bytes. length bytes ≡ size_of area state)

-- what was read from a place of an area is what the area holds there
abbrev pub ReadsFrom : Area → ℕ → State → List ℕ → Type 0
ReadsFrom area at state read = IfSome (told_of area state) (λ bytes. read ≡ part bytes at (length read))

-- so many bytes may be written from a place of an area on: in the image they lie inside it, and in the journal they begin at
-- most at its end
abbrev pub MayWrite : Area → ℕ → ℕ → State → Type 0
MayWrite Image at len state = at + len ≤ state.sizes.image
MayWrite Journal at len state = at ≤ state.sizes.journal

-- the sizes after a change: a write may make the journal longer, and a cut makes it shorter
abbrev pub sizes_after : Change → Sizes → Sizes
sizes_after (Write Image at bytes) sizes = sizes
sizes_after (Write Journal at bytes) sizes = record sizes { journal = max sizes.journal (at + length bytes) }
sizes_after (Cut len) sizes = record sizes { journal = min len sizes.journal }
sizes_after Sync sizes = sizes

-- a store after a change that was made
abbrev pub state_after : Change → State → State
state_after change state = record { sizes = sizes_after change state.sizes; told = option_map (and_then (Made change)) state.told }

-- a store after these changes, one after the other
abbrev pub state_after_all : List Change → State → State
state_after_all [] state = state
state_after_all (change ∷ changes) state = state_after_all changes (state_after change state)

-- the size of the image stays, and that of the journal is between what it was and what the change would make it
abbrev pub AreSizesBetween : Change → Sizes → Sizes → Type 0
AreSizesBetween change before now =
    (now.image ≡ before.image) × (min before.journal (sizes_after change before).journal ≤ now.journal)
    × (now.journal ≤ max before.journal (sizes_after change before).journal)

-- the past of a store, where it is told, after a change that failed: the change wasn't begun, or it was carried out in some
-- part, and this is what it left
abbrev pub IsToldAfterFailed : Change → Option Story → Option Story → Type 0
IsToldAfterFailed change None now = now ≡ None
IsToldAfterFailed change (Some story) now =
    (now ≡ Some story) ⊎ ((left : Held) × IsPartly change (held_by story) left × (now ≡ Some (and_then (Failed change left) story)))

-- a store before and after a change that failed
abbrev pub IsAfterFailed : Change → State → State → Type 0
IsAfterFailed change before now = AreSizesBetween change before.sizes now.sizes × IsToldAfterFailed change before.told now.told
