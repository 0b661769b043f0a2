-- What was done to a disk since it was made: the changes, each as it came out, and what the disk holds after them.
use Rattle.std.specs.Prelude.{◌≡◌, ℕ, ◌+◌, ◌<◌, ◌≤◌, ◌⊎◌, max, min, List, [], ◌∷◌, ◌++◌, length, take, drop, slice_get}
use Rattle.disk_defs.specs.declared.Area.{Area}
use Rattle.disk_defs.specs.declared.Area.TheVariants.{Image, Journal}

-- what both areas hold
pub record Held : Type 0 where
  pub image : List ℕ
  pub journal : List ℕ

-- a call that changes what a disk holds, or what a crash may leave of it: a write of bytes from a place of an area on, a
-- cut of the journal to a length, or a sync of both areas
pub data Change : Type 0 where
  Write : Area → ℕ → List ℕ → Change
  Cut : ℕ → Change
  Sync : Change

-- the bytes of an area after a write of these from a place on: the area is as long as that takes
unfoldable pub overwritten : List ℕ → ℕ → List ℕ → List ℕ
overwritten old at bytes = take at old ++ (bytes ++ drop (at + length bytes) old)

-- what both areas hold after a change
abbrev pub changed : Change → Held → Held
changed (Write Image at bytes) held = record held { image = overwritten held.image at bytes }
changed (Write Journal at bytes) held = record held { journal = overwritten held.journal at bytes }
changed (Cut len) held = record held { journal = take len held.journal }
changed Sync held = held

-- a change that was made, or one that failed and left this
pub data Event : Type 0 where
  Made : Change → Event
  Failed : Change → Held → Event

-- the past of a disk: what it held at first, and the events since, the newest first
pub record Story : Type 0 where
  pub first : Held
  pub events : List Event

-- what both areas hold after these events, the newest first
abbrev pub held_after : Held → List Event → Held
held_after first [] = first
held_after first (Made change ∷ events) = changed change (held_after first events)
held_after first (Failed change left ∷ events) = left

-- what a disk with this past holds
abbrev pub held_by : Story → Held
held_by story = held_after story.first story.events

-- the past with one more event
abbrev pub and_then : Event → Story → Story
and_then event story = record story { events = event ∷ story.events }

-- the same bytes outside a range
abbrev pub AreSameOutside : ℕ → ℕ → List ℕ → List ℕ → Type 0
AreSameOutside at len old new =
    (byte : ℕ) → (byte < at) ⊎ (at + len ≤ byte) → byte < length old → byte < length new → slice_get new byte ≡ slice_get old byte

-- What a change that wasn't carried to its end may make of what both areas held: of a write any bytes in its range, and of a
-- journal that would grow or be cut any length between the two.
abbrev pub IsPartly : Change → Held → Held → Type 0
IsPartly (Write Image at bytes) old new =
    (new.journal ≡ old.journal) × (length new.image ≡ length old.image) × AreSameOutside at (length bytes) old.image new.image
IsPartly (Write Journal at bytes) old new =
    (new.image ≡ old.image) × (length old.journal ≤ length new.journal)
    × (length new.journal ≤ max (length old.journal) (at + length bytes)) × AreSameOutside at (length bytes) old.journal new.journal
IsPartly (Cut len) old new =
    (new.image ≡ old.image) × (new.journal ≡ take (length new.journal) old.journal) × (min len (length old.journal) ≤ length new.journal)
IsPartly Sync old new = new ≡ old
