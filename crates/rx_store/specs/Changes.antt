-- The changes to a store in memory as they are recorded: the bytes of a write stand in a log.
use Rattle.std.specs.Prelude.{◌≡◌, ℕ, ◌+◌, ◌≤◌, List, length, map, reverse, vec_len, vec_capacity}
use Rattle.std.specs.declared.vec.Vec.{Vec}
use Rattle.bytes_defs.specs.Bytes.{part}
use Rattle.disk_defs.specs.Story.{Held, Change, Event, Made, Story, held_by}
use Rattle.disk_defs.specs.declared.Area.{Area}
use Rattle.disk_defs.specs.declared.Area.TheVariants.{Image, Journal}
use Rattle.disk_defs.specs.Story as story
use Rattle.rx_store.specs.declared.changes.Recorded.{Recorded}
use Rattle.rx_store.specs.declared.changes.Recorded.TheVariants.{Write, Cut, Sync}

-- the change that is recorded so
abbrev pub change_of : List ℕ → Recorded → Change
change_of log (Write area at from len) = story.Write area at (part log from len)
change_of log (Cut len) = story.Cut len
change_of log Sync = story.Sync

-- its bytes stand in the log
abbrev pub IsInLog : List ℕ → Recorded → Type 0
IsInLog log (Write area at from len) = from + len ≤ length log
IsInLog log (Cut len) = Unit {0}
IsInLog log Sync = Unit {0}

-- what these records tell, the newest first
abbrev pub events_of : List ℕ → List Recorded → List Event
events_of log records = reverse (map (λ recorded. Made (change_of log recorded)) records)

-- what is seen of recorded changes: the past that they tell, how many changes may still come, and how many bytes may still be
-- written
pub record Recording : Type 0 where
  pub story : Story
  pub changes : ℕ
  pub bytes : ℕ

-- what two vectors hold
abbrev pub held_of : {Z : Type 0} → Vec ℕ Z → Vec ℕ Z → Held
held_of image journal = record { image = image.items; journal = journal.items }

-- a past after which they hold what they do
abbrev pub IsHeldAs : {Z : Type 0} → Story → Vec ℕ Z → Vec ℕ Z → Type 0
IsHeldAs story image journal = held_by story ≡ held_of image journal

-- so many bytes may be written from a place of an area on, and there is room for them
abbrev pub FitsIn : {Z : Type 0} → Area → ℕ → ℕ → Vec ℕ Z → Vec ℕ Z → Type 0
FitsIn Image at len image journal = at + len ≤ vec_len image
FitsIn Journal at len image journal = (at ≤ vec_len journal) × (at + len ≤ vec_capacity journal)
