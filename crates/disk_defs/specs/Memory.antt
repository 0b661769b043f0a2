-- A store, a source and a sink in memory: what contracts see of them.
use Rattle.std.specs.Prelude.{ℕ, ◌+◌, ◌-◌, ◌^◌, ◌<◌, Bool, true, false, Contains, ◌&&◌, nat_le, nat_lt, Option, List, [], length, refl}
use Rattle.disk_defs.specs.Count.{Faults}
use Rattle.disk_defs.specs.Story.{Held, Change, Write, Cut, Sync, Story, held_by}
use Rattle.disk_defs.specs.Disk.{State, state_told, SizesFit, TellsItsSizes}
use Rattle.disk_defs.specs.declared.Area.TheVariants.{Image, Journal}

-- both sizes fit 64 bits
abbrev pub FitsInMemory : Held → Type 0
FitsInMemory held = (length held.image < 2 ^ 64) × (length held.journal < 2 ^ 64)

-- how much room a store in memory has left: the greatest length of its journal, how many changes may still come, and how many
-- bytes may still be written
pub record Room : Type 0 where
  pub journal : ℕ
  pub changes : ℕ
  pub bytes : ℕ

-- a store in memory: its past, after which it holds what fits memory, the room that it has left, the numbers of the calls
-- that fail, and how many calls were made and failed, all of them and by the area
pub record StoreInMemory : Type 0 where
  pub story : Story
  pub fits : FitsInMemory (held_by story)
  pub room : Room
  pub failing : List ℕ
  pub calls : ℕ
  pub failed : ℕ
  pub faults : Faults

-- what a store in memory holds
abbrev pub held_in_memory : StoreInMemory → Held
held_in_memory store = held_by store.story

-- a store in memory tells its past
abbrev pub state_in_memory : StoreInMemory → State
state_in_memory store = state_told store.story

pub tells_its_sizes_in_memory : (store : StoreInMemory) → TellsItsSizes (state_in_memory store)
tells_its_sizes_in_memory store Image = refl
tells_its_sizes_in_memory store Journal = refl

pub sizes_fit_in_memory : (store : StoreInMemory) → SizesFit (state_in_memory store)
sizes_fit_in_memory store Image = store.fits.0
sizes_fit_in_memory store Journal = store.fits.1

-- whether there is room for a change
abbrev pub has_room : Change → Room → Bool
has_room (Write Image at bytes) room = nat_lt 0 room.changes && nat_le (length bytes) room.bytes
has_room (Write Journal at bytes) room = nat_lt 0 room.changes && (nat_le (length bytes) room.bytes && nat_le (at + length bytes) room.journal)
has_room (Cut len) room = nat_lt 0 room.changes
has_room Sync room = nat_lt 0 room.changes

-- why a change fails: its number was named, or there is no room for it
abbrev pub IsRefused : List ℕ → ℕ → Bool → Type 0
IsRefused failing call true = Contains failing call
IsRefused failing call false = Unit {0}

-- the room that is left after a change
abbrev pub room_after : Change → Room → Room
room_after (Write area at bytes) room = record room { changes = room.changes - 1; bytes = room.bytes - length bytes }
room_after (Cut len) room = record room { changes = room.changes - 1 }
room_after Sync room = record room { changes = room.changes - 1 }

-- a source in memory: what is still to come, the number of the read that fails, and how many reads were made and failed
pub record SourceInMemory : Type 0 where
  pub rest : List ℕ
  pub failing : Option ℕ
  pub reads : ℕ
  pub faults : ℕ

-- a source of this text, before its first read
abbrev pub source_of : List ℕ → Option ℕ → SourceInMemory
source_of text failing = record { rest = text; failing = failing; reads = 0; faults = 0 }

-- a sink in memory: what it took, how much it takes in all, and how many writes failed
pub record SinkInMemory : Type 0 where
  pub bytes : List ℕ
  pub room : ℕ
  pub faults : ℕ

-- a sink with this much room, before its first write
abbrev pub sink_with_room : ℕ → SinkInMemory
sink_with_room room = record { bytes = []; room = room; faults = 0 }
