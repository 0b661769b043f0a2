-- A record looks at no byte that is a place of its own resident content. So a record with other content says the same.
use Rattle.std.specs.Prelude.{◌≡◌, ℕ, ◌<◌, Option, Some}
use Rattle.ntfs_record_defs.specs.Record.{FileRecord, IsContentPlace}

-- no place of content
abbrev pub NoContentPlace : FileRecord → ℕ → Type 0
NoContentPlace found byte = IsContentPlace found byte → ⊥

-- some stored byte of the record has this place, and is no place of its content
abbrev pub IsKept : (ℕ → Option ℕ) → ℕ → FileRecord → ℕ → Type 0
IsKept place size found byte = (q : ℕ) × (q < size) × (place q ≡ Some byte) × NoContentPlace found q
