-- Streams of bytes: what a source still gives, and what a sink took.
use Rattle.std.specs.Prelude.{◌≡◌, ℕ, ◌≤◌, Option, None, Some, List, ◌++◌, length, take, drop}
use Rattle.std.specs.Option.{option_map}

-- the first `count` bytes that were still to come stand in the buffer's first places
abbrev pub GivesFirst : Option (List ℕ) → List ℕ → ℕ → Type 0
GivesFirst None buffer count = Unit {0}
GivesFirst (Some rest) buffer count = (count ≤ length rest) × (take count buffer ≡ take count rest)

-- what is still to come after `count` bytes
abbrev pub rest_after : Option (List ℕ) → ℕ → Option (List ℕ)
rest_after rest count = option_map (drop count) rest

-- what was taken after these bytes came too
abbrev pub taken_with : Option (List ℕ) → List ℕ → Option (List ℕ)
taken_with taken bytes = option_map (λ before. before ++ bytes) taken

-- of a piece that was to be taken whole, some first bytes were taken and no more
abbrev pub TookPrefixOf : Option (List ℕ) → Option (List ℕ) → List ℕ → Type 0
TookPrefixOf before after bytes = (count : ℕ) × (count ≤ length bytes) × (after ≡ taken_with before (take count bytes))

-- some first bytes of what was still to come have come
abbrev pub IsPartlyRead : Option (List ℕ) → Option (List ℕ) → Type 0
IsPartlyRead before after = (count : ℕ) × (after ≡ rest_after before count)
