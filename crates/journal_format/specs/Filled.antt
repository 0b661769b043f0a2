-- A piece of a journal that is being filled.
use Rattle.std.specs.Prelude.{◌≡◌, ℕ, ◌+◌, ◌<◌, List, ◌++◌, length, drop, slice_index}

-- in the piece from `at` on, each byte of the journal in front of a place stands
abbrev pub IsFilledTo : List ℕ → ℕ → ℕ → List ℕ → Type 0
IsFilledTo journal at place piece = (k : ℕ) → k < length piece → at + k < place → slice_index piece k ≡ slice_index journal (at + k)

-- where these bytes stand at a place of a journal, a piece of it that was filled up to them is filled with them now
unfoldable pub FillsNext : ℕ → ℕ → List ℕ → List ℕ → List ℕ → Type 0
FillsNext at place bytes before now =
    (journal rest : List ℕ) → drop place journal ≡ bytes ++ rest → IsFilledTo journal at place before → IsFilledTo journal at (place + length bytes) now
