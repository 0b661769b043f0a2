-- What is read of a journal, part by part.
use Rattle.std.specs.Prelude.{◌≡◌, ℕ, ◌+◌, ◌<◌, ◌≤◌, All, None, Option, IfSome, Result, Ok, Err, List, length}
use Rattle.bytes_defs.specs.Bytes.{part}
use Rattle.journal_defs.specs.Checks.{Check, first_failing}
use Rattle.journal_format.specs.Says.{FailsWith}
use Rattle.journal_format.specs.declared.fault.JournalFault.{JournalFault}
use Rattle.journal_format.specs.declared.window.TheConstants.{WINDOW_LEN}
use Rattle.journal_format.specs.declared.window.Window.{Window}

-- Bytes that were read from one place up to another: those of the journal that is told. Of each list of bytes that has them
-- there, this holds.
pub record IsPart (told : Option (List ℕ)) (from to : ℕ) (P : List ℕ → Type 0) : Type 0 where
  pub bytes : List ℕ
  pub are_bytes : All (λ byte. byte < 256) bytes
  pub reaches : from + length bytes ≡ to
  pub are_told : IfSome told (λ journal. part journal from (length bytes) ≡ bytes)
  pub says : (whole : List ℕ) → part whole from (length bytes) ≡ bytes → P whole

-- What reading a part from a place on answers, of lists of bytes of which this is given. A value: up to a place that it tells,
-- bytes are read which pass their checks, and which are what this says of it. A fault: it is that of the checks of the journal
-- that is told.
abbrev pub ReadsPart : {X : Type 0} → Option (List ℕ) → ℕ → (X → ℕ) → (List ℕ → Type 0) → (List ℕ → List Check) → (X → List ℕ → Type 0) → Result X JournalFault → Type 0
ReadsPart told from to Given checks Is (Ok value) = IsPart told from (to value) (λ whole. Given whole → (first_failing (checks whole) ≡ None) × Is value whole)
ReadsPart told from to Given checks Is (Err fault) = IfSome told (λ journal. Given journal → FailsWith (checks journal) fault)

-- nothing is given
abbrev pub Always : List ℕ → Type 0
Always bytes = Unit {0}

-- a window on a journal of this size: its bytes are those of the journal that is told
pub record IsWindow (told : Option (List ℕ)) (size : ℕ) (window : Window) : Type 0 where
  pub room : length window.room.items ≡ WINDOW_LEN
  pub filled : window.filled ≤ WINDOW_LEN
  pub sized : window.size ≡ size
  pub tells : IfSome told (λ journal. part window.room.items 0 window.filled ≡ part journal window.place window.filled)

-- a window has so many bytes from a place on
abbrev pub HasBytes : Window → ℕ → ℕ → Type 0
HasBytes window at len = (window.place ≤ at) × (at + len ≤ window.place + window.filled)
