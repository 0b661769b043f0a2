-- Journals worked out by hand.
use Rattle.std.specs.Prelude.{◌≡◌, ◌<◌, ℕ, codes, set, take, true, Option, Some, None, List, [], ◌∷◌, ◌++◌, refl}
use Rattle.std.proofs.Common.{lit<}
use Rattle.std.specs.Str.{is_utf8, chars}
use lib.Utf8.{encode}
use Rattle.std.proofs.lemmas.List.Elements.{All-cons, All-nil}
use Rattle.bytes_defs.specs.Bytes.{part}
use Rattle.bytes_defs.specs.Numbers.{number_at}
use Rattle.journal_defs.specs.Form.{little, range_bytes, line_bytes, header_rest, journal_bytes, first_journal, journal_len, IsJournal}
use Rattle.journal_defs.specs.Reading.{plan_in}
use Rattle.journal_defs.specs.Checks.{first_failing, header_checks, range_checks, ranges_checks, line_checks, lines_checks, bad_at}
use Rattle.rx_ranges.specs.declared.plan.ListKind.TheVariants.{File}
use Rattle.rx_ranges.specs.declared.plan.Plan.{Plan}

-- `unfolding computing` opens how a journal is written and checked
unfoldable computing : Unit {0}
unfolding little range_bytes line_bytes header_rest journal_bytes first_failing header_checks range_checks ranges_checks line_checks lines_checks part number_at is_utf8 chars encode
computing = tt

-- three bytes of an image, from a place on, which rule 1 fills with 0x58, and the name of their file
abbrev pub three_bytes_in : ℕ → ℕ → Plan
three_bytes_in len at = record {
  image_len = len;
  ranges = record { range = record { at = at; len = 3 }; rule = 1; fill = 0x58 } ∷ [];
  listing = record { kind = File; rule = 1; path = codes "/a" } ∷ [];
}

-- its journal behind the gate: the eight bytes of the image's length, those of the place, and both marks
abbrev pub behind_gate : List ℕ → List ℕ → ℕ → List ℕ
behind_gate len at mark =
    (0x44 ∷ 0x46 ∷ 0x52 ∷ 0x4A ∷ 0x20 ∷ 0x76 ∷ 0x31 ∷ []) ++ len
    ++ (0x01 ∷ 0x00 ∷ 0x00 ∷ 0x00 ∷ 0x01 ∷ 0x00 ∷ 0x00 ∷ 0x00
    ∷ 0x23 ∷ 0x00 ∷ 0x00 ∷ 0x00 ∷ 0x00 ∷ 0x00 ∷ 0x00 ∷ 0x00
    ∷ 0x09 ∷ 0x00 ∷ 0x00 ∷ 0x00 ∷ 0x00 ∷ 0x00 ∷ 0x00 ∷ 0x00 ∷ [])
    ++ at
    ++ (0x03 ∷ 0x00 ∷ 0x00 ∷ 0x00 ∷ 0x00 ∷ 0x00 ∷ 0x00 ∷ 0x00
    ∷ 0x01 ∷ 0x00 ∷ 0x00 ∷ 0x00 ∷ 0x58 ∷ 0x00 ∷ 0x00 ∷ 0x00
    ∷ 0x01 ∷ 0x01 ∷ 0x00 ∷ 0x00 ∷ 0x00 ∷ 0x02 ∷ 0x00 ∷ 0x2F ∷ 0x61 ∷ mark ∷ mark ∷ [])

abbrev three_bytes : Plan
three_bytes = three_bytes_in 262144 86016

-- its journal with all marks set
abbrev three_bytes_filled : List ℕ
three_bytes_filled =
    0x4F ∷ behind_gate (0x00 ∷ 0x00 ∷ 0x04 ∷ 0x00 ∷ 0x00 ∷ 0x00 ∷ 0x00 ∷ 0x00 ∷ []) (0x00 ∷ 0x50 ∷ 0x01 ∷ 0x00 ∷ 0x00 ∷ 0x00 ∷ 0x00 ∷ 0x00 ∷ []) 0x44

three_bytes_journal : IsJournal three_bytes_filled three_bytes (true ∷ []) true
unfolding computing
three_bytes_journal = record {
  mark_bytes = 0x44 ∷ [];
  last_byte = 0x44;
  form = refl;
  each_group = refl;
  group_marks = refl;
  last_mark = refl;
  bytes_fit = All-cons (λ byte. byte < 256) 0x44 [] (lit< tt) (All-nil (λ byte. byte < 256));
  last_fits = lit< tt;
}

three_bytes_rows :
    (bad_at three_bytes_filled ≡ None)  -- three bytes pass
    × (plan_in three_bytes_filled ≡ three_bytes)  -- three bytes read
    × (bad_at (take 74 three_bytes_filled) ≡ Some 24)  -- cut by its last byte, its body length is wrong
unfolding computing
three_bytes_rows = (refl, refl, refl)

-- one byte of it changed, check by check
abbrev changed : (at byte : ℕ) → Option ℕ
changed at byte = bad_at (set three_bytes_filled at byte)

changed_bytes :
    (changed 7 0x32 ≡ Some 1)  -- other text
    × (changed 14 1 ≡ Some 8)  -- image too long
    × (changed 19 1 ≡ Some 16)  -- too many ranges
    × (changed 23 1 ≡ Some 20)  -- too many lines
    × (changed 24 0x24 ≡ Some 24)  -- longer body
    × (changed 32 10 ≡ Some 32)  -- longer listing
    × (changed 42 4 ≡ Some 40)  -- behind the image
    × (changed 48 0 ≡ Some 48)  -- empty range
    × (changed 50 4 ≡ Some 48)  -- passes the image
    × (changed 56 0 ≡ Some 56)  -- no rule
    × (changed 57 4 ≡ Some 56)  -- rule 1001
    × (changed 63 1 ≡ Some 61)  -- no three zeros
    × (changed 64 3 ≡ Some 64)  -- no kind
    × (changed 65 0 ≡ Some 65)  -- file without rule
    × (changed 64 2 ≡ Some 65)  -- alias with rule
    × (changed 69 3 ≡ Some 69)  -- path passes the listing
    × (changed 71 0x61 ≡ Some 71)  -- path without slash
    × (changed 72 0x7F ≡ Some 71)  -- path with a control byte
    × (changed 72 0xFF ≡ Some 71)  -- path that is no text
    × (changed 69 1 ≡ Some 72)  -- bytes behind the last line
    × (changed 73 0 ≡ None)  -- a mark is never bad
unfolding computing
changed_bytes = (refl, refl, refl, refl, refl, refl, refl, refl, refl, refl, refl, refl, refl, refl, refl, refl, refl, refl, refl, refl, refl)

-- a plan without ranges and lines
abbrev nothing : Plan
nothing = record { image_len = 262144; ranges = []; listing = [] }

abbrev nothing_filled : List ℕ
nothing_filled =
    0x4F ∷ 0x44 ∷ 0x46 ∷ 0x52 ∷ 0x4A ∷ 0x20 ∷ 0x76 ∷ 0x31
    ∷ 0x00 ∷ 0x00 ∷ 0x04 ∷ 0x00 ∷ 0x00 ∷ 0x00 ∷ 0x00 ∷ 0x00
    ∷ 0x00 ∷ 0x00 ∷ 0x00 ∷ 0x00 ∷ 0x00 ∷ 0x00 ∷ 0x00 ∷ 0x00
    ∷ 0x01 ∷ 0x00 ∷ 0x00 ∷ 0x00 ∷ 0x00 ∷ 0x00 ∷ 0x00 ∷ 0x00
    ∷ 0x00 ∷ 0x00 ∷ 0x00 ∷ 0x00 ∷ 0x00 ∷ 0x00 ∷ 0x00 ∷ 0x00
    ∷ 0x44 ∷ []

nothing_journal : IsJournal nothing_filled nothing [] true
unfolding computing
nothing_journal = record {
  mark_bytes = [];
  last_byte = 0x44;
  form = refl;
  each_group = refl;
  group_marks = refl;
  last_mark = refl;
  bytes_fit = All-nil (λ byte. byte < 256);
  last_fits = lit< tt;
}

first_written :
    (bad_at nothing_filled ≡ None)  -- nothing passes
    × (first_journal nothing ≡ set (set nothing_filled 0 0) 40 0)  -- as it is first written
    × (first_journal three_bytes ≡ set (set (set three_bytes_filled 0 0) 73 0) 74 0)  -- three bytes first
unfolding computing
first_written = (refl, refl, refl)

three_bytes_len : journal_len three_bytes ≡ 75
three_bytes_len = refl
