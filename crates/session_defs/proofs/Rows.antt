-- A session worked out by hand: three bytes of an image of eight.
use Rattle.std.specs.Prelude.{◌≡◌, ℕ, set, false, true, List, [], ◌∷◌, refl}
use Rattle.disk_defs.specs.Story.{Change, Cut, Sync, Write, overwritten}
use Rattle.disk_defs.specs.declared.Area.TheVariants.{Image, Journal}
use Rattle.journal_defs.proofs.Rows.{three_bytes_in, behind_gate}
use Rattle.journal_defs.specs.Form.{header_rest, journal_bytes, line_bytes, little, range_bytes}
use Rattle.rx_ranges.specs.declared.plan.Plan.{Plan}
use Rattle.session_defs.specs.Outcome.{changed_all, done_journal, filled, filled_from}
use Rattle.session_defs.specs.Script.{changes_of, journal_calls, rest_of, script, unmarked_calls, writes}

-- `unfolding computing` opens how the calls are made and what they change
unfoldable computing : Unit {0}
unfolding little range_bytes line_bytes header_rest journal_bytes overwritten writes journal_calls unmarked_calls filled_from
computing = tt

-- rule 1 fills three bytes, from byte 2 on, with 0x58
abbrev three_bytes : Plan
three_bytes = three_bytes_in 8 2

abbrev image : List ℕ
image = 0x10 ∷ 0x11 ∷ 0x12 ∷ 0x13 ∷ 0x14 ∷ 0x15 ∷ 0x16 ∷ 0x17 ∷ []

abbrev image_filled : List ℕ
image_filled = 0x10 ∷ 0x11 ∷ 0x58 ∷ 0x58 ∷ 0x58 ∷ 0x15 ∷ 0x16 ∷ 0x17 ∷ []

-- its journal behind the gate, with no mark
abbrev body : List ℕ
body = behind_gate (0x08 ∷ 0x00 ∷ 0x00 ∷ 0x00 ∷ 0x00 ∷ 0x00 ∷ 0x00 ∷ 0x00 ∷ []) (0x02 ∷ 0x00 ∷ 0x00 ∷ 0x00 ∷ 0x00 ∷ 0x00 ∷ 0x00 ∷ 0x00 ∷ []) 0

abbrev journal_filled : List ℕ
journal_filled = set (set (0x4F ∷ body) 73 0x44) 74 0x44

-- the calls that are left where no mark is set
abbrev fill_and_marks : List Change
fill_and_marks =
    Write Image 2 (0x58 ∷ 0x58 ∷ 0x58 ∷ []) ∷ Sync ∷ Write Journal 73 (0x44 ∷ []) ∷ Sync ∷ Write Journal 74 (0x44 ∷ []) ∷ Sync ∷ []

calls_left :
    -- all calls
    (changes_of (script three_bytes) ≡ Cut 0 ∷ Sync ∷ Write Journal 0 (0 ∷ []) ∷ Sync ∷ Write Journal 1 body ∷ Sync ∷ Write Journal 0 (0x4F ∷ []) ∷ Sync ∷ fill_and_marks)
    × (changes_of (rest_of three_bytes (false ∷ []) false) ≡ fill_and_marks)  -- what is left
    × (changes_of (rest_of three_bytes (true ∷ []) false) ≡ Sync ∷ Write Journal 74 (0x44 ∷ []) ∷ Sync ∷ [])  -- one mark left
unfolding computing
calls_left = (refl, refl, refl)

nothing_left : rest_of three_bytes (true ∷ []) true ≡ []
nothing_left = refl

left_filled :
    -- whatever the journal was
    (changed_all (changes_of (script three_bytes)) (record { image = image; journal = 0x4F ∷ 0x01 ∷ [] }) ≡ record { image = image_filled; journal = journal_filled })
    × (done_journal three_bytes ≡ journal_filled)  -- done
    × (filled three_bytes.ranges image ≡ image_filled)  -- planned
    -- from no mark on
    × (changed_all (changes_of (rest_of three_bytes (false ∷ []) false)) (record { image = image; journal = 0x4F ∷ body }) ≡ record { image = image_filled; journal = journal_filled })
unfolding computing
left_filled = (refl, refl, refl, refl)
