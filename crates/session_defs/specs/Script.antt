-- The calls that carry out a plan.
use Rattle.std.specs.Prelude.{ℕ, zero, suc, ◌+◌, ◌-◌, ◌*◌, ◌/◌, Bool, true, false, if◌then◌else◌, replicate, take, drop, List, [], ◌∷◌, ◌++◌, length, map}
use Rattle.std.specs.List.{flat_map}
use Rattle.disk_defs.specs.Story.{Change, Write, Cut, Sync}
use Rattle.disk_defs.specs.declared.Area.{Area}
use Rattle.disk_defs.specs.declared.Area.TheVariants.{Image, Journal}
use Rattle.journal_defs.specs.Form.{first_journal, groups_of, is_complete, listing_len}
use Rattle.journal_defs.specs.declared.TheConstants.{OPEN_GATE, SET_MARK, HEADER_LEN, RANGE_LEN, GROUP_RANGES}
use Rattle.range_defs.specs.declared.Claim.{Claim}
use Rattle.rx_ranges.specs.declared.plan.Plan.{Plan}
use Rattle.session_defs.specs.declared.TheConstants.{PIECE}
use Rattle.session_defs.specs.declared.Turn.{Turn}
use Rattle.session_defs.specs.declared.Turn.TheVariants.{Cleared, Armed, Wrote, Opened, Filled, Marked, Closed, Synced}

-- a call of a script: the change that it makes of the store, and what its turn answers
pub record Call : Type 0 where
  pub turn : Turn
  pub change : Change

-- a sync of both areas
abbrev pub sync : Call
sync = record { turn = Synced; change = Sync }

-- a write to the journal of one byte
abbrev pub byte_call : Turn → ℕ → ℕ → Call
byte_call turn at byte = record { turn = turn; change = Write Journal at (byte ∷ []) }

-- ---- writes in pieces

-- how many pieces so many bytes have
abbrev pub pieces_in : ℕ → ℕ
pieces_in len = (len + (PIECE - 1)) / PIECE

-- so many pieces of bytes that are written to an area from a place on, the last as long as what is left
abbrev pub write_pieces : Turn → Area → ℕ → List ℕ → ℕ → List Call
write_pieces turn area at bytes zero = []
write_pieces turn area at bytes (suc count) =
    record { turn = turn; change = Write area at (take PIECE bytes) } ∷ write_pieces turn area (at + PIECE) (drop PIECE bytes) count

-- bytes that are written to an area from a place on, each piece answered so
unfoldable pub writes : Turn → Area → ℕ → List ℕ → List Call
writes turn area at bytes = write_pieces turn area at bytes (pieces_in (length bytes))

-- ---- the journal

-- the journal is cut, its closed gate and then all else of it are written, and its gate is opened: a sync follows on each
unfoldable pub journal_calls : Plan → List Call
journal_calls plan =
    record { turn = Cleared; change = Cut 0 } ∷ sync ∷ byte_call Armed 0 0 ∷ sync ∷ writes Wrote Journal 1 (drop 1 (first_journal plan))
    ++ sync ∷ byte_call Opened 0 OPEN_GATE ∷ sync ∷ []

-- ---- the image, group by group

-- the ranges of a group
abbrev pub ranges_of_group : Plan → ℕ → List Claim
ranges_of_group plan group = take GROUP_RANGES (drop (GROUP_RANGES * group) plan.ranges)

-- a range is filled
abbrev pub fill_calls : Claim → List Call
fill_calls claim = writes Filled Image claim.range.at (replicate claim.range.len claim.fill)

-- where the mark of a group stands in the journal
abbrev pub mark_place : Plan → ℕ → ℕ
mark_place plan group = HEADER_LEN + RANGE_LEN * length plan.ranges + listing_len plan + group

-- a group is filled, synced and marked
abbrev pub group_calls : Plan → ℕ → List Call
group_calls plan group =
    flat_map fill_calls (ranges_of_group plan group) ++ sync ∷ byte_call (Marked group) (mark_place plan group) SET_MARK ∷ []

-- the groups from a number on that aren't marked
unfoldable pub unmarked_calls : Plan → ℕ → List Bool → List Call
unmarked_calls plan group [] = []
unmarked_calls plan group (true ∷ marks) = unmarked_calls plan (group + 1) marks
unmarked_calls plan group (false ∷ marks) = group_calls plan group ++ unmarked_calls plan (group + 1) marks

-- the last mark is set, which stands behind those of the groups
abbrev pub closing_calls : Plan → List Call
closing_calls plan = sync ∷ byte_call Closed (mark_place plan (groups_of plan)) SET_MARK ∷ sync ∷ []

-- ---- whole scripts

-- no group is marked
abbrev pub unmarked : Plan → List Bool
unmarked plan = replicate (groups_of plan) false

-- the calls that carry out a plan
abbrev pub script : Plan → List Call
script plan = journal_calls plan ++ unmarked_calls plan 0 (unmarked plan) ++ closing_calls plan

-- the calls that are left of them where the journal stands open with these marks: none where all are set
abbrev pub rest_of : Plan → List Bool → Bool → List Call
rest_of plan groups last = if is_complete groups last then [] else unmarked_calls plan 0 groups ++ closing_calls plan

-- what these calls change
abbrev pub changes_of : List Call → List Change
changes_of calls = map (λ call. call.change) calls
