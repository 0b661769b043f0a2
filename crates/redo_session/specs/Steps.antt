-- Where a session stands: the call that comes next, and all that are left.
use Rattle.std.specs.Prelude.{◌≡◌, ℕ, ◌+◌, ◌-◌, ◌*◌, ◌<◌, ◌≤◌, min, Bool, Option, None, Some, IfSome, replicate, take, drop, List, [], ◌∷◌, ◌++◌, length, slice_index_or}
use Rattle.std.specs.List.{flat_map}
use Rattle.disk_defs.specs.Story.{Write, Cut}
use Rattle.disk_defs.specs.Disk.{Sizes}
use Rattle.disk_defs.specs.declared.Area.TheVariants.{Image, Journal}
use Rattle.journal_defs.specs.Form.{first_journal, groups_of, journal_len}
use Rattle.journal_defs.specs.declared.TheConstants.{OPEN_GATE, SET_MARK, GROUP_RANGES}
use Rattle.range_defs.specs.declared.Claim.{Claim}
use Rattle.journal_format.specs.Cursors.{IsCursor}
use Rattle.journal_format.specs.declared.piece.Cursor.{Cursor}
use Rattle.rx_ranges.specs.declared.plan.Plan.{Plan}
use Rattle.session_defs.specs.Script.{Call, sync, byte_call, writes, fill_calls, mark_place, unmarked_calls, closing_calls}
use Rattle.session_defs.specs.declared.TheConstants.{PIECE}
use Rattle.session_defs.specs.declared.Turn.TheVariants.{Cleared, Armed, Wrote, Opened, Filled, Marked, Closed}
use Rattle.redo_session.specs.declared.step.Step.{Step}
use Rattle.redo_session.specs.declared.step.Step.TheVariants.{Clear, ClearSync, Arm, ArmSync, Body, BodySync, Open, OpenSync, Fill, GroupSync, Mark, CloseSync, Close, LastSync, End}

-- no range
abbrev pub no_claim : Claim
no_claim = record { range = record { at = 0; len = 0 }; rule = 0; fill = 0 }

-- the range with a number
abbrev pub claim_at : Plan → ℕ → Claim
claim_at plan range = slice_index_or plan.ranges range no_claim

-- the first range behind a group
abbrev pub group_end : Plan → ℕ → ℕ
group_end plan group = min (GROUP_RANGES * (group + 1)) (length plan.ranges)

-- the ranges from one on up to a group's end
abbrev pub ranges_up_to : Plan → ℕ → ℕ → List Claim
ranges_up_to plan group range = take (group_end plan group - range) (drop range plan.ranges)

-- the calls from a group on
abbrev pub left_from_group : Plan → List Bool → ℕ → List Call
left_from_group plan marks group = unmarked_calls plan group (drop group marks) ++ closing_calls plan

-- the calls that are left behind the fills of a group
abbrev pub left_behind_fills : Plan → List Bool → ℕ → List Call
left_behind_fills plan marks group = sync ∷ byte_call (Marked group) (mark_place plan group) SET_MARK ∷ left_from_group plan marks (group + 1)

-- the calls from a group's range on
abbrev pub left_from_range : Plan → List Bool → ℕ → ℕ → List Call
left_from_range plan marks group range = flat_map fill_calls (ranges_up_to plan group range) ++ left_behind_fills plan marks group

-- the calls that are left behind the body of the journal
abbrev pub left_behind_body : Plan → List Bool → List Call
left_behind_body plan marks = sync ∷ byte_call Opened 0 OPEN_GATE ∷ sync ∷ left_from_group plan marks 0

-- the calls from a byte of the journal on
abbrev pub left_from_byte : Plan → List Bool → ℕ → List Call
left_from_byte plan marks at = writes Wrote Journal at (drop at (first_journal plan)) ++ left_behind_body plan marks

-- all calls that are left
abbrev pub left : Plan → List Bool → Step → List Call
left plan marks Clear = record { turn = Cleared; change = Cut 0 } ∷ sync ∷ byte_call Armed 0 0 ∷ sync ∷ left_from_byte plan marks 1
left plan marks ClearSync = sync ∷ byte_call Armed 0 0 ∷ sync ∷ left_from_byte plan marks 1
left plan marks Arm = byte_call Armed 0 0 ∷ sync ∷ left_from_byte plan marks 1
left plan marks ArmSync = sync ∷ left_from_byte plan marks 1
left plan marks (Body at) = left_from_byte plan marks at
left plan marks BodySync = left_behind_body plan marks
left plan marks Open = byte_call Opened 0 OPEN_GATE ∷ sync ∷ left_from_group plan marks 0
left plan marks OpenSync = sync ∷ left_from_group plan marks 0
left plan marks (Fill group range done) =
    writes Filled Image ((claim_at plan range).range.at + done) (replicate ((claim_at plan range).range.len - done) (claim_at plan range).fill)
    ++ left_from_range plan marks group (range + 1)
left plan marks (GroupSync group) = left_behind_fills plan marks group
left plan marks (Mark group) = byte_call (Marked group) (mark_place plan group) SET_MARK ∷ left_from_group plan marks (group + 1)
left plan marks CloseSync = closing_calls plan
left plan marks Close = byte_call Closed (mark_place plan (groups_of plan)) SET_MARK ∷ sync ∷ []
left plan marks LastSync = sync ∷ []
left plan marks End = []

-- the call that comes next
abbrev pub call_of : Plan → Step → Call
call_of plan Clear = record { turn = Cleared; change = Cut 0 }
call_of plan Arm = byte_call Armed 0 0
call_of plan (Body at) = record { turn = Wrote; change = Write Journal at (take PIECE (drop at (first_journal plan))) }
call_of plan Open = byte_call Opened 0 OPEN_GATE
call_of plan (Fill group range done) = record {
  turn = Filled;
  change = Write Image ((claim_at plan range).range.at + done) (replicate (min PIECE ((claim_at plan range).range.len - done)) (claim_at plan range).fill);
}
call_of plan (Mark group) = byte_call (Marked group) (mark_place plan group) SET_MARK
call_of plan Close = byte_call Closed (mark_place plan (groups_of plan)) SET_MARK
call_of plan ClearSync = sync
call_of plan ArmSync = sync
call_of plan BodySync = sync
call_of plan OpenSync = sync
call_of plan (GroupSync group) = sync
call_of plan CloseSync = sync
call_of plan LastSync = sync
call_of plan End = sync

-- a step of a session with this plan: a byte of the journal, a range of a group with a byte of it, or a group
abbrev pub IsStep : Plan → Step → Type 0
IsStep plan (Body at) = (1 ≤ at) × (at < journal_len plan)
IsStep plan (Fill group range done) =
    (group < groups_of plan) × (range < group_end plan group) × (done < (claim_at plan range).range.len)
IsStep plan (GroupSync group) = group < groups_of plan
IsStep plan (Mark group) = group < groups_of plan
IsStep plan _ = Unit {0}

-- the length that the journal has by the calls before a step
abbrev pub journal_at : Plan → Step → Option ℕ
journal_at plan Clear = None
journal_at plan ClearSync = Some 0
journal_at plan Arm = Some 0
journal_at plan ArmSync = Some 1
journal_at plan (Body at) = Some at
journal_at plan _ = Some (journal_len plan)

-- the journal has the length with which a step begins
abbrev pub HasJournal : Plan → Step → Sizes → Type 0
HasJournal plan step sizes = IfSome (journal_at plan step) (λ len. sizes.journal ≡ len)

-- the listing goes on at a cursor in the body of the journal, where that is written at a step or behind it
abbrev pub HasCursor : Plan → Step → Cursor → Type 0
HasCursor plan Clear cursor = IsCursor plan 1 cursor
HasCursor plan ClearSync cursor = IsCursor plan 1 cursor
HasCursor plan Arm cursor = IsCursor plan 1 cursor
HasCursor plan ArmSync cursor = IsCursor plan 1 cursor
HasCursor plan (Body at) cursor = IsCursor plan at cursor
HasCursor plan _ cursor = Unit {0}

-- the cursor before and after the call of a step: a piece of the body takes it on
abbrev pub IsCursorAfter : Plan → Step → Cursor → Cursor → Type 0
IsCursorAfter plan (Body at) before after = IsCursor plan (min (at + PIECE) (journal_len plan)) after
IsCursorAfter plan _ before after = after ≡ before
