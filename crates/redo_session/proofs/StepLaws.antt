-- Laws of the calls that are left: which comes first, and which are left behind it.
use Rattle.std.proofs.Common.{◌≡◌, ℕ, suc, ◌+◌, ◌-◌, ◌*◌, ◌<◌, ◌≤◌, min, Bool, true, false, List, [], ◌∷◌, ◌++◌, length, take, drop, replicate, slice_index_or, sym, ◌∙◌, ap, arith, length-drop, length-take, append_assoc, subst, Option, Some, IfSome, Result, Ok, Err, OnOk, OnErr}
use Rattle.std.specs.List.{flat_map}
use Rattle.std.proofs.Math.Seq.{drop-cons}
use Rattle.std.proofs.lemmas.List.{drop-drop, drop_all, drop-replicate, length-replicate, take_min}
use Rattle.disk_defs.specs.Story.{Write}
use Rattle.disk_defs.specs.Disk.{Sizes, State, sizes_after, state_after, IsAfterFailed}
use Rattle.disk_defs.specs.declared.Fault.{Fault}
use Rattle.disk_defs.specs.declared.Area.{Area}
use Rattle.bytes_defs.specs.Bytes.{part}
use Rattle.session_defs.specs.Session.{IsMade}
use Rattle.disk_defs.specs.declared.Area.TheVariants.{Image, Journal}
use Rattle.journal_defs.specs.Form.{first_journal, groups_of, journal_len}
use Rattle.journal_defs.specs.declared.TheConstants.{GROUP_RANGES, SET_MARK}
use Rattle.journal_defs.proofs.JournalLaws.{length_law}
use Rattle.range_defs.specs.declared.Claim.{Claim}
use Rattle.range_defs.specs.Claims.{IsFillMap}
use Rattle.rx_ranges.specs.declared.plan.Plan.{Plan}
use Rattle.session_defs.specs.Script.{Call, sync, byte_call, writes, fill_calls, ranges_of_group, mark_place, unmarked_calls, closing_calls}
use Rattle.session_defs.specs.declared.TheConstants.{PIECE}
use Rattle.session_defs.specs.declared.Turn.{Turn}
use Rattle.session_defs.specs.declared.Turn.TheVariants.{Wrote, Filled, Marked}
use Rattle.session_defs.proofs.Writes.{writes_first, writes_none, take_equal}
use Rattle.redo_session.specs.Steps.{no_claim, claim_at, group_end, ranges_up_to, left_from_group, left_behind_fills, left_from_range, left_behind_body, left_from_byte, left, call_of, IsStep, HasCursor, HasJournal, journal_at}
use Rattle.redo_session.specs.declared.step.Step.{Step}
use Rattle.redo_session.specs.declared.step.Step.TheVariants.{Clear, ClearSync, Arm, ArmSync, Body, BodySync, Open, OpenSync, Fill, GroupSync, Mark, CloseSync, Close, LastSync, End}
use Rattle.journal_format.specs.declared.piece.Cursor.{Cursor}

-- an item, and those behind it
drop_first : {X : Type 0} (xs : List X) (i : ℕ) (d : X) → i < length xs → drop i xs ≡ slice_index_or xs i d ∷ drop (i + 1) xs
drop_first xs i d within = drop-cons xs i d within ∙ ap (λ n. slice_index_or xs i d ∷ drop n xs) (one_more i)
  where
    one_more : (n : ℕ) → suc n ≡ n + 1
    one_more n = omega arith

-- how long the first journal is
pub length_first : (plan : Plan) → length (first_journal plan) ≡ journal_len plan
length_first plan = length_law 0 0 plan (replicate (groups_of plan) 0) (length-replicate (groups_of plan) 0)

-- the first piece of the journal from a byte on, and the calls behind it
pub body_piece : (plan : Plan) (marks : List Bool) (at : ℕ) → at < journal_len plan
    → left_from_byte plan marks at ≡ call_of plan (Body at) ∷ left_from_byte plan marks (at + PIECE)
body_piece plan marks at within =
    let some : 0 < length (drop at (first_journal plan)) = omega (arith, length-drop at (first_journal plan), length_first plan) in
    ap (λ calls. calls ++ left_behind_body plan marks)
    (writes_first Wrote Journal at (drop at (first_journal plan)) some
    ∙ ap (λ bytes. call_of plan (Body at) ∷ writes Wrote Journal (at + PIECE) bytes) (drop-drop PIECE at (first_journal plan)))

-- behind the last byte of the journal
pub body_end : (plan : Plan) (marks : List Bool) (at : ℕ) → journal_len plan ≤ at → left_from_byte plan marks at ≡ left_behind_body plan marks
body_end plan marks at behind =
    ap (λ calls. calls ++ left_behind_body plan marks)
    (ap (writes Wrote Journal at) (drop_all at (first_journal plan) (omega (arith, length_first plan))) ∙ writes_none Wrote Journal at)

-- the first piece of so many equal bytes, and the calls behind it
pub equal_piece : (at count fill : ℕ) (more : List Call) → 0 < count
    → writes Filled Image at (replicate count fill) ++ more
    ≡ record { turn = Filled; change = Write Image at (replicate (min PIECE count) fill) } ∷ (writes Filled Image (at + PIECE) (replicate (count - PIECE) fill) ++ more)
equal_piece at count fill more some =
    ap (λ calls. calls ++ more)
    (writes_first Filled Image at (replicate count fill) (omega (arith, length-replicate count fill))
    ∙ ap (λ bytes. record { turn = Filled; change = Write Image at bytes } ∷ writes Filled Image (at + PIECE) (drop PIECE (replicate count fill))) (take_equal count fill)
    ∙ ap (λ bytes. record { turn = Filled; change = Write Image at (replicate (min PIECE count) fill) } ∷ writes Filled Image (at + PIECE) bytes)
    (drop-replicate PIECE count fill))

-- the piece of a range from its byte `done` on, with more to come
pub fill_piece : (plan : Plan) (marks : List Bool) (group range done : ℕ) → done + PIECE < (claim_at plan range).range.len
    → left plan marks (Fill group range done) ≡ call_of plan (Fill group range done) ∷ left plan marks (Fill group range (done + PIECE))
fill_piece plan marks group range done more =
    let claim = claim_at plan range in
    equal_piece (claim.range.at + done) (claim.range.len - done) claim.fill (left_from_range plan marks group (range + 1)) (omega (arith, more))
    ∙ ap (λ at. call_of plan (Fill group range done) ∷ (writes Filled Image at (replicate (claim.range.len - done - PIECE) claim.fill) ++ left_from_range plan marks group (range + 1)))
    (omega arith)
    ∙ ap (λ count. call_of plan (Fill group range done) ∷ (writes Filled Image (claim.range.at + (done + PIECE)) (replicate count claim.fill) ++ left_from_range plan marks group (range + 1)))
    (omega arith)

-- the last piece of a range
pub last_piece : (plan : Plan) (marks : List Bool) (group range done : ℕ) → done < (claim_at plan range).range.len → (claim_at plan range).range.len ≤ done + PIECE
    → left plan marks (Fill group range done) ≡ call_of plan (Fill group range done) ∷ left_from_range plan marks group (range + 1)
last_piece plan marks group range done some last =
    let claim = claim_at plan range in
    let more = left_from_range plan marks group (range + 1) in
    equal_piece (claim.range.at + done) (claim.range.len - done) claim.fill more (omega (arith, some))
    ∙ ap (λ count. call_of plan (Fill group range done) ∷ (writes Filled Image (claim.range.at + done + PIECE) (replicate count claim.fill) ++ more)) (none claim.range.len done last)
    ∙ ap (λ calls. call_of plan (Fill group range done) ∷ (calls ++ more)) (writes_none Filled Image (claim.range.at + done + PIECE))
  where
    none : (len done : ℕ) → len ≤ done + PIECE → len - done - PIECE ≡ 0
    none len done last = omega (arith, last)

-- a range of a group, and those behind it
pub range_first : (plan : Plan) (marks : List Bool) (group range : ℕ) → range < group_end plan group
    → left plan marks (Fill group range 0) ≡ left_from_range plan marks group range
range_first plan marks group range within =
    let claim = claim_at plan range in
    let inside : range < length plan.ranges = omega (arith, within) in
    let rest : ranges_up_to plan group range ≡ claim ∷ ranges_up_to plan group (range + 1) =
    ap (take (group_end plan group - range)) (drop_first plan.ranges range no_claim inside)
    ∙ ap (λ count. take count (claim ∷ drop (range + 1) plan.ranges)) (more (group_end plan group) range within) in
    ap (λ at. writes Filled Image at (replicate (claim.range.len - 0) claim.fill) ++ left_from_range plan marks group (range + 1)) (omega arith)
    ∙ ap (λ count. writes Filled Image claim.range.at (replicate count claim.fill) ++ left_from_range plan marks group (range + 1)) (omega arith)
    ∙ sym (append_assoc (fill_calls claim) (flat_map fill_calls (ranges_up_to plan group (range + 1))) (left_behind_fills plan marks group))
    ∙ ap (λ claims. flat_map fill_calls claims ++ left_behind_fills plan marks group) (sym rest)
  where
    more : (end at : ℕ) → at < end → end - at ≡ suc (end - (at + 1))
    more end at less = omega (arith, less)

-- no range of a canonical list is empty
pub ranges_have_bytes : (claims : List Claim) (index : ℕ) → IsFillMap claims → index < length claims → 0 < (slice_index_or claims index no_claim).range.len
ranges_have_bytes [] index kept within = absurd (omega (arith, within))
ranges_have_bytes (claim ∷ claims) Prim.Native.Nat.zero kept within = kept.0
ranges_have_bytes (claim ∷ claims) (suc index) kept within = ranges_have_bytes claims index kept.2 (omega (arith, within))

-- the ranges of a group are those up to its end
pub group_ranges : (plan : Plan) (group : ℕ) → ranges_up_to plan group (GROUP_RANGES * group) ≡ ranges_of_group plan group
group_ranges plan group =
    let rest = drop (GROUP_RANGES * group) plan.ranges in
    let count : group_end plan group - GROUP_RANGES * group ≡ min GROUP_RANGES (length rest) = omega (arith, length-drop (GROUP_RANGES * group) plan.ranges) in
    ap (λ count. take count rest) count ∙ take_min GROUP_RANGES rest

-- a group that is marked is passed over
pub marked_group : (plan : Plan) (marks : List Bool) (group : ℕ) → group < length marks → slice_index_or marks group false ≡ true
    → left_from_group plan marks group ≡ left_from_group plan marks (group + 1)
unfolding unmarked_calls
marked_group plan marks group within marked =
    ap (λ rest. unmarked_calls plan group rest ++ closing_calls plan) (drop_first marks group false within)
    ∙ ap (λ mark. unmarked_calls plan group (mark ∷ drop (group + 1) marks) ++ closing_calls plan) marked

-- one that isn't is filled
pub unmarked_group : (plan : Plan) (marks : List Bool) (group : ℕ) → group < length marks → slice_index_or marks group false ≡ false
    → left_from_group plan marks group ≡ left_from_range plan marks group (GROUP_RANGES * group)
unfolding unmarked_calls
unmarked_group plan marks group within unmarked =
    let fills = flat_map fill_calls (ranges_of_group plan group) in
    let mark = sync ∷ byte_call (Marked group) (mark_place plan group) SET_MARK ∷ [] in
    let rest = unmarked_calls plan (group + 1) (drop (group + 1) marks) in
    ap (λ rest. unmarked_calls plan group rest ++ closing_calls plan) (drop_first marks group false within)
    ∙ ap (λ mark. unmarked_calls plan group (mark ∷ drop (group + 1) marks) ++ closing_calls plan) unmarked
    ∙ append_assoc (fills ++ mark) rest (closing_calls plan) ∙ append_assoc fills mark (rest ++ closing_calls plan)
    ∙ ap (λ claims. flat_map fill_calls claims ++ left_behind_fills plan marks group) (sym (group_ranges plan group))

-- behind the last group
pub groups_end : (plan : Plan) (marks : List Bool) (group : ℕ) → length marks ≤ group → left_from_group plan marks group ≡ closing_calls plan
unfolding unmarked_calls
groups_end plan marks group behind = ap (λ rest. unmarked_calls plan group rest ++ closing_calls plan) (drop_all group marks behind)

-- the bytes of a piece of the first journal
pub body_bytes : (plan : Plan) (at len count : ℕ) → len ≡ journal_len plan → count ≡ min PIECE (len - at)
    → part (first_journal plan) at count ≡ take PIECE (drop at (first_journal plan))
unfolding part
body_bytes plan at len count len_is count_is =
    let rest = drop at (first_journal plan) in
    let same : count ≡ min PIECE (length rest) = omega (arith, len_is, count_is, length-drop at (first_journal plan), length_first plan) in
    ap (λ n. take n rest) same ∙ take_min PIECE rest

-- a write that came out so was made, or left what it left
pub made_write : {T : Type 0} (result : Result T Fault) (turn : Turn) (area : Area) (at : ℕ) (bytes written : List ℕ) (before now : State) → bytes ≡ written
    → OnOk result (now ≡ state_after (Write area at bytes) before) → OnErr result (IsAfterFailed (Write area at bytes) before now)
    → IsMade (Some (record { turn = turn; change = Write area at written })) result before now
made_write (Ok x) turn area at bytes written before now same done failed = done ∙ ap (λ text. state_after (Write area at text) before) same
made_write (Err e) turn area at bytes written before now same done failed = subst (λ text. IsAfterFailed (Write area at text) before now) same failed

-- the length of the journal behind a piece of it
pub body_len_after : (plan : Plan) (at : ℕ) (next : Option ℕ) (sizes : Sizes) → at < journal_len plan → next ≡ Some (min (at + PIECE) (journal_len plan)) → sizes.journal ≡ at
    → IfSome next (λ len. (sizes_after (call_of plan (Body at)).change sizes).journal ≡ len)
body_len_after plan at next sizes within next_is here =
    subst (λ (next : Option ℕ). IfSome next (λ len. (sizes_after (call_of plan (Body at)).change sizes).journal ≡ len)) (sym next_is)
    (omega (arith, within, here, length-take PIECE (drop at (first_journal plan)), length-drop at (first_journal plan), length_first plan))

-- the same, of a step that is a piece
pub body_sizes : (plan : Plan) (step : Step) (at : ℕ) (next : Option ℕ) (sizes : Sizes) → step ≡ Body at → IsStep plan step
    → next ≡ Some (min (at + PIECE) (journal_len plan)) → HasJournal plan step sizes → IfSome next (λ len. (sizes_after (call_of plan step).change sizes).journal ≡ len)
body_sizes plan step at next sizes is valid next_is here =
    subst (λ (step : Step). IsStep plan step → HasJournal plan step sizes → IfSome next (λ len. (sizes_after (call_of plan step).change sizes).journal ≡ len)) (sym is)
    (λ valid here. body_len_after plan at next sizes valid.1 next_is here) valid here

-- behind the body of the journal nothing is asked of a cursor
pub late_cursor : (plan : Plan) (step : Step) (cursor : Cursor) → IsStep plan step → journal_at plan step ≡ Some (journal_len plan) → HasCursor plan step cursor
late_cursor plan Clear cursor is len = cc
late_cursor plan ClearSync cursor is len = let here : 0 ≡ journal_len plan = cc in absurd (omega (arith, here))
late_cursor plan Arm cursor is len = let here : 0 ≡ journal_len plan = cc in absurd (omega (arith, here))
late_cursor plan ArmSync cursor is len = let here : 1 ≡ journal_len plan = cc in absurd (omega (arith, here))
late_cursor plan (Body at) cursor is len = let here : at ≡ journal_len plan = cc in absurd (omega (arith, here, is.1))
late_cursor plan BodySync cursor is len = tt
late_cursor plan Open cursor is len = tt
late_cursor plan OpenSync cursor is len = tt
late_cursor plan (Fill group range done) cursor is len = tt
late_cursor plan (GroupSync group) cursor is len = tt
late_cursor plan (Mark group) cursor is len = tt
late_cursor plan CloseSync cursor is len = tt
late_cursor plan Close cursor is len = tt
late_cursor plan LastSync cursor is len = tt
late_cursor plan End cursor is len = tt
