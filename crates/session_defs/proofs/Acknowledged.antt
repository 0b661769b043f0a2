-- Laws of when the image is written, and where.
use Rattle.std.proofs.Common.{◌≡◌, ℕ, zero, suc, ◌+◌, ◌-◌, ◌<◌, ◌≤◌, ⊎_elim, min, Bool, true, false, List, [], ◌∷◌, ◌++◌, length, take, drop, replicate, refl, sym, ◌∙◌, ap, subst, arith}
use Rattle.std.specs.List.{All, Contains, flat_map}
use Rattle.std.proofs.lemmas.Bool.{cases_lt, cond_both}
use Rattle.std.proofs.lemmas.List.{append_assoc, drop-replicate, drop_at, length-replicate, nil_from_length, take_at}
use Rattle.std.proofs.lemmas.List.Elements.{All-append, All-cons, All-contains_itself, All-drop, All-head, All-nil, All-same, All-tail, All-take, All-weaker}
use Rattle.disk_defs.specs.Story.{Change, Cut, Held, Write}
use Rattle.disk_defs.specs.declared.Area.TheVariants.{Image, Journal}
use Rattle.journal_defs.specs.Form.{is_complete, IsJournal, first_journal, groups_of, journal_bytes}
use Rattle.journal_defs.specs.declared.TheConstants.{OPEN_GATE, SET_MARK}
use Rattle.journal_defs.proofs.JournalLaws.{first_journal_law}
use Rattle.range_defs.specs.declared.Claim.{Claim}
use Rattle.rx_ranges.specs.declared.plan.Plan.{Plan}
use Rattle.session_defs.proofs.Marks.{journal_made}
use Rattle.session_defs.proofs.OutcomeLaws.{all_unmarked}
use Rattle.session_defs.proofs.Writes.{take_equal, writes_first, writes_none}
use Rattle.session_defs.specs.Outcome.{AcknowledgedLaw, AreFillOf, IsFillIn, LeavesImage, changed_all, unmarked_ranges}
use Rattle.session_defs.specs.Script.{Call, byte_call, changes_of, closing_calls, fill_calls, group_calls, journal_calls, mark_place, pieces_in, ranges_of_group, rest_of, script, sync, unmarked, unmarked_calls, write_pieces, writes}
use Rattle.session_defs.specs.declared.TheConstants.{PIECE}
use Rattle.session_defs.specs.declared.Turn.{Turn}
use Rattle.session_defs.specs.declared.Turn.TheVariants.{Armed, Cleared, Closed, Filled, Marked, Opened, Wrote}

-- a call that doesn't write to the image, and one that writes to it only as these claims say
abbrev Leaves : Call → Type 0
Leaves call = LeavesImage call.change

abbrev Fills : List Claim → Call → Type 0
Fills claims call = IsFillIn claims call.change

leaves-fills : (claims : List Claim) (change : Change) → LeavesImage change → IsFillIn claims change
leaves-fills claims (Write Image at bytes) leaves = absurd leaves
leaves-fills claims other leaves = tt

-- ---- the journal

journal_pieces : (turn : Turn) (at : ℕ) (bytes : List ℕ) (count : ℕ) → All Leaves (write_pieces turn Journal at bytes count)
journal_pieces turn at bytes zero = All-nil Leaves
journal_pieces turn at bytes (suc count) =
    All-cons Leaves (record { turn = turn; change = Write Journal at (take PIECE bytes) }) (write_pieces turn Journal (at + PIECE) (drop PIECE bytes) count) tt
    (journal_pieces turn (at + PIECE) (drop PIECE bytes) count)

-- three calls, none of which writes to the image
three_leave : (a b c : Call) → Leaves a → Leaves b → Leaves c → All Leaves (a ∷ b ∷ c ∷ [])
three_leave a b c one two three = All-cons Leaves a (b ∷ c ∷ []) one (All-cons Leaves b (c ∷ []) two (All-cons Leaves c [] three (All-nil Leaves)))

journal_first : (plan : Plan) → All Leaves (journal_calls plan)
unfolding journal_calls writes
journal_first plan =
    let body = drop 1 (first_journal plan) in
    let armed = sync ∷ byte_call Armed 0 0 ∷ sync ∷ [] in
    let opened = sync ∷ byte_call Opened 0 OPEN_GATE ∷ sync ∷ [] in
    All-cons Leaves (record { turn = Cleared; change = Cut 0 }) (armed ++ (writes Wrote Journal 1 body ++ opened)) tt
    (All-append Leaves armed (writes Wrote Journal 1 body ++ opened) (three_leave sync (byte_call Armed 0 0) sync tt tt tt)
    (All-append Leaves (writes Wrote Journal 1 body) opened (journal_pieces Wrote 1 body (pieces_in (length body))) (three_leave sync (byte_call Opened 0 OPEN_GATE) sync tt tt tt)))

-- ---- the image

-- so many bytes of a claim, in pieces
fill_pieces : (claims : List Claim) (claim : Claim) (most at count : ℕ) → Contains claims claim → count ≤ most → claim.range.at ≤ at
    → (0 < count → at + count ≤ claim.range.at + claim.range.len) → All (Fills claims) (writes Filled Image at (replicate count claim.fill))
fill_pieces claims claim zero at count one few begins ends =
    let none : replicate count claim.fill ≡ [] = nil_from_length (replicate count claim.fill) (omega (arith, few, length-replicate count claim.fill)) in
    All-same (Fills claims) (writes Filled Image at (replicate count claim.fill)) [] (ap (writes Filled Image at) none ∙ writes_none Filled Image at) (All-nil (Fills claims))
fill_pieces claims claim (suc most) at count one few begins ends =
    let bytes = replicate count claim.fill in
    let calls = writes Filled Image at bytes in
    ⊎_elim
    (λ some.
    let now : take PIECE bytes ≡ replicate (min PIECE count) claim.fill = take_equal count claim.fill in
    let long : length (replicate (min PIECE count) claim.fill) ≡ min PIECE count = length-replicate (min PIECE count) claim.fill in
    let first : AreFillOf claims at (replicate (min PIECE count) claim.fill) = record {
      claim = claim;
      is_one = one;
      begins = begins;
      ends = omega (arith, ends some, long);
      fill = ap (λ n. replicate n claim.fill) (sym long);
    } in
    let rest : All (Fills claims) (writes Filled Image (at + PIECE) (replicate (count - PIECE) claim.fill)) =
    fill_pieces claims claim most (at + PIECE) (count - PIECE) one (omega (arith, few, some)) (omega (arith, begins)) (λ more. omega (arith, more, ends some)) in
    All-same (Fills claims) calls (record { turn = Filled; change = Write Image at (take PIECE bytes) } ∷ writes Filled Image (at + PIECE) (drop PIECE bytes))
    (writes_first Filled Image at bytes (omega (arith, some, length-replicate count claim.fill)))
    (All-cons (Fills claims) (record { turn = Filled; change = Write Image at (take PIECE bytes) }) (writes Filled Image (at + PIECE) (drop PIECE bytes))
    (subst (AreFillOf claims at) (sym now) first)
    (subst (λ rest. All (Fills claims) (writes Filled Image (at + PIECE) rest)) (sym (drop-replicate PIECE count claim.fill)) rest)))
    (λ none. fill_pieces claims claim most at count one (omega (arith, none)) begins ends)
    (cases_lt 0 count)

-- some of the claims
some_filled : (claims some : List Claim) → All (Contains claims) some → All (Fills claims) (flat_map fill_calls some)
some_filled claims [] among = All-nil (Fills claims)
some_filled claims (claim ∷ some) among =
    All-append (Fills claims) (fill_calls claim) (flat_map fill_calls some)
    (fill_pieces claims claim claim.range.len claim.range.at claim.range.len (All-head (Contains claims) claim some among) (omega arith) (omega arith) (λ more. omega arith))
    (some_filled claims some (All-tail (Contains claims) claim some among))

-- what holds of both parts of a list
all_parts : {X : Type 0} (P : X → Type 0) (xs ys : List X) → All P (xs ++ ys) → All P xs × All P ys
all_parts P xs ys all = (
  All-same P xs (take (length xs) (xs ++ ys)) (sym (take_at xs ys (length xs) refl)) (All-take P (length xs) (xs ++ ys) all),
  All-same P ys (drop (length xs) (xs ++ ys)) (sym (drop_at xs ys (length xs) refl)) (All-drop P (length xs) (xs ++ ys) all),
)

group_filled : (claims : List Claim) (plan : Plan) (group : ℕ) → All (Contains claims) (ranges_of_group plan group) → All (Fills claims) (group_calls plan group)
group_filled claims plan group among =
    let mark = byte_call (Marked group) (mark_place plan group) SET_MARK in
    All-append (Fills claims) (flat_map fill_calls (ranges_of_group plan group)) (sync ∷ mark ∷ []) (some_filled claims (ranges_of_group plan group) among)
    (All-cons (Fills claims) sync (mark ∷ []) tt (All-cons (Fills claims) mark [] tt (All-nil (Fills claims))))

groups_filled : (claims : List Claim) (plan : Plan) (group : ℕ) (marks : List Bool) → All (Contains claims) (unmarked_ranges plan group marks)
    → All (Fills claims) (unmarked_calls plan group marks)
unfolding unmarked_calls
groups_filled claims plan group [] among = All-nil (Fills claims)
groups_filled claims plan group (true ∷ marks) among = groups_filled claims plan (group + 1) marks among
groups_filled claims plan group (false ∷ marks) among =
    let both = all_parts (Contains claims) (ranges_of_group plan group) (unmarked_ranges plan (group + 1) marks) among in
    All-append (Fills claims) (group_calls plan group) (unmarked_calls plan (group + 1) marks) (group_filled claims plan group both.0)
    (groups_filled claims plan (group + 1) marks both.1)

-- the groups that aren't marked, and the last mark
rest_filled : (claims : List Claim) (plan : Plan) (marks : List Bool) → All (Contains claims) (unmarked_ranges plan 0 marks)
    → All (Fills claims) (unmarked_calls plan 0 marks ++ closing_calls plan)
rest_filled claims plan marks among =
    let mark = byte_call Closed (mark_place plan (groups_of plan)) SET_MARK in
    All-append (Fills claims) (unmarked_calls plan 0 marks) (closing_calls plan) (groups_filled claims plan 0 marks among)
    (All-weaker Leaves (Fills claims) (λ call leaves. leaves-fills claims call.change leaves) (closing_calls plan) (three_leave sync mark sync tt tt tt))

script_filled : (plan : Plan) → All (Fills plan.ranges) (script plan)
script_filled plan =
    let ranges = plan.ranges in
    let behind = unmarked_calls plan 0 (unmarked plan) ++ closing_calls plan in
    All-same (Fills ranges) (script plan) (journal_calls plan ++ behind) (append_assoc (journal_calls plan) (unmarked_calls plan 0 (unmarked plan)) (closing_calls plan))
    (All-append (Fills ranges) (journal_calls plan) behind
    (All-weaker Leaves (Fills ranges) (λ call leaves. leaves-fills ranges call.change leaves) (journal_calls plan) (journal_first plan))
    (rest_filled ranges plan (unmarked plan)
    (All-same (Contains ranges) (unmarked_ranges plan 0 (unmarked plan)) ranges (all_unmarked plan 0 (groups_of plan) (omega arith)) (All-contains_itself ranges))))

unmarked_filled : (plan : Plan) (groups : List Bool) (last : Bool) → All (Fills (unmarked_ranges plan 0 groups)) (rest_of plan groups last)
unmarked_filled plan groups last =
    let claims = unmarked_ranges plan 0 groups in
    cond_both (is_complete groups last) [] (unmarked_calls plan 0 groups ++ closing_calls plan) (All (Fills claims))
    (λ complete. All-nil (Fills claims))
    (λ incomplete. rest_filled claims plan groups (All-contains_itself claims))

opened : (plan : Plan) (first : Held) → IsJournal (changed_all (changes_of (journal_calls plan)) first).journal plan (unmarked plan) false
unfolding journal_bytes
opened plan first = subst (λ (held : Held). IsJournal held.journal plan (unmarked plan) false) (sym (journal_made plan first)) (first_journal_law plan)

pub acknowledged_law : AcknowledgedLaw
acknowledged_law plan = record { opened = opened plan; image_stays = journal_first plan; planned_alone = script_filled plan; unmarked_alone = unmarked_filled plan }
