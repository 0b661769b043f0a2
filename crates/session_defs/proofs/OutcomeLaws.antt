-- Laws of what the calls of a session leave.
use Rattle.std.proofs.Common.{◌≡◌, ℕ, zero, suc, ◌+◌, ◌*◌, ◌≤◌, Bool, true, false, List, [], ◌∷◌, ◌++◌, length, take, drop, replicate, refl, sym, ◌∙◌, ap, subst, arith}
use Rattle.std.specs.Prelude.{map}
use Rattle.std.specs.List.{flat_map, list_all}
use Rattle.std.proofs.lemmas.Bool.{and_parts, cond_both, eqb-true}
use Rattle.std.proofs.lemmas.List.{append_assoc, drop-drop, length-append, length-drop, length-replicate, nil_from_length, take-append-drop}
use Rattle.disk_defs.specs.Story.{Held, overwritten}
use Rattle.disk_defs.specs.declared.Area.TheVariants.{Image}
use Rattle.journal_defs.specs.Form.{is_complete, groups_of, is_set, journal_bytes}
use Rattle.journal_defs.specs.declared.TheConstants.{GROUP_RANGES, OPEN_GATE, SET_MARK}
use Rattle.range_defs.specs.declared.Claim.{Claim}
use Rattle.rx_ranges.specs.PlanChecks.{IsPlan}
use Rattle.rx_ranges.specs.declared.plan.Plan.{Plan}
use Rattle.session_defs.proofs.Filled.{AreInOrder, each_filled, fill_map_in_order, filled_each, filled_with_nothing, in_order_drop, in_order_more, in_order_spans}
use Rattle.session_defs.proofs.Made.{made_both, writes_made}
use Rattle.session_defs.proofs.Marks.{journal_made, last_set, mark_set}
use Rattle.session_defs.specs.Outcome.{RestLaw, ScriptLaw, changed_all, done_journal, filled, unmarked_ranges}
use Rattle.session_defs.specs.Script.{byte_call, changes_of, closing_calls, fill_calls, group_calls, journal_calls, mark_place, ranges_of_group, rest_of, sync, unmarked, unmarked_calls}
use Rattle.session_defs.specs.declared.Turn.TheVariants.{Filled, Marked}

-- what both areas hold
abbrev holding : List ℕ → List ℕ → Held
holding image journal = record { image = image; journal = journal }

-- ---- the image

filled_both : (claims more : List Claim) (image : List ℕ) → filled_each (claims ++ more) image ≡ filled_each more (filled_each claims image)
filled_both [] more image = refl
filled_both (claim ∷ claims) more image = filled_both claims more (overwritten image claim.range.at (replicate claim.range.len claim.fill))

fills_made : (claims : List Claim) (image journal : List ℕ)
    → changed_all (changes_of (flat_map fill_calls claims)) (holding image journal) ≡ holding (filled_each claims image) journal
fills_made [] image journal = refl
fills_made (claim ∷ claims) image journal =
    let fills = replicate claim.range.len claim.fill in
    made_both (fill_calls claim) (flat_map fill_calls claims) (holding image journal)
    ∙ ap (changed_all (changes_of (flat_map fill_calls claims))) (writes_made Filled Image claim.range.at fills (holding image journal))
    ∙ fills_made claims (overwritten image claim.range.at fills) journal

-- a group is filled, and its mark is written
group_made : (plan : Plan) (group : ℕ) (image journal : List ℕ)
    → changed_all (changes_of (group_calls plan group)) (holding image journal)
    ≡ holding (filled_each (ranges_of_group plan group) image) (overwritten journal (mark_place plan group) (SET_MARK ∷ []))
group_made plan group image journal =
    let mark = sync ∷ byte_call (Marked group) (mark_place plan group) SET_MARK ∷ [] in
    made_both (flat_map fill_calls (ranges_of_group plan group)) mark (holding image journal)
    ∙ ap (changed_all (changes_of mark)) (fills_made (ranges_of_group plan group) image journal)

-- ---- the groups

-- the journal of a plan with these marks, and the last one
abbrev open_journal : Plan → List ℕ → ℕ → List ℕ
open_journal plan marks last = journal_bytes OPEN_GATE plan marks last

-- a group, and those behind it
one_group : (plan : Plan) (last group : ℕ) (done marks : List ℕ) (byte : ℕ) (image end : List ℕ) (mark : Bool) → is_set byte ≡ mark → length done ≡ group
    → ((image : List ℕ) → changed_all (changes_of (unmarked_calls plan (group + 1) (map is_set marks))) (holding image (open_journal plan (done ++ SET_MARK ∷ marks) last))
    ≡ holding (filled_each (unmarked_ranges plan (group + 1) (map is_set marks)) image) end)
    → changed_all (changes_of (unmarked_calls plan group (mark ∷ map is_set marks))) (holding image (open_journal plan (done ++ byte ∷ marks) last))
    ≡ holding (filled_each (unmarked_ranges plan group (mark ∷ map is_set marks)) image) end
unfolding unmarked_calls
one_group plan last group done marks byte image end true set here rest =
    ap (λ b. changed_all (changes_of (unmarked_calls plan (group + 1) (map is_set marks))) (holding image (open_journal plan (done ++ b ∷ marks) last))) (eqb-true byte SET_MARK set)
    ∙ rest image
one_group plan last group done marks byte image end false unset here rest =
    let behind = unmarked_calls plan (group + 1) (map is_set marks) in
    let ranges = ranges_of_group plan group in
    let before = open_journal plan (done ++ byte ∷ marks) last in
    made_both (group_calls plan group) behind (holding image before)
    ∙ ap (changed_all (changes_of behind)) (group_made plan group image before ∙ ap (holding (filled_each ranges image)) (mark_set OPEN_GATE last plan group done marks byte here))
    ∙ rest (filled_each ranges image)
    ∙ ap (λ image. holding image end) (sym (filled_both ranges (unmarked_ranges plan (group + 1) (map is_set marks)) image))

-- the groups that aren't marked are filled, and all are marked
groups_made : (plan : Plan) (last group : ℕ) (done marks : List ℕ) (image : List ℕ) → length done ≡ group
    → changed_all (changes_of (unmarked_calls plan group (map is_set marks))) (holding image (open_journal plan (done ++ marks) last))
    ≡ holding (filled_each (unmarked_ranges plan group (map is_set marks)) image) (open_journal plan (done ++ replicate (length marks) SET_MARK) last)
unfolding unmarked_calls
groups_made plan last group done [] image here = refl
groups_made plan last group done (byte ∷ marks) image here =
    one_group plan last group done marks byte image (open_journal plan (done ++ SET_MARK ∷ replicate (length marks) SET_MARK) last) (is_set byte) refl here
    (λ image.
    ap (λ all. changed_all (changes_of (unmarked_calls plan (group + 1) (map is_set marks))) (holding image (open_journal plan all last))) (sym (append_assoc done (SET_MARK ∷ []) marks))
    ∙ groups_made plan last (group + 1) (done ++ SET_MARK ∷ []) marks image (omega (arith, here, length-append done (SET_MARK ∷ [])))
    ∙ ap (λ all. holding (filled_each (unmarked_ranges plan (group + 1) (map is_set marks)) image) (open_journal plan all last)) (append_assoc done (SET_MARK ∷ []) (replicate (length marks) SET_MARK)))

-- ---- which ranges are filled

next_group : (plan : Plan) (group : ℕ) → drop GROUP_RANGES (drop (GROUP_RANGES * group) plan.ranges) ≡ drop (GROUP_RANGES * (group + 1)) plan.ranges
next_group plan group = drop-drop GROUP_RANGES (GROUP_RANGES * group) plan.ranges ∙ ap (λ n. drop n plan.ranges) (omega arith)

-- those that are left are in order
unmarked_in_order : (plan : Plan) (from end group : ℕ) (marks : List Bool) → AreInOrder from end (drop (GROUP_RANGES * group) plan.ranges) → AreInOrder from end (unmarked_ranges plan group marks)
unmarked_in_order plan from end group [] ordered = in_order_spans from end (drop (GROUP_RANGES * group) plan.ranges) ordered
unmarked_in_order plan from end group (true ∷ marks) ordered =
    unmarked_in_order plan from end (group + 1) marks
    (subst (AreInOrder from end) (next_group plan group) (in_order_drop GROUP_RANGES from end (drop (GROUP_RANGES * group) plan.ranges) ordered))
unmarked_in_order plan from end group (false ∷ marks) ordered =
    in_order_more GROUP_RANGES from end (drop (GROUP_RANGES * group) plan.ranges) (unmarked_ranges plan (group + 1) marks) ordered
    (λ to rest. unmarked_in_order plan to end (group + 1) marks (subst (AreInOrder to end) (next_group plan group) rest))

-- where no group is marked, they are all ranges
pub all_unmarked : (plan : Plan) (group count : ℕ) → length plan.ranges ≤ GROUP_RANGES * (group + count)
    → unmarked_ranges plan group (replicate count false) ≡ drop (GROUP_RANGES * group) plan.ranges
all_unmarked plan group zero enough = sym (nil_from_length (drop (GROUP_RANGES * group) plan.ranges) (omega (arith, enough, length-drop (GROUP_RANGES * group) plan.ranges)))
all_unmarked plan group (suc count) enough =
    let rest = drop (GROUP_RANGES * group) plan.ranges in
    ap (λ claims. take GROUP_RANGES rest ++ claims) (all_unmarked plan (group + 1) count (omega (arith, enough)) ∙ sym (next_group plan group))
    ∙ take-append-drop GROUP_RANGES rest

-- ---- all calls

-- the groups that are left and the last mark
rest_made : (plan : Plan) (last : ℕ) (marks image : List ℕ) → IsPlan plan → length image ≡ plan.image_len → length marks ≡ groups_of plan
    → changed_all (changes_of (unmarked_calls plan 0 (map is_set marks) ++ closing_calls plan)) (holding image (open_journal plan marks last))
    ≡ holding (filled (unmarked_ranges plan 0 (map is_set marks)) image) (done_journal plan)
rest_made plan last marks image is long each =
    let claims = unmarked_ranges plan 0 (map is_set marks) in
    let set = replicate (length marks) SET_MARK in
    let whole : AreInOrder 0 plan.image_len plan.ranges = fill_map_in_order plan.image_len plan.ranges is.ranges is.within in
    let ordered : AreInOrder 0 (length image) claims =
    subst (λ end. AreInOrder 0 end claims) (sym long) (unmarked_in_order plan 0 plan.image_len 0 (map is_set marks) whole) in
    made_both (unmarked_calls plan 0 (map is_set marks)) (closing_calls plan) (holding image (open_journal plan marks last))
    ∙ ap (changed_all (changes_of (closing_calls plan))) (groups_made plan last 0 [] marks image refl)
    ∙ ap (holding (filled_each claims image)) (last_set OPEN_GATE last plan set (length-replicate (length marks) SET_MARK ∙ each))
    ∙ ap (λ image. holding image (open_journal plan set SET_MARK)) (each_filled claims 0 image ordered)
    ∙ ap (λ count. holding (filled claims image) (open_journal plan (replicate count SET_MARK) SET_MARK)) each

unset_marks : (n : ℕ) → map is_set (replicate n 0) ≡ replicate n false
unset_marks zero = refl
unset_marks (suc n) = ap (λ rest. false ∷ rest) (unset_marks n)

pub script_law : ScriptLaw
script_law plan first is long =
    let none : List ℕ = replicate (groups_of plan) 0 in
    let calls = unmarked_calls plan 0 (unmarked plan) ++ closing_calls plan in
    let unset = unset_marks (groups_of plan) in
    ap (λ all. changed_all (changes_of all) first) (append_assoc (journal_calls plan) (unmarked_calls plan 0 (unmarked plan)) (closing_calls plan))
    ∙ made_both (journal_calls plan) calls first
    ∙ ap (changed_all (changes_of calls)) (journal_made plan first)
    ∙ ap (λ marks. changed_all (changes_of (unmarked_calls plan 0 marks ++ closing_calls plan)) (holding first.image (open_journal plan none 0))) (sym unset)
    ∙ rest_made plan 0 none first.image is long (length-replicate (groups_of plan) 0)
    ∙ ap (λ marks. holding (filled (unmarked_ranges plan 0 marks) first.image) (done_journal plan)) unset
    ∙ ap (λ claims. holding (filled claims first.image) (done_journal plan)) (all_unmarked plan 0 (groups_of plan) (omega arith))

-- where all are marked, no range is left
none_left : (plan : Plan) (group : ℕ) (marks : List ℕ) → list_all (λ mark. mark) (map is_set marks) ≡ true
    → (unmarked_ranges plan group (map is_set marks) ≡ []) × (marks ≡ replicate (length marks) SET_MARK)
none_left plan group [] all = (refl, refl)
none_left plan group (byte ∷ marks) all =
    let parts = and_parts (is_set byte) (list_all (λ mark. mark) (map is_set marks)) all in
    let rest = none_left plan (group + 1) marks parts.1 in (
      ap (λ mark. unmarked_ranges plan group (mark ∷ map is_set marks)) parts.0 ∙ rest.0,
      ap (λ b. b ∷ marks) (eqb-true byte SET_MARK parts.0) ∙ ap (λ bytes. SET_MARK ∷ bytes) rest.1,
    )

rest_of_made : (plan : Plan) (last : ℕ) (marks image : List ℕ) → IsPlan plan → length image ≡ plan.image_len → length marks ≡ groups_of plan
    → changed_all (changes_of (rest_of plan (map is_set marks) (is_set last))) (holding image (open_journal plan marks last))
    ≡ holding (filled (unmarked_ranges plan 0 (map is_set marks)) image) (done_journal plan)
rest_of_made plan last marks image is long each =
    let end = holding (filled (unmarked_ranges plan 0 (map is_set marks)) image) (done_journal plan) in
    cond_both (is_complete (map is_set marks) (is_set last)) [] (unmarked_calls plan 0 (map is_set marks) ++ closing_calls plan)
    (λ calls. changed_all (changes_of calls) (holding image (open_journal plan marks last)) ≡ end)
    (λ complete.
    let parts = and_parts (list_all (λ mark. mark) (map is_set marks)) (is_set last) complete in
    let none = none_left plan 0 marks parts.0 in
    ap (λ all. holding image (open_journal plan all last)) (none.1 ∙ ap (λ count. replicate count SET_MARK) each)
    ∙ ap (λ byte. holding image (open_journal plan (replicate (groups_of plan) SET_MARK) byte)) (eqb-true last SET_MARK parts.1)
    ∙ ap (λ image. holding image (done_journal plan)) (sym (ap (λ claims. filled claims image) none.0 ∙ filled_with_nothing 0 image)))
    (λ incomplete. rest_made plan last marks image is long each)

pub rest_law : RestLaw
rest_law plan groups last first is long journal =
    ap (λ bytes. changed_all (changes_of (rest_of plan groups last)) (holding first.image bytes)) journal.form
    ∙ subst (λ groups. changed_all (changes_of (rest_of plan groups last)) (holding first.image (open_journal plan journal.mark_bytes journal.last_byte)) ≡ holding (filled (unmarked_ranges plan 0 groups) first.image) (done_journal plan))
    journal.group_marks
    (subst (λ last. changed_all (changes_of (rest_of plan (map is_set journal.mark_bytes) last)) (holding first.image (open_journal plan journal.mark_bytes journal.last_byte)) ≡ holding (filled (unmarked_ranges plan 0 (map is_set journal.mark_bytes)) first.image) (done_journal plan))
    journal.last_mark
    (rest_of_made plan journal.last_byte journal.mark_bytes first.image is long journal.each_group))
