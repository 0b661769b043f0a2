-- Laws of a journal as its marks are written.
use Rattle.std.proofs.Common.{◌≡◌, ℕ, ◌+◌, ◌*◌, List, [], ◌∷◌, ◌++◌, length, drop, replicate, sym, ◌∙◌, ap, arith}
use Rattle.std.specs.List.{flat_map}
use Rattle.std.proofs.lemmas.List.{append_assoc, append-nil, drop-drop, drop_all, drop_at, length-append, length-replicate, take_at}
use Rattle.disk_defs.specs.Story.{Held, overwritten}
use Rattle.journal_defs.specs.Form.{first_journal, groups_of, header_rest, journal_bytes, line_bytes, listing_len, range_bytes}
use Rattle.journal_defs.specs.declared.TheConstants.{OPEN_GATE, SET_MARK, HEADER_LEN, RANGE_LEN}
use Rattle.journal_defs.proofs.JournalLaws.{length_law}
use Rattle.rx_ranges.specs.declared.plan.Plan.{Plan}
use Rattle.session_defs.proofs.Made.{made_both, writes_made}
use Rattle.session_defs.specs.Outcome.{changed_all}
use Rattle.session_defs.specs.Script.{byte_call, changes_of, journal_calls, mark_place, sync, writes}
use Rattle.session_defs.specs.declared.Turn.TheVariants.{Opened, Wrote}
use Rattle.disk_defs.specs.declared.Area.TheVariants.{Journal}

-- one byte is written over another
one_overwritten : (front behind : List ℕ) (old new at : ℕ) → length front ≡ at → overwritten (front ++ old ∷ behind) at (new ∷ []) ≡ front ++ new ∷ behind
unfolding overwritten
one_overwritten front behind old new at here =
    ap (λ bytes. bytes ++ new ∷ drop (at + 1) (front ++ old ∷ behind)) (take_at front (old ∷ behind) at here)
    ∙ ap (λ bytes. front ++ new ∷ bytes) (sym (drop-drop 1 at (front ++ old ∷ behind)) ∙ ap (drop 1) (drop_at front (old ∷ behind) at here))

-- what stands in front of the marks
abbrev front : ℕ → Plan → List ℕ
front gate plan = gate ∷ (header_rest plan ++ (flat_map range_bytes plan.ranges ++ flat_map line_bytes plan.listing))

in_front : (gate last : ℕ) (plan : Plan) (marks : List ℕ) → journal_bytes gate plan marks last ≡ front gate plan ++ (marks ++ last ∷ [])
unfolding journal_bytes
in_front gate last plan marks = simp append_assoc

length_front : (gate : ℕ) (plan : Plan) → length (front gate plan) ≡ HEADER_LEN + RANGE_LEN * length plan.ranges + listing_len plan
length_front gate plan =
    let marks : List ℕ = replicate (groups_of plan) 0 in
    let each : length marks ≡ groups_of plan = length-replicate (groups_of plan) 0 in
    let parts = ap length (in_front gate 0 plan marks) ∙ length-append (front gate plan) (marks ++ 0 ∷ []) in
    let behind = length-append marks (0 ∷ []) in
    omega (arith, length_law gate 0 plan marks each, parts, behind, each)

-- the mark of a group is set
pub mark_set : (gate last : ℕ) (plan : Plan) (group : ℕ) (done more : List ℕ) (mark : ℕ) → length done ≡ group
    → overwritten (journal_bytes gate plan (done ++ mark ∷ more) last) (mark_place plan group) (SET_MARK ∷ []) ≡ journal_bytes gate plan (done ++ SET_MARK ∷ more) last
mark_set gate last plan group done more mark here =
    let head = front gate plan in
    ap (λ bytes. overwritten bytes (mark_place plan group) (SET_MARK ∷ [])) (apart gate last plan done more mark)
    ∙ one_overwritten (head ++ done) (more ++ last ∷ []) mark SET_MARK (mark_place plan group) (omega (arith, length-append head done, length_front gate plan, here))
    ∙ sym (apart gate last plan done more SET_MARK)
  where
    apart : (gate last : ℕ) (plan : Plan) (done more : List ℕ) (mark : ℕ) → journal_bytes gate plan (done ++ mark ∷ more) last ≡ (front gate plan ++ done) ++ mark ∷ (more ++ last ∷ [])
    apart gate last plan done more mark =
        in_front gate last plan (done ++ mark ∷ more)
        ∙ ap (λ rest. front gate plan ++ rest) (append_assoc done (mark ∷ more) (last ∷ []))
        ∙ sym (append_assoc (front gate plan) done (mark ∷ (more ++ last ∷ [])))

-- the last mark is set
pub last_set : (gate last : ℕ) (plan : Plan) (marks : List ℕ) → length marks ≡ groups_of plan
    → overwritten (journal_bytes gate plan marks last) (mark_place plan (groups_of plan)) (SET_MARK ∷ []) ≡ journal_bytes gate plan marks SET_MARK
last_set gate last plan marks each =
    let head = front gate plan in
    ap (λ bytes. overwritten bytes (mark_place plan (groups_of plan)) (SET_MARK ∷ [])) (in_front gate last plan marks ∙ sym (append_assoc head marks (last ∷ [])))
    ∙ one_overwritten (head ++ marks) [] last SET_MARK (mark_place plan (groups_of plan)) (omega (arith, length-append head marks, length_front gate plan, each))
    ∙ append_assoc head marks (SET_MARK ∷ []) ∙ sym (in_front gate SET_MARK plan marks)

-- the calls of a journal leave it open, without a set mark, whatever it was
pub journal_made : (plan : Plan) (before : Held)
    → changed_all (changes_of (journal_calls plan)) before ≡ record { image = before.image; journal = journal_bytes OPEN_GATE plan (replicate (groups_of plan) 0) 0 }
unfolding journal_calls journal_bytes overwritten
journal_made plan before =
    let body = drop 1 (first_journal plan) in
    let armed : Held = record { image = before.image; journal = 0 ∷ [] } in
    let opened = λ (rest : List ℕ). let held : Held = record { image = before.image; journal = OPEN_GATE ∷ rest } in held in
    made_both (writes Wrote Journal 1 body) (sync ∷ byte_call Opened 0 OPEN_GATE ∷ sync ∷ []) armed
    ∙ ap (λ held. changed_all (changes_of (sync ∷ byte_call Opened 0 OPEN_GATE ∷ sync ∷ [])) held) (writes_made Wrote Journal 1 body armed)
    ∙ ap (λ rest. opened (body ++ rest)) (drop_all (1 + length body) (0 ∷ []) (omega arith))
    ∙ ap opened (append-nil body)
