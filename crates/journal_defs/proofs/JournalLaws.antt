-- The laws of journals.
use Rattle.std.specs.Prelude.{◌≡◌, ℕ, zero, suc, ◌+◌, ◌*◌, ◌<◌, Bool, false, All, None, map, replicate, List, [], ◌∷◌, ◌++◌, length, take, drop, slice_index, sum_by, refl}
use Rattle.std.specs.List.{flat_map}
use Rattle.std.proofs.Common.{ap, sym, subst, ◌∙◌, arith}
use Rattle.std.proofs.lemmas.List.{get_or-drop, length-drop, length-replicate, same_from_push, take_all, take_more}
use Rattle.std.proofs.lemmas.List.Elements.{All-drop, All-replicate, All-take}
use Rattle.bytes_defs.specs.Bytes.{part}
use Rattle.journal_defs.specs.Form.{group_count, range_bytes, line_bytes, listing_len, groups_of, body_len, journal_len, header_rest, journal_bytes, is_set, IsOpen, IsJournal}
use Rattle.journal_defs.specs.Reading.{range_count_in, line_count_in, body_len_in, listing_len_in, listing_place, listing_end, claims_in, lines_in, plan_in}
use Rattle.journal_defs.specs.Checks.{first_failing, header_checks, ranges_checks, lines_checks, bad_at}
use Rattle.journal_defs.specs.Laws.{ChecksLaw, OneJournalLaw, FirstJournalLaw, LengthLaw}
use Rattle.journal_defs.specs.declared.TheConstants.{OPEN_GATE}
use Rattle.journal_defs.proofs.Fields.{AreBytes, byte_fits, length_part, stands_at}
use Rattle.journal_defs.proofs.Journals.{IsHeaderOf, HeaderHolds, plan_fits, header_reads, header_written, header_passes, header_holds, in_parts, length_journal}
use Rattle.journal_defs.proofs.Lines.{AreLinesAt, AreLinesWritten, lines_read, lines_written}
use Rattle.journal_defs.proofs.Passing.{both_pass, pass_all}
use Rattle.journal_defs.proofs.Ranges.{AreRangesAt, AreRangesWritten, ranges_read, ranges_written}
use Rattle.range_defs.specs.Claims.{BeginsApart}
use Rattle.range_defs.specs.declared.Claim.{Claim}
use Rattle.rx_ranges.specs.PlanChecks.{IsClaimIn, IsPlan, listed_len}
use Rattle.rx_ranges.specs.declared.plan.Plan.{Plan}

-- ---- the journal of a plan is read

-- no check of it fails, its plan is read, and its marks stand behind the listing
pub record IsReadAs (bytes : List ℕ) (plan : Plan) (marks : List ℕ) (last : ℕ) : Type 0 where
  pub passes : bad_at bytes ≡ None
  pub read : plan_in bytes ≡ plan
  pub behind : drop (listing_end bytes) bytes ≡ marks ++ last ∷ []

-- the first range is behind the place 0 and has a rule
begins_apart : (image_len : ℕ) (claims : List Claim) → All (IsClaimIn image_len) claims → BeginsApart 0 0 claims
begins_apart image_len [] within = tt
begins_apart image_len (claim ∷ claims) within =
    let here : IsClaimIn image_len claim = within 0 claim (omega arith) in
    (omega arith, λ touch same. omega (arith, here.1.0, same))

pub journal_read : (bytes : List ℕ) (plan : Plan) (marks : List ℕ) (last : ℕ) → IsPlan plan → length marks ≡ groups_of plan → bytes ≡ journal_bytes OPEN_GATE plan marks last
    → IsReadAs bytes plan marks last
journal_read bytes plan marks last is each form =
    let tail = marks ++ last ∷ [] in
    let listing = flat_map line_bytes plan.listing ++ tail in
    let ranges = flat_map range_bytes plan.ranges ++ listing in
    let long : length bytes ≡ journal_len plan = ap length form ∙ length_journal OPEN_GATE last plan marks each in
    let Header : List ℕ → Type 0 = λ bytes. IsHeaderOf bytes plan ranges in
    let header : IsHeaderOf bytes plan ranges = subst Header (sym (form ∙ in_parts OPEN_GATE last plan marks)) (header_reads OPEN_GATE plan ranges (plan_fits plan is)) in
    let claims : AreRangesAt bytes 40 0 0 plan.ranges listing =
    ranges_read plan.ranges bytes listing 40 0 0 plan.image_len (omega (arith, is.in_reach)) header.image_len (begins_apart plan.image_len plan.ranges is.within) is.ranges is.within header.behind in
    let at_listing : 40 + 24 * length plan.ranges ≡ listing_place bytes = omega (arith, header.ranges) in
    let ends : listing_place bytes + sum_by listed_len plan.listing ≡ listing_end bytes = omega (arith, header.listing) in
    let lines : AreLinesAt bytes (listing_end bytes) (listing_place bytes) plan.listing tail =
    lines_read plan.listing bytes tail (listing_end bytes) (listing_place bytes) is.listed ends (stands_at bytes (40 + 24 * length plan.ranges) (listing_place bytes) listing at_listing claims.behind) in
    let ranges_pass : first_failing (ranges_checks bytes 40 0 0 (range_count_in bytes)) ≡ None = ap (λ count. first_failing (ranges_checks bytes 40 0 0 count)) header.ranges ∙ claims.pass in
    let lines_pass : first_failing (lines_checks bytes (listing_end bytes) (listing_place bytes) (line_count_in bytes)) ≡ None =
    ap (λ count. first_failing (lines_checks bytes (listing_end bytes) (listing_place bytes) count)) header.lines ∙ lines.pass in
    let front : first_failing (header_checks bytes (length bytes) ++ ranges_checks bytes 40 0 0 (range_count_in bytes)) ≡ None =
    pass_all (header_checks bytes (length bytes)) _ (header_passes bytes plan ranges is header long) ∙ ranges_pass in
    let claims_are : claims_in bytes 40 (range_count_in bytes) ≡ plan.ranges = ap (claims_in bytes 40) header.ranges ∙ claims.are in
    let lines_are : lines_in bytes (listing_place bytes) (line_count_in bytes) ≡ plan.listing = ap (lines_in bytes (listing_place bytes)) header.lines ∙ lines.are in
    let image_is = header.image_len in record {
      passes = pass_all (header_checks bytes (length bytes) ++ ranges_checks bytes 40 0 0 (range_count_in bytes)) _ front ∙ lines_pass;
      read = rw (image_is, claims_are, lines_are) refl;
      behind = lines.behind;
    }

-- ---- a journal that passes its checks was written

-- the marks behind the listing, one for each group, and the last one
abbrev pub groups_in : List ℕ → List Bool
groups_in bytes = map is_set (part bytes (listing_end bytes) (group_count (range_count_in bytes)))

abbrev pub last_in : List ℕ → Bool
last_in bytes = is_set (slice_index bytes (listing_end bytes + group_count (range_count_in bytes)))

-- what was written where none of the checks fails
pub record IsWritten (bytes : List ℕ) : Type 0 where
  pub is_plan : IsPlan (plan_in bytes)
  pub long : length bytes ≡ journal_len (plan_in bytes)
  pub is_journal : IsJournal bytes (plan_in bytes) (groups_in bytes) (last_in bytes)

-- the last item behind the others
last_behind : (bytes : List ℕ) (n : ℕ) → length bytes ≡ n + 1 → bytes ≡ take n bytes ++ slice_index bytes n ∷ []
last_behind bytes n long = sym (take_all (n + 1) bytes (omega (arith, long))) ∙ take_more bytes n 0 (omega (arith, long))

pub journal_written : (bytes : List ℕ) → AreBytes bytes → IsOpen bytes → bad_at bytes ≡ None → IsWritten bytes
unfolding part
journal_written bytes fit open_here none =
    let plan = plan_in bytes in
    let groups = group_count (range_count_in bytes) in
    let parts = both_pass (header_checks bytes (length bytes) ++ ranges_checks bytes 40 0 0 (range_count_in bytes)) (lines_checks bytes (listing_end bytes) (listing_place bytes) (line_count_in bytes)) none in
    let front = both_pass (header_checks bytes (length bytes)) (ranges_checks bytes 40 0 0 (range_count_in bytes)) parts.0 in
    let holds : HeaderHolds bytes (length bytes) = header_holds bytes (length bytes) front.0 in
    let long : length bytes ≡ listing_end bytes + (groups + 1) = omega (arith, open_here.0, holds.body, holds.total) in
    let ranges : AreRangesWritten bytes 40 0 0 (range_count_in bytes) = ranges_written (range_count_in bytes) bytes 40 0 0 fit (omega (arith, long)) front.1 in
    let lines : AreLinesWritten bytes (listing_end bytes) (listing_place bytes) (line_count_in bytes) =
    lines_written (line_count_in bytes) bytes (listing_end bytes) (listing_place bytes) fit (omega (arith, long)) (omega arith) parts.1 in
    let listing_is : listing_len_in bytes ≡ listing_len plan = omega (arith, lines.sum) in
    let body_is : body_len_in bytes ≡ body_len plan = omega (arith, holds.total, listing_is, ranges.counted) in
    let header : IsHeaderOf bytes plan (drop 40 bytes) =
    record { text = holds.text; image_len = refl; ranges = sym ranges.counted; lines = sym lines.counted; body = body_is; listing = listing_is; behind = refl } in
    let tail_len : length (drop (listing_end bytes) bytes) ≡ groups + 1 = length-drop (listing_end bytes) bytes ∙ omega (arith, long) in
    let last_is : slice_index (drop (listing_end bytes) bytes) groups ≡ slice_index bytes (listing_end bytes + groups) = get_or-drop (listing_end bytes) bytes groups 0 in
    let tail : drop (listing_end bytes) bytes ≡ part bytes (listing_end bytes) groups ++ slice_index bytes (listing_end bytes + groups) ∷ [] =
    last_behind (drop (listing_end bytes) bytes) groups tail_len ∙ ap (λ last. take groups (drop (listing_end bytes) bytes) ++ last ∷ []) last_is in
    let body : drop 40 bytes ≡ flat_map range_bytes plan.ranges ++ (flat_map line_bytes plan.listing ++ (part bytes (listing_end bytes) groups ++ slice_index bytes (listing_end bytes + groups) ∷ [])) =
    ranges.form ∙ ap (λ rest. flat_map range_bytes plan.ranges ++ rest) (lines.form ∙ ap (λ rest. flat_map line_bytes plan.listing ++ rest) tail) in
    let form : bytes ≡ journal_bytes OPEN_GATE plan (part bytes (listing_end bytes) groups) (slice_index bytes (listing_end bytes + groups)) =
    header_written bytes plan fit open_here.0 header ∙ ap (λ rest. slice_index bytes 0 ∷ (header_rest plan ++ rest)) body
    ∙ ap (λ gate. gate ∷ (header_rest plan ++ (flat_map range_bytes plan.ranges ++ (flat_map line_bytes plan.listing ++ (part bytes (listing_end bytes) groups ++ slice_index bytes (listing_end bytes + groups) ∷ []))))) open_here.1
    ∙ sym (in_parts OPEN_GATE (slice_index bytes (listing_end bytes + groups)) plan (part bytes (listing_end bytes) groups)) in
    let each : length (part bytes (listing_end bytes) groups) ≡ groups_of plan = length_part bytes (listing_end bytes) groups (omega (arith, long)) ∙ ap group_count (sym ranges.counted) in
    record {
      is_plan = record {
        in_reach = holds.image_len;
        few_ranges = omega (arith, ranges.counted, holds.ranges);
        few_lines = omega (arith, lines.counted, holds.lines);
        short_listing = omega (arith, lines.sum, holds.listing);
        ranges = ranges.kept;
        within = ranges.within;
        listed = lines.listed;
      };
      long = ap length form ∙ length_journal OPEN_GATE (slice_index bytes (listing_end bytes + groups)) plan (part bytes (listing_end bytes) groups) each;
      is_journal = record {
        mark_bytes = part bytes (listing_end bytes) groups;
        last_byte = slice_index bytes (listing_end bytes + groups);
        form = form;
        each_group = each;
        group_marks = refl;
        last_mark = refl;
        bytes_fit = All-take (λ byte. byte < 256) groups (drop (listing_end bytes) bytes) (All-drop (λ byte. byte < 256) (listing_end bytes) bytes fit);
        last_fits = byte_fits bytes (listing_end bytes + groups) fit;
      };
    }

-- ---- the laws

pub checks_law : ChecksLaw
checks_law bytes fit open_here = (
  (λ none. let is = journal_written bytes fit open_here none in record { plan = plan_in bytes; groups = groups_in bytes; last = last_in bytes; is_plan = is.is_plan; is_journal = is.is_journal }),
  (λ some. (journal_read bytes some.plan some.is_journal.mark_bytes some.is_journal.last_byte some.is_plan some.is_journal.each_group some.is_journal.form).passes),
)

pub one_journal_law : OneJournalLaw
one_journal_law bytes plan other groups other_groups last other_last plan_is other_is one two =
    let read = journal_read bytes plan one.mark_bytes one.last_byte plan_is one.each_group one.form in
    let again = journal_read bytes other two.mark_bytes two.last_byte other_is two.each_group two.form in
    let marks = same_from_push one.mark_bytes two.mark_bytes one.last_byte two.last_byte (sym read.behind ∙ again.behind) in
    (sym read.read ∙ again.read, sym one.group_marks ∙ ap (map is_set) marks.0 ∙ two.group_marks, sym one.last_mark ∙ ap is_set marks.1 ∙ two.last_mark)

unset_marks : (n : ℕ) → map is_set (replicate n 0) ≡ replicate n false
unset_marks zero = refl
unset_marks (suc n) = ap (λ rest. false ∷ rest) (unset_marks n)

pub first_journal_law : FirstJournalLaw
unfolding journal_bytes
first_journal_law plan = record {
  mark_bytes = replicate (groups_of plan) 0;
  last_byte = 0;
  form = refl;
  each_group = length-replicate (groups_of plan) 0;
  group_marks = unset_marks (groups_of plan);
  last_mark = refl;
  bytes_fit = All-replicate (λ byte. byte < 256) (groups_of plan) 0 (omega arith);
  last_fits = omega arith;
}

pub length_law : LengthLaw
length_law gate last plan marks each = length_journal gate last plan marks each
