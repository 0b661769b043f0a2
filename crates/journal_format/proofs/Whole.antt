-- What the parts of a journal give for the whole.
use Rattle.std.specs.Prelude.{◌≡◌, ℕ, ◌+◌, ◌*◌, ◌<◌, ◌≤◌, All, Bool, Option, None, Some, IfErr, IfOk, IfSome, Result, Ok, Err, map, List, [], ◌++◌, refl, length, take, drop, slice_index, get_or}
use Rattle.std.proofs.Common.{ap, sym, subst, ◌∙◌, arith, Fits, w8}
use Rattle.std.proofs.lemmas.List.{append_assoc, drop-take, get_or-take, length-map, take-take}
use Rattle.std.proofs.lemmas.List.Elements.{All-from_get_or}
use Rattle.bytes_defs.proofs.NumberLaws.{number_at_part}
use Rattle.bytes_defs.specs.Bytes.{part}
use Rattle.bytes_defs.specs.declared.order.Order.TheVariants.{Little}
use Rattle.journal_defs.specs.Checks.{Check, first_failing, header_checks, ranges_checks, lines_checks, journal_checks}
use Rattle.journal_defs.specs.Form.{group_count, groups_of, is_set, journal_len, IsOpen, IsJournal}
use Rattle.journal_defs.specs.Reading.{image_len_in, range_count_in, line_count_in, listing_place, listing_end, claims_in, lines_in, plan_in}
use Rattle.journal_defs.proofs.Fields.{AreBytes}
use Rattle.journal_defs.proofs.JournalLaws.{groups_in, last_in, journal_written}
use Rattle.journal_defs.proofs.Journals.{header_holds}
use Rattle.journal_defs.proofs.Passing.{nothing_fails, pass_all}
use Rattle.journal_defs.proofs.Ranges.{ranges_written}
use Rattle.journal_format.proofs.PartLaws.{part_more, told_fails, told_says, own_says, all_there}
use Rattle.journal_format.proofs.Steps.{fails_with, fails_behind, told_weaker}
use Rattle.journal_format.specs.Header.{IsHeader, checks_of, header_in}
use Rattle.journal_format.specs.Parts.{Always, IsPart}
use Rattle.journal_format.specs.Says.{Says, IsState, FailsAs, FailsWith}
use Rattle.journal_format.specs.declared.fault.JournalFault.{JournalFault}
use Rattle.journal_format.specs.declared.fault.JournalFault.TheVariants.{NotOpen, Bad, OtherLength, Device, NoMemory}
use Rattle.journal_format.specs.declared.fields.Header.{Header}
use Rattle.journal_defs.specs.declared.TheConstants.{OPEN_GATE}
use Rattle.range_defs.specs.Claims.{IsFillMap}
use Rattle.range_defs.specs.Places.{EndsInReach}
use Rattle.range_defs.specs.declared.Claim.{Claim}
use Rattle.rx_ranges.specs.PlanChecks.{IsClaimIn, IsPlan}
use Rattle.rx_ranges.specs.declared.plan.Listed.{Listed}
use Rattle.rx_ranges.specs.declared.plan.Plan.{Plan}

-- the items of a slice of bytes are bytes
pub are_bytes : (bytes : List ℕ) → ((k : ℕ) → Fits w8 (get_or bytes k 0)) → AreBytes bytes
are_bytes bytes fit = All-from_get_or (λ byte. byte < 256) bytes 0 (λ k inside. let fits = fit k in omega (arith, fits))

-- ---- the header alone

text_read : (bytes : List ℕ) → part (part bytes 0 40) 1 7 ≡ part bytes 1 7
unfolding part
text_read bytes = ap (take 7) (drop-take 1 39 bytes) ∙ take-take 7 39 (drop 1 bytes) (omega arith)

-- a header is read from the first bytes as from all
header_numbers : (bytes : List ℕ) (len : ℕ) → header_checks (part bytes 0 40) len ≡ header_checks bytes len
unfolding header_checks
header_numbers bytes len =
    let text = text_read bytes in
    let image_len = number_at_part Little 8 bytes 0 40 8 (omega arith) in
    let ranges = number_at_part Little 4 bytes 0 40 16 (omega arith) in
    let lines = number_at_part Little 4 bytes 0 40 20 (omega arith) in
    let body = number_at_part Little 8 bytes 0 40 24 (omega arith) in
    let listing = number_at_part Little 8 bytes 0 40 32 (omega arith) in
    rw (text, image_len, ranges, lines, body, listing) refl

header_same : (bytes : List ℕ) → header_in (part bytes 0 40) ≡ header_in bytes
header_same bytes =
    let image_len = number_at_part Little 8 bytes 0 40 8 (omega arith) in
    let ranges = number_at_part Little 4 bytes 0 40 16 (omega arith) in
    let lines = number_at_part Little 4 bytes 0 40 20 (omega arith) in
    let body = number_at_part Little 8 bytes 0 40 24 (omega arith) in
    let listing = number_at_part Little 8 bytes 0 40 32 (omega arith) in
    rw (image_len, ranges, lines, body, listing) refl

-- the gate too
pub gate_read : (bytes header : List ℕ) → part bytes 0 40 ≡ header → slice_index header 0 ≡ slice_index bytes 0
unfolding part
gate_read bytes header is = ap (λ header. slice_index header 0) (sym is) ∙ get_or-take 40 bytes 0 0 (omega arith)

header_is : (bytes front : List ℕ) (len : ℕ) (header : Header) → part bytes 0 40 ≡ front → slice_index front 0 ≡ OPEN_GATE → first_failing (header_checks front len) ≡ None → header ≡ header_in front → IsHeader len header bytes
header_is bytes front len header is gate passes numbers = record {
  gate = sym (gate_read bytes front is) ∙ gate;
  passes = ap first_failing (sym (header_numbers bytes len) ∙ ap (λ front. header_checks front len) is) ∙ passes;
  is = numbers ∙ ap header_in (sym is) ∙ header_same bytes;
}

pub headers_are : (front : List ℕ) (len : ℕ) (result : Result Header JournalFault) → slice_index front 0 ≡ OPEN_GATE → FailsAs (header_checks front len) result → IfOk result (λ header. header ≡ header_in front)
    → IfOk result (λ header. (bytes : List ℕ) → part bytes 0 40 ≡ front → IsHeader len header bytes)
headers_are front len (Ok header) gate passes numbers = λ bytes is. header_is bytes front len header is gate passes numbers
headers_are front len (Err fault) gate passes numbers = tt

-- ---- faults of the parts are faults of the whole

header_refuses : (bytes : List ℕ) (len : ℕ) (fault : JournalFault) → FailsWith (header_checks bytes len) fault → FailsWith (checks_of len bytes) fault
header_refuses bytes len fault fails =
    let header = header_checks bytes len in
    let ranges = ranges_checks bytes 40 0 0 (range_count_in bytes) in
    let lines = lines_checks bytes (listing_end bytes) (listing_place bytes) (line_count_in bytes) in
    fails_with header (ranges ++ lines) (checks_of len bytes) fault (ap first_failing (append_assoc header ranges lines)) fails

-- behind a header that passes its checks
ranges_left : (bytes : List ℕ) (len : ℕ) (header : Header) → IsHeader len header bytes
    → first_failing (checks_of len bytes) ≡ first_failing (ranges_checks bytes 40 0 0 header.ranges ++ lines_checks bytes (listing_end bytes) (listing_place bytes) (line_count_in bytes))
ranges_left bytes len header is =
    let lines = lines_checks bytes (listing_end bytes) (listing_place bytes) (line_count_in bytes) in
    ap first_failing (append_assoc (header_checks bytes len) (ranges_checks bytes 40 0 0 (range_count_in bytes)) lines) ∙ pass_all (header_checks bytes len) _ is.passes
    ∙ ap (λ count. first_failing (ranges_checks bytes 40 0 0 count ++ lines)) (sym (ap (λ (h : Header). h.ranges) is.is))

pub ranges_refuse : (bytes : List ℕ) (len : ℕ) (header : Header) (fault : JournalFault) → IsHeader len header bytes
    → FailsWith (ranges_checks bytes 40 0 0 header.ranges) fault → FailsWith (checks_of len bytes) fault
ranges_refuse bytes len header fault is fails = fails_with (ranges_checks bytes 40 0 0 header.ranges) _ (checks_of len bytes) fault (ranges_left bytes len header is) fails

-- behind ranges that pass theirs
lines_left : (bytes : List ℕ) (len : ℕ) (header : Header) → IsHeader len header bytes → first_failing (ranges_checks bytes 40 0 0 header.ranges) ≡ None
    → first_failing (checks_of len bytes) ≡ first_failing (lines_checks bytes (40 + 24 * header.ranges + header.listing_len) (40 + 24 * header.ranges) header.lines)
lines_left bytes len header is ranges_pass =
    ranges_left bytes len header is ∙ pass_all (ranges_checks bytes 40 0 0 header.ranges) _ ranges_pass
    ∙ ap (λ (h : Header). first_failing (lines_checks bytes (40 + 24 * h.ranges + h.listing_len) (40 + 24 * h.ranges) h.lines)) (sym is.is)

pub lines_refuse : (bytes : List ℕ) (len : ℕ) (header : Header) (fault : JournalFault) → IsHeader len header bytes → first_failing (ranges_checks bytes 40 0 0 header.ranges) ≡ None
    → FailsWith (lines_checks bytes (40 + 24 * header.ranges + header.listing_len) (40 + 24 * header.ranges) header.lines) fault → FailsWith (checks_of len bytes) fault
lines_refuse bytes len header fault is passes fails = fails_behind _ (checks_of len bytes) fault (lines_left bytes len header is passes) fails

-- a fault of the checks of an open journal is one of the journal
fault_says : (bytes : List ℕ) (fault : JournalFault) → IsOpen bytes → FailsWith (journal_checks bytes) fault → Says bytes (Err fault)
fault_says bytes NotOpen open_here fails = absurd fails
fault_says bytes (Bad at) open_here fails = (open_here, fails)
fault_says bytes (OtherLength kept found) open_here fails = fails
fault_says bytes Device open_here fails = tt
fault_says bytes NoMemory open_here fails = tt

header_says : (bytes front : List ℕ) (len : ℕ) (fault : JournalFault) → length bytes ≡ len → part bytes 0 40 ≡ front → 41 ≤ len → slice_index front 0 ≡ OPEN_GATE
    → FailsWith (header_checks front len) fault → Says bytes (Err fault)
header_says bytes front len fault long is enough gate fails =
    let P : List Check → Type 0 = λ checks. FailsWith checks fault in
    let same : header_checks front len ≡ header_checks bytes len = ap (λ front. header_checks front len) (sym is) ∙ header_numbers bytes len in
    let Q : ℕ → Type 0 = λ len. FailsWith (checks_of len bytes) fault in
    fault_says bytes fault (omega (arith, long, enough), sym (gate_read bytes front is) ∙ gate) (subst Q (sym long) (header_refuses bytes len fault (subst P same fails)))

pub headers_refuse : (front : List ℕ) (len : ℕ) (result : Result Header JournalFault) → 41 ≤ len → slice_index front 0 ≡ OPEN_GATE → FailsAs (header_checks front len) result
    → IfErr result (λ fault. (bytes : List ℕ) → length bytes ≡ len → part bytes 0 40 ≡ front → Says bytes (Err fault))
headers_refuse front len (Ok header) enough gate fails = tt
headers_refuse front len (Err fault) enough gate fails = λ bytes long is. header_says bytes front len fault long is enough gate fails

-- ---- what was read of a plan

-- the header and the ranges
pub record AreRanges (len : ℕ) (numbers : Header) (claims : List Claim) (bytes : List ℕ) : Type 0 where
  pub header : IsHeader len numbers bytes
  pub pass : first_failing (ranges_checks bytes 40 0 0 numbers.ranges) ≡ None
  pub are : claims ≡ claims_in bytes 40 numbers.ranges

pub ranges_there : {told : Option (List ℕ)} (len count : ℕ) (header : Header) (claims : List Claim) → count ≡ header.ranges → IsPart told 0 40 (IsHeader len header)
    → IsPart told 40 (40 + 24 * count) (λ whole. header.image_len ≡ image_len_in whole → (first_failing (ranges_checks whole 40 0 0 count) ≡ None) × (claims ≡ claims_in whole 40 count))
    → IsPart told 0 (40 + 24 * header.ranges) (AreRanges len header claims)
ranges_there {told} len count header claims all first read =
    let Read : ℕ → Type 0 = λ count. IsPart told 40 (40 + 24 * count) (λ whole. header.image_len ≡ image_len_in whole → (first_failing (ranges_checks whole 40 0 0 count) ≡ None) × (claims ≡ claims_in whole 40 count)) in
    part_more (λ whole (is : IsHeader len header whole) there. let here = there (ap (λ (h : Header). h.image_len) is.is) in record { header = is; pass = here.0; are = here.1 }) first (subst Read all read)

-- or one of them fails
pub ranges_told : (told : Option (List ℕ)) (len count : ℕ) (header : Header) (fault : JournalFault) → count ≡ header.ranges → IsPart told 0 40 (IsHeader len header)
    → IfSome told (λ journal. header.image_len ≡ image_len_in journal → FailsWith (ranges_checks journal 40 0 0 count) fault) → IfSome told (λ journal. Always journal → FailsWith (checks_of len journal) fault)
ranges_told told len count header fault all first fails =
    told_fails Always (λ whole. header.image_len ≡ image_len_in whole → FailsWith (ranges_checks whole 40 0 0 count) fault) (checks_of len) fault first fails (λ whole (is : IsHeader len header whole) more given.
    let Fails : ℕ → Type 0 = λ count. FailsWith (ranges_checks whole 40 0 0 count) fault in
    ranges_refuse whole len header fault is (subst Fails all (more (ap (λ (h : Header). h.image_len) is.is))))

-- they are those of a map, and end in reach
pub ranges_kept : {told : Option (List ℕ)} (len : ℕ) (header : Header) (claims : List Claim) → IsPart told 0 (40 + 24 * header.ranges) (AreRanges len header claims) → IsFillMap claims
ranges_kept len header claims read =
    let here : AreRanges len header claims read.bytes = own_says read in
    subst IsFillMap (sym here.are) (ranges_written header.ranges read.bytes 40 0 0 read.are_bytes (omega (arith, read.reaches)) here.pass).kept

pub ranges_reach : {told : Option (List ℕ)} (len : ℕ) (header : Header) (claims : List Claim) → IsPart told 0 (40 + 24 * header.ranges) (AreRanges len header claims) → All (λ claim. EndsInReach claim.range) claims
ranges_reach len header claims read =
    let here : AreRanges len header claims read.bytes = own_says read in
    let P : List Claim → Type 0 = All (λ claim. EndsInReach claim.range) in
    let within : All (IsClaimIn (image_len_in read.bytes)) (claims_in read.bytes 40 header.ranges) = (ranges_written header.ranges read.bytes 40 0 0 read.are_bytes (omega (arith, read.reaches)) here.pass).within in
    let short = (header_holds read.bytes len here.header.passes).image_len in
    subst P (sym here.are) (λ k d inside. let ends = (within k d inside).0 in omega (arith, ends, short))

-- a line fails behind them
pub lines_told : (told : Option (List ℕ)) (len begin end : ℕ) (header : Header) (claims : List Claim) (fault : JournalFault) → begin ≡ 40 + 24 * header.ranges → end ≡ 40 + 24 * header.ranges + header.listing_len
    → IsPart told 0 (40 + 24 * header.ranges) (AreRanges len header claims) → IfSome told (λ journal. Always journal → FailsWith (lines_checks journal end begin header.lines) fault)
    → IfSome told (λ journal. Always journal → FailsWith (checks_of len journal) fault)
lines_told told len begin end header claims fault begins ends first fails =
    told_fails Always (λ whole. Always whole → FailsWith (lines_checks whole end begin header.lines) fault) (checks_of len) fault first fails (λ whole (front : AreRanges len header claims whole) more given.
    let Ends : ℕ → Type 0 = λ end. FailsWith (lines_checks whole end (40 + 24 * header.ranges) header.lines) fault in
    let Begins : ℕ → Type 0 = λ begin. FailsWith (lines_checks whole end begin header.lines) fault in
    lines_refuse whole len header fault front.header front.pass (subst Ends ends (subst Begins begins (more tt))))

-- all of the plan
pub plan_there : (told : Option (List ℕ)) (len begin end : ℕ) (header : Header) (claims ranges : List Claim) (read lines : List Listed) → begin ≡ 40 + 24 * header.ranges → end ≡ 40 + 24 * header.ranges + header.listing_len
    → ranges ≡ claims → lines ≡ read → IsPart told 0 (40 + 24 * header.ranges) (AreRanges len header claims)
    → IsPart told begin end (λ whole. Always whole → (first_failing (lines_checks whole end begin header.lines) ≡ None) × (read ≡ lines_in whole begin header.lines))
    → IsPart told 0 (40 + 24 * header.ranges + header.listing_len)
    (λ whole. Always whole → (first_failing (checks_of len whole) ≡ None) × ((record { image_len = header.image_len; ranges = ranges; listing = lines } ≡ plan_in whole) × IsHeader len header whole))
plan_there told len begin end header claims ranges read lines begins ends ranges_are lines_are first listing =
    let Listing : ℕ → ℕ → Type 0 = λ begin end. IsPart told begin end (λ whole. Always whole → (first_failing (lines_checks whole end begin header.lines) ≡ None) × (read ≡ lines_in whole begin header.lines)) in
    part_more (λ whole (front : AreRanges len header claims whole) there given.
    let here = there tt in
    (lines_left whole len header front.header front.pass ∙ here.0, (plan_is whole front here.1, front.header))) first
    (subst (Listing (40 + 24 * header.ranges)) ends (subst (λ begin. Listing begin end) begins listing))
  where
    plan_is : (whole : List ℕ) → AreRanges len header claims whole → read ≡ lines_in whole (40 + 24 * header.ranges) header.lines → record { image_len = header.image_len; ranges = ranges; listing = lines } ≡ plan_in whole
    plan_is whole front read_are =
        let Q : List Claim → List Listed → Plan = λ claims lines. record { image_len = header.image_len; ranges = claims; listing = lines } in
        ap (λ claims. Q claims lines) (ranges_are ∙ front.are) ∙ ap (Q (claims_in whole 40 header.ranges)) (lines_are ∙ read_are)
        ∙ ap (λ (h : Header). record { image_len = h.image_len; ranges = claims_in whole 40 h.ranges; listing = lines_in whole (40 + 24 * h.ranges) h.lines }) front.header.is

-- ---- the whole

-- a state with the plan and the marks that are read is that of the journal
pub record IsRead (len : ℕ) (plan : Plan) (groups : List Bool) (last : Bool) (bytes : List ℕ) : Type 0 where
  pub gate : slice_index bytes 0 ≡ OPEN_GATE
  pub passes : first_failing (checks_of len bytes) ≡ None
  pub plan_is : plan ≡ plan_in bytes
  pub groups_are : groups ≡ groups_in bytes
  pub last_is : last ≡ last_in bytes

pub marks_there : (told : Option (List ℕ)) (len place count : ℕ) (header : Header) (plan : Plan) (groups : List Bool) (last : Bool) → place ≡ 40 + 24 * header.ranges + header.listing_len → count ≡ group_count header.ranges
    → IsPart told 0 (40 + 24 * header.ranges + header.listing_len) (λ whole. Always whole → (first_failing (checks_of len whole) ≡ None) × ((plan ≡ plan_in whole) × IsHeader len header whole))
    → IsPart told place (place + count) (λ whole. Always whole → (first_failing [] ≡ None) × (groups ≡ map is_set (part whole place count)))
    → IsPart told (place + count) (place + count + 1) (λ whole. Always whole → (first_failing [] ≡ None) × (last ≡ is_set (slice_index whole (place + count))))
    → IsPart told 0 (place + count + 1) (IsRead len plan groups last)
marks_there told len place count header plan groups last place_is count_is planned marked ended =
    let At : ℕ → Type 0 = λ end. IsPart told 0 end (λ whole. Always whole → (first_failing (checks_of len whole) ≡ None) × ((plan ≡ plan_in whole) × IsHeader len header whole)) in
    part_more (λ whole two one. two one) (part_more (λ whole one two. is whole (one tt).0 (one tt).1.0 (one tt).1.1 (two tt).1) (subst At (sym place_is) planned) marked) ended
  where
    is : (whole : List ℕ) → first_failing (checks_of len whole) ≡ None → plan ≡ plan_in whole → IsHeader len header whole → groups ≡ map is_set (part whole place count)
        → (Always whole → (first_failing [] ≡ None) × (last ≡ is_set (slice_index whole (place + count)))) → IsRead len plan groups last whole
    is whole passes plan_is header_is marks last_one =
        let at : place ≡ listing_end whole = place_is ∙ ap (λ (h : Header). 40 + 24 * h.ranges + h.listing_len) header_is.is in
        let n : count ≡ group_count (range_count_in whole) = count_is ∙ ap (λ (h : Header). group_count h.ranges) header_is.is in
        record {
          gate = header_is.gate;
          passes = passes;
          plan_is = plan_is;
          groups_are = marks ∙ ap (λ count. map is_set (part whole place count)) n ∙ ap (λ at. map is_set (part whole at (group_count (range_count_in whole)))) at;
          last_is = (last_one tt).1 ∙ ap (λ end. is_set (slice_index whole end)) (ap (λ at. at + count) at ∙ ap (λ count. listing_end whole + count) n);
        }

pub state_says : (bytes : List ℕ) (plan : Plan) (groups : List Bool) (last : Bool) → AreBytes bytes → 41 ≤ length bytes → IsRead (length bytes) plan groups last bytes
    → Says bytes (Ok (record { plan = plan; groups = groups; last = last }))
state_says bytes plan groups last fit long read =
    let open_here : IsOpen bytes = (long, read.gate) in
    let is = journal_written bytes fit open_here read.passes in
    let P : Plan → Type 0 = λ plan. IsPlan plan × IsJournal bytes plan groups last in
    let Q : List Bool → Type 0 = λ groups. IsJournal bytes (plan_in bytes) groups last in
    let R : Bool → Type 0 = λ last. IsJournal bytes (plan_in bytes) (groups_in bytes) last in
    let both = subst P (sym read.plan_is) (is.is_plan, subst Q (sym read.groups_are) (subst R (sym read.last_is) is.is_journal)) in
    (open_here, both.0, both.1)

pub state_is : {told : Option (List ℕ)} (len : ℕ) (plan : Plan) (groups : List Bool) (last : Bool) → 41 ≤ len → IsPart told 0 len (IsRead len plan groups last)
    → IsState len (record { plan = plan; groups = groups; last = last })
state_is len plan groups last long read =
    let At : ℕ → Type 0 = λ len. IsRead len plan groups last read.bytes in
    let size : length read.bytes ≡ len = omega (arith, read.reaches) in
    let here : IsRead (length read.bytes) plan groups last read.bytes = subst At (sym size) (own_says read) in
    let is = journal_written read.bytes read.are_bytes (omega (arith, long, size), here.gate) here.passes in
    let marks : length groups ≡ groups_of (plan_in read.bytes) = ap length (here.groups_are ∙ sym is.is_journal.group_marks) ∙ length-map is.is_journal.mark_bytes is_set ∙ is.is_journal.each_group in
    record {
      is_plan = subst IsPlan (sym here.plan_is) is.is_plan;
      each_group = marks ∙ ap groups_of (sym here.plan_is);
      long = sym size ∙ is.long ∙ ap journal_len (sym here.plan_is);
    }

-- what a state says of the journal that is told
pub told_state : (told : Option (List ℕ)) (len : ℕ) (plan : Plan) (groups : List Bool) (last : Bool) → 41 ≤ len → IfSome told (λ journal. length journal ≡ len) → IsPart told 0 len (IsRead len plan groups last)
    → IfSome told (λ journal. Says journal (Ok (record { plan = plan; groups = groups; last = last })))
told_state told len plan groups last long sized read = by_told told (all_there told len read.bytes sized size read.are_told)
  where
    size : length read.bytes ≡ len
    size = omega (arith, read.reaches)

    by_told : (told : Option (List ℕ)) → IfSome told (λ journal. read.bytes ≡ journal) → IfSome told (λ journal. Says journal (Ok (record { plan = plan; groups = groups; last = last })))
    by_told None is = tt
    by_told (Some journal) is =
        let P : List ℕ → Type 0 = λ journal. Says journal (Ok (record { plan = plan; groups = groups; last = last })) in
        let At : ℕ → Type 0 = λ len. IsRead len plan groups last read.bytes in
        subst P is (state_says read.bytes plan groups last read.are_bytes (omega (arith, long, size)) (subst At (sym size) (own_says read)))

-- what a fault says of it
pub told_fault : (told : Option (List ℕ)) (len : ℕ) (header : Header) (fault : JournalFault) → 41 ≤ len → IfSome told (λ journal. length journal ≡ len) → IsPart told 0 40 (IsHeader len header)
    → IfSome told (λ journal. Always journal → FailsWith (checks_of len journal) fault) → IfSome told (λ journal. Says journal (Err fault))
told_fault told len header fault long sized read fails = by_told told sized (told_says read) fails
  where
    by_told : (told : Option (List ℕ)) → IfSome told (λ journal. length journal ≡ len) → IfSome told (IsHeader len header) → IfSome told (λ journal. Always journal → FailsWith (checks_of len journal) fault)
        → IfSome told (λ journal. Says journal (Err fault))
    by_told None sized is fails = tt
    by_told (Some journal) sized is fails =
        let At : ℕ → Type 0 = λ len. FailsWith (checks_of len journal) fault in
        fault_says journal fault (omega (arith, long, sized), is.gate) (subst At (sym sized) (fails tt))

-- where there is no check, a fault says nothing of it
pub no_check_told : (told : Option (List ℕ)) (fault : JournalFault) → IfSome told (λ journal. Always journal → FailsWith [] fault) → IfSome told (λ journal. Says journal (Err fault))
no_check_told told fault fails = told_weaker told (λ journal. Always journal → FailsWith [] fault) (λ journal. Says journal (Err fault)) (λ journal fails. by_fault journal fault (fails tt)) fails
  where
    by_fault : (journal : List ℕ) (fault : JournalFault) → FailsWith [] fault → Says journal (Err fault)
    by_fault journal NotOpen fails = absurd fails
    by_fault journal (Bad at) fails = absurd (none_here at (sym nothing_fails ∙ fails))
      where
        none_here : (at : ℕ) → None ≡ Some at → ⊥
        none_here at same = cc
    by_fault journal (OtherLength kept found) fails = fails
    by_fault journal Device fails = tt
    by_fault journal NoMemory fails = tt
