-- Pieces of a journal that are being filled.
use Rattle.std.specs.Prelude.{◌≡◌, codes, ℕ, ◌+◌, ◌-◌, ◌*◌, ◌/◌, ◌<◌, ◌≤◌, min, max, List, [], ◌∷◌, ◌++◌, length, take, drop, replicate, slice_index, get_or, sum_by, refl}
use Rattle.std.specs.List.{flat_map}
use Rattle.bytes_defs.specs.Bytes.{part}
use Rattle.std.proofs.Common.{ap, sym, subst, ◌∙◌, arith, inl, inr}
use Rattle.std.proofs.lemmas.Bool.{cases_lt}
use Rattle.std.proofs.lemmas.List.{append_assoc, append-nil, ext_get_or, flat_map_more, take_more, replicate_more, get_or-drop, get_or-take, get_or_append_left, get_or-replicate, length-append, length-drop, length-replicate, length-take, length-take-le, nil_from_length, take-append-drop, take_all}
use Rattle.std.proofs.lemmas.List.Sums.{sum_by-append}
use Rattle.std.proofs.lemmas.List.Concat.{flat_map-append}
use Rattle.journal_defs.proofs.Journals.{in_parts, length_header_rest, length_journal, length_lines, length_ranges}
use Rattle.rx_ranges.specs.PlanChecks.{listed_len}
use Rattle.journal_defs.proofs.Fields.{behind, length_little}
use Rattle.journal_defs.specs.Form.{little, kind_byte, range_bytes, line_bytes, header_rest, body_len, listing_len, first_journal, groups_of, journal_len}
use Rattle.range_defs.specs.declared.Claim.{Claim}
use Rattle.rx_ranges.specs.declared.plan.Listed.{Listed}
use Rattle.rx_ranges.specs.declared.plan.Plan.{Plan}
use Rattle.journal_format.specs.Filled.{IsFilledTo, FillsNext}

-- a byte that stands at a place of a journal, k bytes on
byte_stands : (journal bytes rest : List ℕ) (place k : ℕ) → drop place journal ≡ bytes ++ rest → k < length bytes → slice_index journal (place + k) ≡ slice_index bytes k
byte_stands journal bytes rest place k stands inside = sym (get_or-drop place journal k 0) ∙ ap (λ list. slice_index list k) stands ∙ get_or_append_left bytes rest 0 k inside

-- what was copied where a piece and the bytes at a place meet
pub put_fills : (before now bytes from : List ℕ) (at place begin end : ℕ) → begin ≡ max at place → end ≡ min (at + length before) (place + length bytes) → begin < end → length now ≡ length before
    → from ≡ take (end - place - (begin - place)) (drop (begin - place) bytes)
    → ((k : ℕ) → k < length from → slice_index now (begin - at + k) ≡ slice_index from k) → ((k : ℕ) → k < begin - at → slice_index now k ≡ slice_index before k) → FillsNext at place bytes before now
unfolding FillsNext
put_fills before now bytes from at place begin end begins ends more same is inside front = λ journal rest stands filled k within passed.
    elim (cases_lt k (begin - at)) [
      | inl before_it ↦ front k before_it ∙ filled k (omega (arith, same, within)) (omega (arith, begins, before_it))
      | inr behind_it ↦
          let j = at + k - begin in
          let long : length from ≡ end - begin = ap length is ∙ length-take (end - place - (begin - place)) (drop (begin - place) bytes) ∙ omega (arith, length-drop (begin - place) bytes, ends, begins, more) in
          let in_it : j < length from = omega (arith, long, begins, ends, more, same, within, passed, behind_it) in
          let there : k ≡ begin - at + j = omega (arith, begins, behind_it) in
          let source : slice_index from j ≡ slice_index bytes (begin - place + j) =
          ap (λ list. slice_index list j) is ∙ get_or-take (end - place - (begin - place)) (drop (begin - place) bytes) j 0 (omega (arith, in_it, long, begins)) ∙ get_or-drop (begin - place) bytes j 0 in
          let target : at + k ≡ place + (begin - place + j) = omega (arith, begins, behind_it) in
          let stand = byte_stands journal bytes rest place (begin - place + j) stands (omega (arith, in_it, long, begins, ends, more)) in
          ap (slice_index now) there ∙ inside j in_it ∙ source ∙ sym stand ∙ ap (slice_index journal) (sym target)
    ]

-- a piece that meets no byte of them stays as it is
pub put_nothing : (piece bytes : List ℕ) (at place begin end : ℕ) → begin ≡ max at place → end ≡ min (at + length piece) (place + length bytes) → end ≤ begin → FillsNext at place bytes piece piece
unfolding FillsNext
put_nothing piece bytes at place begin end begins ends none = λ journal rest stands filled k within passed. filled k within (omega (arith, begins, ends, none, within, passed))

-- bytes that are filled one behind the other
pub fills_both : (one two before middle now : List ℕ) (at place next : ℕ) → next ≡ place + length one → FillsNext at place one before middle → FillsNext at next two middle now → FillsNext at place (one ++ two) before now
unfolding FillsNext
fills_both one two before middle now at place next behind_it first second = λ journal rest stands filled.
    let apart : drop place journal ≡ one ++ (two ++ rest) = stands ∙ append_assoc one two rest in
    let P : ℕ → Type 0 = λ place. FillsNext at place two middle now in
    let all : next + length two ≡ place + length (one ++ two) = omega (arith, behind_it, length-append one two) in
    let Q : ℕ → Type 0 = λ place. IsFilledTo journal at place now in
    let R : ℕ → Type 0 = λ place. IsFilledTo journal at place middle in
    subst Q all (second journal rest (ap (λ place. drop place journal) behind_it ∙ behind journal one (two ++ rest) place apart) (subst R (sym behind_it) (first journal (two ++ rest) apart filled)))

pub fills_same : (one two before now : List ℕ) (at place : ℕ) → one ≡ two → FillsNext at place one before now → FillsNext at place two before now
fills_same one two before now at place same fills =
    let P : List ℕ → Type 0 = λ bytes. FillsNext at place bytes before now in
    subst P same fills

-- bytes in front of the piece are none of it
pub fills_in_front : (piece bytes : List ℕ) (at place : ℕ) → place + length bytes ≤ at → FillsNext at place bytes piece piece
unfolding FillsNext
fills_in_front piece bytes at place front = λ journal rest stands filled k within passed. absurd (omega (arith, front, passed))

fills_nothing : (piece : List ℕ) (at place : ℕ) → FillsNext at place [] piece piece
unfolding FillsNext
fills_nothing piece at place = λ journal rest stands filled k within passed. filled k within (omega (arith, passed))

pub fills_none : (piece bytes : List ℕ) (at place : ℕ) → bytes ≡ [] → FillsNext at place bytes piece piece
fills_none piece bytes at place none = fills_same [] bytes piece piece at place (sym none) (fills_nothing piece at place)

-- a piece that ends in front of other bytes has none of them
pub fills_behind : (bytes more before now : List ℕ) (at place : ℕ) → at + length now ≤ place + length bytes → FillsNext at place bytes before now → FillsNext at place (bytes ++ more) before now
unfolding FillsNext
fills_behind bytes more before now at place ends fills = λ journal rest stands filled k within passed.
    fills journal (more ++ rest) (stands ∙ append_assoc bytes more rest) filled k within (omega (arith, ends, within))

-- one item more, of those whose bytes stand one behind the other
pub fills_more : {X : Type 0} (f : X → List ℕ) (items : List X) (i : ℕ) (item : X) (before middle now : List ℕ) (at place next : ℕ) → i < length items → item ≡ get_or items i item
    → next ≡ place + length (flat_map f (take i items)) → FillsNext at place (flat_map f (take i items)) before middle → FillsNext at next (f item) middle now → FillsNext at place (flat_map f (take (i + 1) items)) before now
fills_more f items i item before middle now at place next inside is behind_it first second =
    let more : take (i + 1) items ≡ take i items ++ item ∷ [] = take_more items i item inside ∙ ap (λ item. take i items ++ item ∷ []) (sym is) in
    fills_same (flat_map f (take i items) ++ f item) (flat_map f (take (i + 1) items)) before now at place (flat_map_more f [] (take i items) item ∙ ap (flat_map f) (sym more))
    (fills_both (flat_map f (take i items)) (f item) before middle now at place next behind_it first second)

-- a piece that is filled as far as the journal ends is that piece of it
pub filled_whole : (journal piece before : List ℕ) (at : ℕ) → at + length piece ≤ length journal → FillsNext at 0 journal before piece → piece ≡ part journal at (length piece)
unfolding FillsNext part
filled_whole journal piece before at inside fills =
    let long : length (take (length piece) (drop at journal)) ≡ length piece = length-take (length piece) (drop at journal) ∙ omega (arith, length-drop at journal, inside) in
    let filled = fills journal [] (sym (append-nil journal)) (λ k within passed. absurd (omega (arith, passed))) in
    ext_get_or 0 piece (take (length piece) (drop at journal)) (sym long) (λ k within.
    filled k within (omega (arith, within, inside)) ∙ sym (get_or-take (length piece) (drop at journal) k 0 within ∙ get_or-drop at journal k 0))

-- zeros from a place on
pub zeros_fill : (before now : List ℕ) (at place from n : ℕ) → from ≡ min (max place at - at) (length before) → length now ≡ length before
    → ((k : ℕ) → from ≤ k → k < length before → slice_index now k ≡ 0) → ((k : ℕ) → k < from → slice_index now k ≡ slice_index before k) → FillsNext at place (replicate n 0) before now
unfolding FillsNext
zeros_fill before now at place from n is same zeros front = λ journal rest stands filled k within passed.
    elim (cases_lt k from) [
      | inl in_front ↦ front k in_front ∙ filled k (omega (arith, same, within)) (omega (arith, is, in_front))
      | inr behind_it ↦
          let j = at + k - place in
          let there : at + k ≡ place + j = omega (arith, is, behind_it, same, within) in
          let count = length-replicate {A = ℕ} n 0 in
          let stand = byte_stands journal (replicate n 0) rest place j stands (omega (arith, there, passed)) in
          zeros k behind_it (omega (arith, same, within)) ∙ sym (ap (slice_index journal) there ∙ stand ∙ get_or-replicate n j 0 0 (omega (arith, there, passed, count)))
    ]

-- ---- a range, a line and the header, field by field

pub range_fills : (claim : Claim) (before one two three now : List ℕ) (at place : ℕ) → FillsNext at place (little 8 claim.range.at) before one → FillsNext at (place + 8) (little 8 claim.range.len) one two
    → FillsNext at (place + 16) (little 4 claim.rule) two three → FillsNext at (place + 20) (claim.fill ∷ 0 ∷ 0 ∷ 0 ∷ []) three now → FillsNext at place (range_bytes claim) before now
unfolding range_bytes
range_fills claim before one two three now at place begin len rule fill =
    let begin_long = length_little 8 claim.range.at in
    let len_long = length_little 8 claim.range.len in
    let rule_long = length_little 4 claim.rule in
    let both = fills_both (little 8 claim.range.at) (little 8 claim.range.len) before one two at place (place + 8) (omega (arith, begin_long)) begin len in
    let third = fills_both (little 8 claim.range.at ++ little 8 claim.range.len) (little 4 claim.rule) before two three at place (place + 16) (simp length-append (omega (arith, begin_long, len_long))) both rule in
    fills_both (little 8 claim.range.at ++ little 8 claim.range.len ++ little 4 claim.rule) (claim.fill ∷ 0 ∷ 0 ∷ 0 ∷ []) before three now at place (place + 20)
    (simp length-append (omega (arith, begin_long, len_long, rule_long))) third fill

pub line_fills : (line : Listed) (before one two three now : List ℕ) (at place : ℕ) → FillsNext at place (kind_byte line.kind ∷ []) before one → FillsNext at (place + 1) (little 4 line.rule) one two
    → FillsNext at (place + 5) (little 2 (length line.path)) two three → FillsNext at (place + 7) line.path three now → FillsNext at place (line_bytes line) before now
unfolding line_bytes
line_fills line before one two three now at place kind rule len path =
    let rule_long = length_little 4 line.rule in
    let len_long = length_little 2 (length line.path) in
    let both = fills_both (kind_byte line.kind ∷ []) (little 4 line.rule) before one two at place (place + 1) (omega arith) kind rule in
    let third = fills_both (kind_byte line.kind ∷ little 4 line.rule) (little 2 (length line.path)) before two three at place (place + 5) (omega (arith, rule_long)) both len in
    fills_both (kind_byte line.kind ∷ little 4 line.rule ++ little 2 (length line.path)) line.path before three now at place (place + 7) (simp length-append (omega (arith, rule_long, len_long))) third path

pub header_fills : (plan : Plan) (before one two three four five now : List ℕ) (at : ℕ) → FillsNext at 0 (0 ∷ codes "DFRJ v1") before one → FillsNext at 8 (little 8 plan.image_len) one two
    → FillsNext at 16 (little 4 (length plan.ranges)) two three → FillsNext at 20 (little 4 (length plan.listing)) three four → FillsNext at 24 (little 8 (body_len plan)) four five
    → FillsNext at 32 (little 8 (listing_len plan)) five now → FillsNext at 0 (0 ∷ header_rest plan) before now
unfolding header_rest little
header_fills plan before one two three four five now at text image ranges lines body listing =
    let head = 0 ∷ codes "DFRJ v1" in
    let second = fills_both head (little 8 plan.image_len) before one two at 0 8 refl text image in
    let third = fills_both (head ++ little 8 plan.image_len) (little 4 (length plan.ranges)) before two three at 0 16 refl second ranges in
    let fourth = fills_both (head ++ little 8 plan.image_len ++ little 4 (length plan.ranges)) (little 4 (length plan.listing)) before three four at 0 20 refl third lines in
    let fifth = fills_both (head ++ little 8 plan.image_len ++ little 4 (length plan.ranges) ++ little 4 (length plan.listing)) (little 8 (body_len plan)) before four five at 0 24 refl fourth body in
    fills_both (head ++ little 8 plan.image_len ++ little 4 (length plan.ranges) ++ little 4 (length plan.listing) ++ little 8 (body_len plan)) (little 8 (listing_len plan)) before five now at 0 32 refl fifth listing

-- ---- all ranges, and all lines

-- the first items fill as far as they all do where the piece ends in front of the others, or there are none
pub fills_all : {X : Type 0} (f : X → List ℕ) (items : List X) (i : ℕ) (before now : List ℕ) (at place : ℕ) → (i < length items → at + length now ≤ place + length (flat_map f (take i items)))
    → FillsNext at place (flat_map f (take i items)) before now → FillsNext at place (flat_map f items) before now
fills_all f items i before now at place ends fills = elim (cases_lt i (length items)) [
  | inl more ↦
      let whole : flat_map f (take i items) ++ flat_map f (drop i items) ≡ flat_map f items = sym (flat_map-append f (take i items) (drop i items)) ∙ ap (flat_map f) (take-append-drop i items) in
      fills_same _ _ before now at place whole (fills_behind (flat_map f (take i items)) (flat_map f (drop i items)) before now at place (ends more) fills)
  | inr all ↦ fills_same _ _ before now at place (ap (flat_map f) (take_all i items all)) fills
]

length_first_ranges : (claims : List Claim) (i : ℕ) → i ≤ length claims → length (flat_map range_bytes (take i claims)) ≡ 24 * i
length_first_ranges claims i inside = length_ranges (take i claims) ∙ ap (λ n. 24 * n) (length-take-le i claims inside)

-- the ranges in front of the first one that the piece has
pub ranges_begin : (claims : List Claim) (piece : List ℕ) (at first : ℕ) → first ≡ min ((max at 40 - 40) / 24) (length claims) → FillsNext at 40 (flat_map range_bytes (take first claims)) piece piece
ranges_begin claims piece at first is = elim (cases_lt at 64) [
  | inl low ↦
      let none : first ≡ 0 = omega (arith, is, low) in
      fills_none piece _ at 40 (ap (λ first. flat_map range_bytes (take first claims)) none)
  | inr high ↦
      let long = length_first_ranges claims first (omega (arith, is)) in
      fills_in_front piece (flat_map range_bytes (take first claims)) at 40 (omega (arith, long, is, high))
]

pub ranges_more : (claims : List Claim) (i : ℕ) (claim : Claim) (before middle now : List ℕ) (at : ℕ) → i < length claims → claim ≡ get_or claims i claim → FillsNext at 40 (flat_map range_bytes (take i claims)) before middle
    → FillsNext at (40 + 24 * i) (range_bytes claim) middle now → FillsNext at 40 (flat_map range_bytes (take (i + 1) claims)) before now
ranges_more claims i claim before middle now at inside is first second =
    let long = length_first_ranges claims i (omega (arith, inside)) in
    fills_more range_bytes claims i claim before middle now at 40 (40 + 24 * i) inside is (omega (arith, long)) first second

pub ranges_end : (claims : List Claim) (before now : List ℕ) (at end last i : ℕ) → end ≡ at + length before → length now ≡ length before → last ≡ min ((max end 40 - 40) / 24 + 1) (length claims) → last ≤ i
    → FillsNext at 40 (flat_map range_bytes (take i claims)) before now → FillsNext at 40 (flat_map range_bytes claims) before now
ranges_end claims before now at end last i ends same is passed fills =
    fills_all range_bytes claims i before now at 40 (λ more. let long = length_first_ranges claims i (omega (arith, more)) in omega (arith, long, ends, same, is, passed, more)) fills

pub lines_more : (lines : List Listed) (i : ℕ) (line : Listed) (before middle now : List ℕ) (at begin place : ℕ) → i < length lines → line ≡ get_or lines i line → place ≡ begin + sum_by listed_len (take i lines)
    → FillsNext at begin (flat_map line_bytes (take i lines)) before middle → FillsNext at place (line_bytes line) middle now → FillsNext at begin (flat_map line_bytes (take (i + 1) lines)) before now
lines_more lines i line before middle now at begin place inside is there first second =
    let long = length_lines (take i lines) in
    fills_more line_bytes lines i line before middle now at begin place inside is (omega (arith, there, long)) first second

-- the piece ends in front of the next line
pub lines_end : (lines : List Listed) (i : ℕ) (before now : List ℕ) (at begin place : ℕ) → place ≡ begin + sum_by listed_len (take i lines) → at + length now ≤ place
    → FillsNext at begin (flat_map line_bytes (take i lines)) before now → FillsNext at begin (flat_map line_bytes lines) before now
lines_end lines i before now at begin place there ends fills = fills_all line_bytes lines i before now at begin (λ more. let long = length_lines (take i lines) in omega (arith, long, there, ends)) fills

-- the lines in front of one that begins in front of the piece, or is the first one
pub lines_start : (lines : List Listed) (i : ℕ) (piece : List ℕ) (at begin place : ℕ) → place ≡ begin + sum_by listed_len (take i lines) → place ≤ max at begin
    → FillsNext at begin (flat_map line_bytes (take i lines)) piece piece
lines_start lines i piece at begin place there passed =
    let long = length_lines (take i lines) in
    elim (cases_lt at place) [
      | inl more ↦ fills_none piece _ at begin (nil_from_length (flat_map line_bytes (take i lines)) (omega (arith, long, there, passed, more)))
      | inr front ↦ fills_in_front piece (flat_map line_bytes (take i lines)) at begin (omega (arith, long, there, front))
    ]

-- the place behind one line more
pub place_more : (lines : List Listed) (i : ℕ) (line : Listed) (path : List ℕ) (begin place : ℕ) → i < length lines → line ≡ get_or lines i line → place ≡ begin + sum_by listed_len (take i lines) → path ≡ line.path
    → place + (7 + length path) ≡ begin + sum_by listed_len (take (i + 1) lines)
place_more lines i line path begin place inside is there path_is =
    let more : take (i + 1) lines ≡ take i lines ++ line ∷ [] = take_more lines i line inside ∙ ap (λ line. take i lines ++ line ∷ []) (sym is) in
    let sum : sum_by listed_len (take (i + 1) lines) ≡ sum_by listed_len (take i lines) + (7 + length line.path) =
    ap (sum_by listed_len) more ∙ sum_by-append listed_len (take i lines) (line ∷ []) ∙ ap (λ last. sum_by listed_len (take i lines) + last) (omega arith) in
    let long : length path ≡ length line.path = ap length path_is in
    omega (arith, sum, there, long)

-- one line more, and the place behind it
pub lines_step : (lines : List Listed) (i : ℕ) (line : Listed) (before middle now : List ℕ) (at begin place len : ℕ) → FillsNext at place (line_bytes line) middle now → i < length lines → line ≡ get_or lines i line
    → place ≡ begin + sum_by listed_len (take i lines) → len ≡ listed_len line → FillsNext at begin (flat_map line_bytes (take i lines)) before middle
    → FillsNext at begin (flat_map line_bytes (take (i + 1) lines)) before now × (place + len ≡ begin + sum_by listed_len (take (i + 1) lines))
lines_step lines i line before middle now at begin place len second inside is there len_is first =
    (lines_more lines i line before middle now at begin place inside is there first second, ap (λ n. place + n) len_is ∙ place_more lines i line line.path begin place inside is there refl)

-- ---- the whole

pub piece_is : (plan : Plan) (before header ranges lines now : List ℕ) (at listing end : ℕ) → listing ≡ 40 + 24 * length plan.ranges → end ≡ listing + sum_by listed_len plan.listing
    → FillsNext at 0 (0 ∷ header_rest plan) before header → FillsNext at 40 (flat_map range_bytes plan.ranges) header ranges → FillsNext at listing (flat_map line_bytes plan.listing) ranges lines
    → ((n : ℕ) → FillsNext at end (replicate n 0) lines now) → at + length now ≤ journal_len plan → now ≡ part (first_journal plan) at (length now)
piece_is plan before header ranges lines now at listing end begins ends head claims listed zeros inside =
    let marks : List ℕ = replicate (groups_of plan) 0 in
    let range_part : List ℕ = flat_map range_bytes plan.ranges in
    let line_part : List ℕ = flat_map line_bytes plan.listing in
    let tail : List ℕ = replicate (groups_of plan + 1) 0 in
    let header_long = length_header_rest plan in
    let ranges_long = length_ranges plan.ranges in
    let lines_long = length_lines plan.listing in
    let last = fills_both line_part tail ranges lines now at listing end (omega (arith, ends, lines_long)) listed (zeros (groups_of plan + 1)) in
    let behind_header = fills_both range_part (line_part ++ tail) header ranges now at 40 listing (omega (arith, begins, ranges_long)) claims last in
    let whole = fills_both (0 ∷ header_rest plan) (range_part ++ (line_part ++ tail)) before header now at 0 40 (omega (arith, header_long)) head behind_header in
    let form : (0 ∷ header_rest plan) ++ (range_part ++ (line_part ++ tail)) ≡ first_journal plan =
    ap (λ (tail : List ℕ). 0 ∷ (header_rest plan ++ (range_part ++ (line_part ++ tail)))) (sym (replicate_more {X = ℕ} (groups_of plan) 0)) ∙ sym (in_parts 0 0 plan marks) in
    let long : length (first_journal plan) ≡ journal_len plan = length_journal 0 0 plan marks (length-replicate (groups_of plan) 0) in
    filled_whole (first_journal plan) now before at (omega (arith, inside, long)) (fills_same ((0 ∷ header_rest plan) ++ (range_part ++ (line_part ++ tail))) (first_journal plan) before now at 0 form whole)
