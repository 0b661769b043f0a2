-- A whole journal: what is read where the journal of a plan was written, and what was written where a journal passes its checks.
use Rattle.std.specs.Prelude.{◌≡◌, ℕ, ◌+◌, ◌-◌, ◌*◌, ◌^◌, ◌<◌, ◌≤◌, ◌==◌, ◌&&◌, nat_le, true, None, codes, List, [], ◌∷◌, ◌++◌, length, drop, slice_index, sum_by, refl}
use Rattle.std.specs.List.{flat_map}
use Rattle.std.specs.Str.{bytes_eq}
use Rattle.std.proofs.Common.{ap, ◌∙◌, arith}
use Rattle.std.proofs.lemmas.Bool.{and_from, and_parts, eq-eqb, eqb-true, le-leb, leb-true}
use Rattle.std.proofs.lemmas.List.{append_assoc, length-append}
use Rattle.std.proofs.lemmas.List.Sums.{sum_by-cons}
use Rattle.std.proofs.lemmas.Slice.Eq.{bytes_eq-Decides}
use Rattle.bytes_defs.specs.Bytes.{part}
use Rattle.journal_defs.specs.Form.{little, group_count, range_bytes, line_bytes, listing_len, groups_of, body_len, journal_len, header_rest, journal_bytes}
use Rattle.journal_defs.specs.Reading.{image_len_in, range_count_in, line_count_in, body_len_in, listing_len_in}
use Rattle.journal_defs.specs.Checks.{first_failing, header_checks}
use Rattle.journal_defs.proofs.Fields.{AreBytes, byte_written, number_reads, number_written, part_is, part_written}
use Rattle.journal_defs.proofs.Passing.{nothing_fails, pass_with, passes}
use Rattle.range_defs.specs.declared.Claim.{Claim}
use Rattle.range_defs.specs.declared.TheConstants.{LONGEST_IMAGE}
use Rattle.rx_ranges.specs.PlanChecks.{IsPlan, listed_len}
use Rattle.rx_ranges.specs.declared.plan.Listed.{Listed}
use Rattle.rx_ranges.specs.declared.plan.Plan.{Plan}
use Rattle.rx_ranges.specs.declared.plan.TheConstants.{MAX_RANGES, MAX_LISTED, MAX_LISTING_BYTES}

-- ---- the header

-- the fields of a plan's header are read, and this stands behind it
pub record IsHeaderOf (bytes : List ℕ) (plan : Plan) (rest : List ℕ) : Type 0 where
  pub text : part bytes 1 7 ≡ codes "DFRJ v1"
  pub image_len : image_len_in bytes ≡ plan.image_len
  pub ranges : range_count_in bytes ≡ length plan.ranges
  pub lines : line_count_in bytes ≡ length plan.listing
  pub body : body_len_in bytes ≡ body_len plan
  pub listing : listing_len_in bytes ≡ listing_len plan
  pub behind : drop 40 bytes ≡ rest

-- the numbers of a plan fit their fields
pub record FitsHeader (plan : Plan) : Type 0 where
  pub image_len : plan.image_len < 256 ^ 8
  pub ranges : length plan.ranges < 256 ^ 4
  pub lines : length plan.listing < 256 ^ 4
  pub body : body_len plan < 256 ^ 8
  pub listing : listing_len plan < 256 ^ 8

pub plan_fits : (plan : Plan) → IsPlan plan → FitsHeader plan
plan_fits plan is = record {
  image_len = omega (arith, is.in_reach);
  ranges = omega (arith, is.few_ranges);
  lines = omega (arith, is.few_lines);
  body = omega (arith, is.few_ranges, is.short_listing);
  listing = omega (arith, is.short_listing);
}

pub header_reads : (gate : ℕ) (plan : Plan) (rest : List ℕ) → FitsHeader plan → IsHeaderOf (gate ∷ (header_rest plan ++ rest)) plan rest
unfolding header_rest little
header_reads gate plan rest fits =
    let bytes = gate ∷ (header_rest plan ++ rest) in
    let listing = little 8 (listing_len plan) ++ rest in
    let body = little 8 (body_len plan) ++ listing in
    let lines = little 4 (length plan.listing) ++ body in
    let ranges = little 4 (length plan.ranges) ++ lines in
    let image = little 8 plan.image_len ++ ranges in
    let at_text : drop 1 bytes ≡ codes "DFRJ v1" ++ image = refl in
    let at_image : drop 8 bytes ≡ image = refl in
    let at_ranges : drop 16 bytes ≡ ranges = refl in
    let at_lines : drop 20 bytes ≡ lines = refl in
    let at_body : drop 24 bytes ≡ body = refl in
    let at_listing : drop 32 bytes ≡ listing = refl in record {
      text = part_is bytes (codes "DFRJ v1") image 1 at_text;
      image_len = number_reads bytes ranges 8 8 plan.image_len fits.image_len at_image;
      ranges = number_reads bytes lines 16 4 (length plan.ranges) fits.ranges at_ranges;
      lines = number_reads bytes body 20 4 (length plan.listing) fits.lines at_lines;
      body = number_reads bytes listing 24 8 (body_len plan) fits.body at_body;
      listing = number_reads bytes rest 32 8 (listing_len plan) fits.listing at_listing;
      behind = refl;
    }

-- the header that is read was written
pub header_written : (bytes : List ℕ) (plan : Plan) → AreBytes bytes → 41 ≤ length bytes → IsHeaderOf bytes plan (drop 40 bytes)
    → bytes ≡ slice_index bytes 0 ∷ (header_rest plan ++ drop 40 bytes)
unfolding header_rest little
header_written bytes plan fit long is =
    let at_gate = byte_written bytes 0 (omega arith) in
    let at_text : drop 1 bytes ≡ codes "DFRJ v1" ++ drop 8 bytes = part_written bytes 1 7 ∙ ap (λ text. text ++ drop 8 bytes) is.text in
    let at_image : drop 8 bytes ≡ little 8 plan.image_len ++ drop 16 bytes = number_written bytes 8 8 fit (omega arith) ∙ ap (λ number. little 8 number ++ drop 16 bytes) is.image_len in
    let at_ranges : drop 16 bytes ≡ little 4 (length plan.ranges) ++ drop 20 bytes = number_written bytes 16 4 fit (omega arith) ∙ ap (λ number. little 4 number ++ drop 20 bytes) is.ranges in
    let at_lines : drop 20 bytes ≡ little 4 (length plan.listing) ++ drop 24 bytes = number_written bytes 20 4 fit (omega arith) ∙ ap (λ number. little 4 number ++ drop 24 bytes) is.lines in
    let at_body : drop 24 bytes ≡ little 8 (body_len plan) ++ drop 32 bytes = number_written bytes 24 8 fit (omega arith) ∙ ap (λ number. little 8 number ++ drop 32 bytes) is.body in
    let at_listing : drop 32 bytes ≡ little 8 (listing_len plan) ++ drop 40 bytes = number_written bytes 32 8 fit (omega arith) ∙ ap (λ number. little 8 number ++ drop 40 bytes) is.listing in
    at_gate
    ∙ ap (λ rest. slice_index bytes 0 ∷ rest) (at_text
    ∙ ap (λ rest. codes "DFRJ v1" ++ rest) (at_image
    ∙ ap (λ rest. little 8 plan.image_len ++ rest) (at_ranges
    ∙ ap (λ rest. little 4 (length plan.ranges) ++ rest) (at_lines
    ∙ ap (λ rest. little 4 (length plan.listing) ++ rest) (at_body
    ∙ ap (λ rest. little 8 (body_len plan) ++ rest) at_listing)))))

-- the header of a plan passes its checks
pub header_passes : (bytes : List ℕ) (plan : Plan) (rest : List ℕ) → IsPlan plan → IsHeaderOf bytes plan rest → length bytes ≡ journal_len plan → first_failing (header_checks bytes (length bytes)) ≡ None
unfolding header_checks
header_passes bytes plan rest plan_is is long =
    let total : 24 * range_count_in bytes + listing_len_in bytes + (group_count (range_count_in bytes) + 1) ≡ body_len_in bytes = omega (arith, is.ranges, is.listing, is.body) in
    let listing : (nat_le (listing_len_in bytes) MAX_LISTING_BYTES && (24 * range_count_in bytes + listing_len_in bytes + (group_count (range_count_in bytes) + 1) == body_len_in bytes)) ≡ true =
    and_from (nat_le (listing_len_in bytes) MAX_LISTING_BYTES) (24 * range_count_in bytes + listing_len_in bytes + (group_count (range_count_in bytes) + 1) == body_len_in bytes)
    (le-leb (listing_len_in bytes) MAX_LISTING_BYTES (omega (arith, plan_is.short_listing, is.listing)))
    (eq-eqb (24 * range_count_in bytes + listing_len_in bytes + (group_count (range_count_in bytes) + 1)) (body_len_in bytes) total) in
    pass_with 1 _ _ ((bytes_eq-Decides (part bytes 1 7) (codes "DFRJ v1")).1 is.text)
    ∙ pass_with 8 _ _ (le-leb (image_len_in bytes) LONGEST_IMAGE (omega (arith, plan_is.in_reach, is.image_len)))
    ∙ pass_with 16 _ _ (le-leb (range_count_in bytes) MAX_RANGES (omega (arith, plan_is.few_ranges, is.ranges)))
    ∙ pass_with 20 _ _ (le-leb (line_count_in bytes) MAX_LISTED (omega (arith, plan_is.few_lines, is.lines)))
    ∙ pass_with 24 _ _ (eq-eqb (body_len_in bytes) (length bytes - 40) (omega (arith, is.body, long)))
    ∙ pass_with 32 _ [] listing
    ∙ nothing_fails

-- what the checks of a header say
pub record HeaderHolds (bytes : List ℕ) (len : ℕ) : Type 0 where
  pub text : part bytes 1 7 ≡ codes "DFRJ v1"
  pub image_len : image_len_in bytes ≤ LONGEST_IMAGE
  pub ranges : range_count_in bytes ≤ MAX_RANGES
  pub lines : line_count_in bytes ≤ MAX_LISTED
  pub body : body_len_in bytes ≡ len - 40
  pub listing : listing_len_in bytes ≤ MAX_LISTING_BYTES
  pub total : 24 * range_count_in bytes + listing_len_in bytes + (group_count (range_count_in bytes) + 1) ≡ body_len_in bytes

pub header_holds : (bytes : List ℕ) (len : ℕ) → first_failing (header_checks bytes len) ≡ None → HeaderHolds bytes len
unfolding header_checks
header_holds bytes len none =
    let total = 24 * range_count_in bytes + listing_len_in bytes + (group_count (range_count_in bytes) + 1) == body_len_in bytes in
    let one = passes 1 (bytes_eq (part bytes 1 7) (codes "DFRJ v1")) _ none in
    let two = passes 8 (nat_le (image_len_in bytes) LONGEST_IMAGE) _ one.1 in
    let three = passes 16 (nat_le (range_count_in bytes) MAX_RANGES) _ two.1 in
    let four = passes 20 (nat_le (line_count_in bytes) MAX_LISTED) _ three.1 in
    let five = passes 24 (body_len_in bytes == len - 40) _ four.1 in
    let six = passes 32 (nat_le (listing_len_in bytes) MAX_LISTING_BYTES && total) [] five.1 in
    let listing = and_parts (nat_le (listing_len_in bytes) MAX_LISTING_BYTES) total six.0 in record {
      text = (bytes_eq-Decides (part bytes 1 7) (codes "DFRJ v1")).0 one.0;
      image_len = leb-true (image_len_in bytes) LONGEST_IMAGE two.0;
      ranges = leb-true (range_count_in bytes) MAX_RANGES three.0;
      lines = leb-true (line_count_in bytes) MAX_LISTED four.0;
      body = eqb-true (body_len_in bytes) (len - 40) five.0;
      listing = leb-true (listing_len_in bytes) MAX_LISTING_BYTES listing.0;
      total = eqb-true (24 * range_count_in bytes + listing_len_in bytes + (group_count (range_count_in bytes) + 1)) (body_len_in bytes) listing.1;
    }

-- ---- the whole

-- the same journal, part behind part
pub in_parts : (gate last : ℕ) (plan : Plan) (marks : List ℕ)
    → journal_bytes gate plan marks last ≡ gate ∷ (header_rest plan ++ (flat_map range_bytes plan.ranges ++ (flat_map line_bytes plan.listing ++ (marks ++ last ∷ []))))
unfolding journal_bytes
in_parts gate last plan marks = simp append_assoc

pub length_ranges : (claims : List Claim) → length (flat_map range_bytes claims) ≡ 24 * length claims
unfolding range_bytes little
length_ranges [] = refl
length_ranges (claim ∷ claims) =
    let rest = length_ranges claims in
    omega (arith, rest)

pub length_lines : (lines : List Listed) → length (flat_map line_bytes lines) ≡ sum_by listed_len lines
unfolding line_bytes little
length_lines [] = refl
length_lines (line ∷ lines) =
    let rest = length_lines lines in
    let one = sum_by-cons listed_len line lines in
    let both = length-append line.path (flat_map line_bytes lines) in
    omega (arith, rest, one, both)

pub length_header_rest : (plan : Plan) → length (header_rest plan) ≡ 39
unfolding header_rest little
length_header_rest plan = refl

pub length_journal : (gate last : ℕ) (plan : Plan) (marks : List ℕ) → length marks ≡ groups_of plan → length (journal_bytes gate plan marks last) ≡ journal_len plan
length_journal gate last plan marks each =
    let ranges = length_ranges plan.ranges in
    let lines = length_lines plan.listing in
    let header = length_header_rest plan in
    ap length (in_parts gate last plan marks) ∙ simp length-append (omega (arith, ranges, lines, header, each))
