-- What stands at a place of a journal.
use Rattle.std.specs.Prelude.{ℕ, zero, suc, ◌+◌, ◌*◌, ◌==◌, if◌then◌else◌, slice_index, List, [], ◌∷◌}
use Rattle.bytes_defs.specs.Bytes.{part}
use Rattle.bytes_defs.specs.Numbers.{little_at}
use Rattle.journal_defs.specs.declared.TheConstants.{HEADER_LEN, RANGE_LEN}
use Rattle.range_defs.specs.declared.Claim.{Claim}
use Rattle.rx_ranges.specs.declared.plan.ListKind.{ListKind}
use Rattle.rx_ranges.specs.declared.plan.ListKind.TheVariants.{File, Alias}
use Rattle.rx_ranges.specs.declared.plan.Listed.{Listed}
use Rattle.rx_ranges.specs.declared.plan.Plan.{Plan}

-- the fields of the header: the image's length, how many ranges and lines there are, the bytes of the body, and those of
-- the listing
abbrev pub image_len_in : List ℕ → ℕ
image_len_in bytes = little_at 8 bytes 8

abbrev pub range_count_in : List ℕ → ℕ
range_count_in bytes = little_at 4 bytes 16

abbrev pub line_count_in : List ℕ → ℕ
line_count_in bytes = little_at 4 bytes 20

abbrev pub body_len_in : List ℕ → ℕ
body_len_in bytes = little_at 8 bytes 24

abbrev pub listing_len_in : List ℕ → ℕ
listing_len_in bytes = little_at 8 bytes 32

-- where the listing begins and ends
abbrev pub listing_place : List ℕ → ℕ
listing_place bytes = HEADER_LEN + RANGE_LEN * range_count_in bytes

abbrev pub listing_end : List ℕ → ℕ
listing_end bytes = listing_place bytes + listing_len_in bytes

-- the range at a place
abbrev pub claim_in : List ℕ → ℕ → Claim
claim_in bytes at = record {
  range = record { at = little_at 8 bytes at; len = little_at 8 bytes (at + 8) };
  rule = little_at 4 bytes (at + 16);
  fill = slice_index bytes (at + 20);
}

-- so many ranges, one behind the other, from a place on
abbrev pub claims_in : List ℕ → ℕ → ℕ → List Claim
claims_in bytes at zero = []
claims_in bytes at (suc count) = claim_in bytes at ∷ claims_in bytes (at + RANGE_LEN) count

-- the line at a place: the length of its path, its bytes, and what it says
abbrev pub path_len_in : List ℕ → ℕ → ℕ
path_len_in bytes at = little_at 2 bytes (at + 5)

abbrev pub path_in : List ℕ → ℕ → List ℕ
path_in bytes at = part bytes (at + 7) (path_len_in bytes at)

abbrev pub kind_of : ℕ → ListKind
kind_of byte = if byte == 1 then File else Alias

abbrev pub line_in : List ℕ → ℕ → Listed
line_in bytes at = record { kind = kind_of (slice_index bytes at); rule = little_at 4 bytes (at + 1); path = path_in bytes at }

-- the place behind a line
abbrev pub line_end : List ℕ → ℕ → ℕ
line_end bytes at = at + (7 + path_len_in bytes at)

-- so many lines, one behind the other, from a place on
abbrev pub lines_in : List ℕ → ℕ → ℕ → List Listed
lines_in bytes at zero = []
lines_in bytes at (suc count) = line_in bytes at ∷ lines_in bytes (line_end bytes at) count

-- the plan that a journal holds
abbrev pub plan_in : List ℕ → Plan
plan_in bytes = record {
  image_len = image_len_in bytes;
  ranges = claims_in bytes HEADER_LEN (range_count_in bytes);
  listing = lines_in bytes (listing_place bytes) (line_count_in bytes);
}
