-- The numbers of a header, and what stands of a line in front of its path.
use Rattle.std.specs.Prelude.{◌≡◌, ℕ, ◌+◌, None, List, ◌++◌, slice_index}
use Rattle.bytes_defs.specs.Numbers.{little_at}
use Rattle.journal_defs.specs.Checks.{Check, first_failing, header_checks, ranges_checks, lines_checks}
use Rattle.journal_defs.specs.Reading.{image_len_in, range_count_in, line_count_in, body_len_in, listing_len_in, listing_place, listing_end, kind_of, path_len_in}
use Rattle.journal_defs.specs.declared.TheConstants.{OPEN_GATE}
use Rattle.journal_format.specs.declared.fields.Header.{Header}
use Rattle.journal_format.specs.declared.listing.Front.{Front}

-- those of the header with which these bytes begin
abbrev pub header_in : List ℕ → Header
header_in bytes = record {
  image_len = image_len_in bytes;
  ranges = range_count_in bytes;
  lines = line_count_in bytes;
  body_len = body_len_in bytes;
  listing_len = listing_len_in bytes;
}

-- this is the header of an open journal of `len` bytes, and passes its checks
pub record IsHeader (len : ℕ) (header : Header) (bytes : List ℕ) : Type 0 where
  pub gate : slice_index bytes 0 ≡ OPEN_GATE
  pub passes : first_failing (header_checks bytes len) ≡ None
  pub is : header ≡ header_in bytes

-- what stands at a place of a line in front of its path
abbrev pub front_in : List ℕ → ℕ → Front
front_in bytes at = record { kind = kind_of (slice_index bytes at); rule = little_at 4 bytes (at + 1); path_len = path_len_in bytes at }

-- the checks of a journal of `len` bytes with which it begins
abbrev pub checks_of : ℕ → List ℕ → List Check
checks_of len bytes =
    header_checks bytes len ++ ranges_checks bytes 40 0 0 (range_count_in bytes)
    ++ lines_checks bytes (listing_end bytes) (listing_place bytes) (line_count_in bytes)
