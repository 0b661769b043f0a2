-- The checks that an open journal has to pass, in their order, each with the place that is told where it fails.
use Rattle.std.specs.Prelude.{ℕ, zero, suc, ◌+◌, ◌-◌, ◌*◌, ◌==◌, ◌&&◌, ◌||◌, not, nat_le, nat_lt, if◌then◌else◌, Bool, codes, Option, Some, None, slice_index, List, [], ◌∷◌, ◌++◌, length}
use Rattle.std.specs.List.{list_all}
use Rattle.std.specs.Str.{bytes_eq, is_utf8}
use Rattle.bytes_defs.specs.Bytes.{part}
use Rattle.bytes_defs.specs.Numbers.{little_at}
use Rattle.journal_defs.specs.Form.{group_count}
use Rattle.journal_defs.specs.Reading.{image_len_in, range_count_in, line_count_in, body_len_in, listing_len_in, listing_place, listing_end, claim_in, path_in, line_end}
use Rattle.journal_defs.specs.declared.TheConstants.{HEADER_LEN, RANGE_LEN}
use Rattle.range_defs.specs.declared.TheConstants.{LONGEST_IMAGE}
use Rattle.rx_ranges.specs.Path.{begins_with_slash, is_printed}
use Rattle.rx_ranges.specs.declared.plan.TheConstants.{MAX_RULE, MAX_RANGES, MAX_LISTED, MAX_LISTING_BYTES}

-- a check: the place that is told where it fails, and whether it holds
abbrev pub Check : Type 0
Check = ℕ × Bool

-- the place of the first check that fails
unfoldable pub first_failing : List Check → Option ℕ
first_failing [] = None
first_failing (check ∷ checks) = if check.1 then first_failing checks else Some check.0

-- the header: the text, the image's length, how many ranges and lines there are, the bytes of the body, and those of the
-- listing, which with those of ranges and marks make the body. The journal has `len` bytes.
unfoldable pub header_checks : List ℕ → ℕ → List Check
header_checks bytes len =
    (1, bytes_eq (part bytes 1 7) (codes "DFRJ v1"))
    ∷ (8, nat_le (image_len_in bytes) LONGEST_IMAGE)
    ∷ (16, nat_le (range_count_in bytes) MAX_RANGES)
    ∷ (20, nat_le (line_count_in bytes) MAX_LISTED)
    ∷ (24, body_len_in bytes == len - HEADER_LEN)
    ∷ (
      32,
      nat_le (listing_len_in bytes) MAX_LISTING_BYTES
          && (RANGE_LEN * range_count_in bytes + listing_len_in bytes + (group_count (range_count_in bytes) + 1) == body_len_in bytes),
    )
    ∷ []

-- a rule
abbrev pub is_rule : ℕ → Bool
is_rule rule = nat_le 1 rule && nat_le rule MAX_RULE

-- A range at a place: it begins at the last range's end or behind it, and inside the image; it isn't empty, and ends in
-- the image; its rule is one, and another than that of the last range where the two touch; and there are three zeros.
-- Where no range stands before it, the last end and the last rule are 0.
unfoldable pub range_checks : List ℕ → ℕ → ℕ → ℕ → List Check
range_checks bytes at last_end last_rule =
    let claim = claim_in bytes at in
    (at, nat_le last_end claim.range.at && nat_lt claim.range.at (image_len_in bytes))
    ∷ (at + 8, nat_lt 0 claim.range.len && nat_le (claim.range.at + claim.range.len) (image_len_in bytes))
    ∷ (at + 16, is_rule claim.rule && not (last_end == claim.range.at && last_rule == claim.rule))
    ∷ (at + 21, little_at 3 bytes (at + 21) == 0)
    ∷ []

-- so many ranges from a place on
unfoldable pub ranges_checks : List ℕ → ℕ → ℕ → ℕ → ℕ → List Check
ranges_checks bytes at last_end last_rule zero = []
ranges_checks bytes at last_end last_rule (suc count) =
    let claim = claim_in bytes at in
    range_checks bytes at last_end last_rule ++ ranges_checks bytes (at + RANGE_LEN) (claim.range.at + claim.range.len) claim.rule count

-- the rule in a line of this kind: that of a File, and 0 of an Alias
abbrev pub is_listed_rule : ℕ → ℕ → Bool
is_listed_rule kind rule = if kind == 1 then is_rule rule else (rule == 0)

-- a path, as UTF-8
abbrev pub is_path : List ℕ → Bool
is_path path = is_utf8 path && begins_with_slash path && list_all is_printed path

-- A line at a place of a listing that ends at a place: 7 bytes of it are left, and its kind is one of the two; its rule is
-- one of that kind; its path ends in the listing; and it is a path.
unfoldable pub line_checks : List ℕ → ℕ → ℕ → List Check
line_checks bytes end at =
    (at, nat_le (at + 7) end && (slice_index bytes at == 1 || slice_index bytes at == 2))
    ∷ (at + 1, is_listed_rule (slice_index bytes at) (little_at 4 bytes (at + 1)))
    ∷ (at + 5, nat_le (line_end bytes at) end)
    ∷ (at + 7, is_path (path_in bytes at))
    ∷ []

-- so many lines from a place on, and no byte is left behind them
unfoldable pub lines_checks : List ℕ → ℕ → ℕ → ℕ → List Check
lines_checks bytes end at zero = (at, nat_le end at) ∷ []
lines_checks bytes end at (suc count) = line_checks bytes end at ++ lines_checks bytes end (line_end bytes at) count

-- all checks of an open journal
abbrev pub journal_checks : List ℕ → List Check
journal_checks bytes =
    header_checks bytes (length bytes) ++ ranges_checks bytes HEADER_LEN 0 0 (range_count_in bytes)
    ++ lines_checks bytes (listing_end bytes) (listing_place bytes) (line_count_in bytes)

-- the place of the first check that an open journal fails
abbrev pub bad_at : List ℕ → Option ℕ
bad_at bytes = first_failing (journal_checks bytes)
