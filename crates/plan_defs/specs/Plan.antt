-- The plan of a tree and its rules: which bytes are filled, by which rule and with what, and which files are listed.
use Rattle.std.specs.Prelude.{◌≡◌, ℕ, ◌<◌, Bool, ◌&&◌, is_some, if◌then◌else◌, nat_lt, Option, Some, None, List, [], ◌++◌, length, map}
use Rattle.std.specs.List.{list_any, flat_map}
use Rattle.std.specs.Option.{option_map}
use Rattle.std.specs.Str.{IsUtf8}
use Rattle.range_defs.specs.declared.Range.{Range}
use Rattle.range_defs.specs.declared.Claim.{Claim}
use Rattle.range_defs.specs.Places.{covers, least_below}
use Rattle.range_defs.specs.Claims.{painted, longest_claims}
use Rattle.rx_ranges.specs.Path.{IsPath}
use Rattle.rx_ranges.specs.declared.plan.Plan.{Plan}
use Rattle.rx_ranges.specs.declared.plan.Listed.{Listed}
use Rattle.rx_ranges.specs.declared.plan.ListKind.{ListKind}
use Rattle.rx_ranges.specs.declared.plan.ListKind.TheVariants.{File, Alias}
use Rattle.rx_tree.specs.declared.file.FileEntry.{FileEntry}
use Rattle.rx_tree.specs.PartValue.{PartValue}
use Rattle.rx_tree.specs.TreeValue.{TreeValue}
use Rattle.rule_defs.specs.declared.Rule.{Rule}
use Rattle.rule_defs.specs.Settle.{settling_rule, claims_on, disk_ranges}

-- all claims on the files
abbrev pub all_claims : List Rule → List FileEntry → List Claim
all_claims rules files = flat_map (claims_on rules) files

-- the rule and the fill of a byte: those of the least rule that claims it, if there is one
abbrev pub planned_at : List Rule → List FileEntry → ℕ → Option (ℕ × ℕ)
planned_at rules files byte = painted (all_claims rules files) byte

-- whether claims have a byte
abbrev pub is_painted : List Claim → ℕ → Bool
is_painted claims byte = is_some (painted claims byte)

abbrev pub is_planned : List Rule → List FileEntry → ℕ → Bool
is_planned rules files byte = is_painted (all_claims rules files) byte

-- the bytes of the image that a part has: those of its pieces, and its slack
abbrev pub part_ranges : PartValue → List Range
part_ranges part = disk_ranges part ++ part.slack

-- the bytes of the image that a file touches
abbrev pub touched_ranges : FileEntry → List Range
touched_ranges file = flat_map part_ranges file.parts

-- whether a file touches a planned byte of an image of this length
abbrev pub touches_planned : ℕ → (ℕ → Bool) → FileEntry → Bool
touches_planned len planned file = is_some (least_below (λ byte. planned byte && covers (touched_ranges file) byte) len)

-- a line for each name of a file
abbrev pub lines_for : ListKind → ℕ → FileEntry → List Listed
lines_for kind rule file = map (λ name. record { kind = kind; rule = rule; path = name }) file.names

-- what a line lists is a path, in UTF-8
abbrev pub HasPath : Listed → Type 0
HasPath line = IsPath line.path × IsUtf8 line.path

-- whether claims have any byte
abbrev pub claim_some : List Claim → Bool
claim_some claims = list_any (λ claim. nat_lt 0 claim.range.len) claims

-- the lines of a file that isn't listed as settled: one for each name as an alias where it touches a planned byte
abbrev pub alias_lines : ℕ → (ℕ → Bool) → FileEntry → List Listed
alias_lines len planned file = if touches_planned len planned file then lines_for Alias 0 file else []

-- the number of the rule under which a file is listed as settled: that of the settling rule, where its claim has a byte
abbrev pub listing_rule : Option Rule → List Claim → Option ℕ
listing_rule None claims = None
listing_rule (Some rule) claims = if claim_some claims then Some rule.number else None

abbrev pub listed_as : List Rule → FileEntry → Option ℕ
listed_as rules file = listing_rule (settling_rule rules file) (claims_on rules file)

-- the lines of a file: of one that is listed as settled each name with that rule, and else those of an alias
abbrev pub file_lines : ℕ → (ℕ → Bool) → Option ℕ → FileEntry → List Listed
file_lines len planned None file = alias_lines len planned file
file_lines len planned (Some number) file = lines_for File number file

abbrev pub lines_of : List Rule → ℕ → (ℕ → Bool) → FileEntry → List Listed
lines_of rules len planned file = file_lines len planned (listed_as rules file) file

-- the plan of a tree and its rules: the longest ranges of equal rule over the planned bytes, and the lines of the
-- files in the tree's order
unfoldable pub plan_of : TreeValue → List Rule → Plan
plan_of tree rules = record {
  image_len = tree.image_len;
  ranges = longest_claims (planned_at rules tree.files) 0 tree.image_len;
  listing = flat_map (lines_of rules tree.image_len (is_planned rules tree.files)) tree.files;
}

-- the least planned byte that lies in the guard, if there is one
unfoldable pub guarded_byte : TreeValue → List Rule → Option ℕ
guarded_byte tree rules =
    least_below (λ byte. is_planned rules tree.files byte && covers tree.guard byte) tree.image_len

-- the number of the rule by which a byte is planned, if it is planned
abbrev pub planning_rule : List Rule → TreeValue → ℕ → Option ℕ
planning_rule rules tree byte = option_map (λ paint. paint.0) (planned_at rules tree.files byte)

-- the plan fills no byte of the guard, and has more ranges than this number
abbrev pub HasMoreRanges : ℕ → TreeValue → List Rule → Type 0
HasMoreRanges number tree rules =
    (guarded_byte tree rules ≡ None) × (number < length (plan_of tree rules).ranges)
