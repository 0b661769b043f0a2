-- The text of a report.
use Rattle.std.specs.Prelude.{ℕ, ◌/◌, ◌%◌, codes, decimal, sum_by, List, [], ◌∷◌, ◌++◌, length}
use Rattle.std.specs.List.{flat_map}
use Rattle.name_defs.specs.Spelling.{hex_digit}
use Rattle.range_defs.specs.declared.Claim.{Claim}
use Rattle.rx_ranges.specs.declared.plan.Plan.{Plan}
use Rattle.rx_ranges.specs.declared.plan.Listed.{Listed}
use Rattle.rx_ranges.specs.declared.plan.ListKind.{ListKind}
use Rattle.rx_ranges.specs.declared.plan.ListKind.TheVariants.{File, Alias}
use Rattle.text_defs.specs.declared.ReportState.{ReportState}
use Rattle.text_defs.specs.declared.ReportState.TheVariants.{Planned, Pending, Done}

-- the word for a state
unfoldable pub state_word : ReportState → List ℕ
state_word Planned = codes "planned"
state_word Pending = codes "pending"
state_word Done = codes "done"

-- a byte in two hexadecimal digits behind 0x
unfoldable pub hex_text : ℕ → List ℕ
hex_text byte = codes "0x" ++ hex_digit (byte / 16) ∷ hex_digit (byte % 16) ∷ []

-- how many bytes are planned
abbrev pub planned_bytes : List Claim → ℕ
planned_bytes claims = sum_by (λ claim. claim.range.len) claims

-- the first four lines: the state, the image's length, the number of ranges and that of their bytes
unfoldable pub head_lines : Plan → ReportState → List ℕ
head_lines plan state =
    codes "redaction " ++ state_word state ++ codes "\nimage " ++ decimal plan.image_len ++ codes "\nranges " ++ decimal (length plan.ranges)
    ++ codes "\nbytes " ++ decimal (planned_bytes plan.ranges) ++ codes "\n"

-- the line of a range: where it begins, its length, its rule and its fill
unfoldable pub range_line : Claim → List ℕ
range_line claim =
    codes "RANGE " ++ decimal claim.range.at ++ codes " " ++ decimal claim.range.len ++ codes " " ++ decimal claim.rule ++ codes " "
    ++ hex_text claim.fill ++ codes "\n"

-- what stands before the path in a line of the listing
unfoldable pub listed_head : ListKind → ℕ → List ℕ
listed_head File rule = codes "FILE " ++ decimal rule ++ codes " "
listed_head Alias rule = codes "ALIAS "

-- the line of a listed name
abbrev pub listed_line : Listed → List ℕ
listed_line listed = listed_head listed.kind listed.rule ++ listed.path ++ 10 ∷ []

-- the report of a plan
abbrev pub report : Plan → ReportState → List ℕ
report plan state = head_lines plan state ++ flat_map range_line plan.ranges ++ flat_map listed_line plan.listing
