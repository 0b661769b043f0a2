-- Which rule settles a file, and what the rule claims of it.
use Rattle.std.specs.Prelude.{ℕ, Bool, true, false, ◌&&◌, ◌==◌, if◌then◌else◌, nat_eq, Option, Some, None, List, [], ◌∷◌, map}
use Rattle.std.specs.List.{list_any, after_last, flat_map}
use Rattle.std.specs.Cmp.Lexicographic.{pointwise}
use Rattle.range_defs.specs.declared.Range.{Range}
use Rattle.range_defs.specs.declared.Claim.{Claim}
use Rattle.rx_ranges.specs.declared.pieces.Piece.{Piece}
use Rattle.rx_ranges.specs.declared.pieces.PieceKind.{PieceKind}
use Rattle.rx_ranges.specs.declared.pieces.PieceKind.TheVariants.{Disk, Zero}
use Rattle.rx_tree.specs.declared.file.Kind.{Kind}
use Rattle.rx_tree.specs.declared.file.Kind.TheVariants.{File, Dir, Link, Other, System}
use Rattle.rx_tree.specs.declared.part.Role.{Role}
use Rattle.rx_tree.specs.declared.part.Role.TheVariants as roles
use Rattle.rx_tree.specs.declared.file.FileEntry.{FileEntry}
use Rattle.rx_tree.specs.PartValue.{PartValue}
use Rattle.rule_defs.specs.declared.Rule.{Rule}
use Rattle.rule_defs.specs.declared.Action.{Action}
use Rattle.rule_defs.specs.declared.Action.TheVariants.{Fill}
use Rattle.rule_defs.specs.declared.Condition.{Condition}
use Rattle.rule_defs.specs.declared.Condition.TheVariants.{FileName}

-- the last component of a path: what stands behind its last slash
abbrev pub last_component : List ℕ → List ℕ
last_component = after_last (λ byte. byte == 47)

-- whether a condition holds of a file
abbrev pub holds : Condition → FileEntry → Bool
holds (FileName name) file = list_any (λ path. pointwise nat_eq (last_component path) name) file.names

-- only plain files are settled
abbrev pub is_plain_file : Kind → Bool
is_plain_file File = true
is_plain_file Dir = false
is_plain_file Link = false
is_plain_file Other = false
is_plain_file System = false

-- the rule that settles a file: the first whose condition holds
abbrev pub settling_rule : List Rule → FileEntry → Option Rule
settling_rule [] file = None
settling_rule (rule ∷ rules) file =
    if is_plain_file file.kind && holds rule.condition file then Some rule else settling_rule rules file

-- the bytes of the image that a piece has
abbrev pub disk_range : Piece → List Range
disk_range piece = of_kind piece.kind (record { at = piece.at; len = piece.len })
  where
    of_kind : PieceKind → Range → List Range
    of_kind Disk range = range ∷ []
    of_kind Zero range = []

-- the bytes of the image that a part's pieces have
abbrev pub disk_ranges : PartValue → List Range
disk_ranges part = flat_map disk_range part.pieces

-- those of a part that is content
abbrev pub content_range : PartValue → List Range
content_range part = of_role part.role (disk_ranges part)
  where
    of_role : Role → List Range → List Range
    of_role roles.Content ranges = ranges
    of_role roles.Other ranges = []

-- the bytes of the image that a file's content has
abbrev pub content_ranges : FileEntry → List Range
content_ranges file = flat_map content_range file.parts

-- the byte with which an action fills
abbrev pub fill_of : Action → ℕ
fill_of (Fill byte) = byte

-- what an action claims of a file
abbrev pub claimed_ranges : Action → FileEntry → List Range
claimed_ranges (Fill byte) file = content_ranges file

-- a rule's claim on a range
abbrev pub claim_by : Rule → Range → Claim
claim_by rule range = record { range = range; rule = rule.number; fill = fill_of rule.action }

-- what the settling rule, if there is one, claims of a file
abbrev pub claims_by : Option Rule → FileEntry → List Claim
claims_by None file = []
claims_by (Some rule) file = map (claim_by rule) (claimed_ranges rule.action file)

-- the claim on a file
abbrev pub claims_on : List Rule → FileEntry → List Claim
claims_on rules file = claims_by (settling_rule rules file) file
