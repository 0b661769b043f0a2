-- Laws on the claims on files, the lines of a listing and the plan: what a reader of the plan's parts needs to know that
-- they are the plan.
use Rattle.std.proofs.Common.{◌≡◌, ℕ, ◌+◌, ◌<◌, ◌≤◌, Bool, true, false, ◌&&◌, ◌==◌, cond, Option, Some, None, is_some, List, [], ◌∷◌, length, get_or, refl, sym, ◌∙◌, ap, subst, arith}
use mathlib.Core.Path.{fun_ext}
use Rattle.std.specs.List.{All, flat_map}
use Rattle.std.proofs.lemmas.List.Elements.{All-nil, All-head, All-tail, All-cons, All-append, All-map, All-weaker, All-same}
use Rattle.std.proofs.lemmas.Bool.{cond_both, and_right}
use Rattle.std.proofs.lemmas.Bool.Decides.{nat_tests}
use Rattle.range_defs.specs.declared.Range.{Range}
use Rattle.range_defs.specs.declared.Claim.{Claim}
use Rattle.range_defs.specs.declared.TheConstants.{LONGEST_IMAGE, REACH}
use Rattle.range_defs.specs.Places.{covers, IsLeast, least_below, EndsInReach}
use Rattle.range_defs.proofs.RangeLaws.{EndsBy as RangeEndsBy, covers-past}
use Rattle.range_defs.specs.AnyByte.{TellsIfAny}
use Rattle.range_defs.proofs.AnyByte.{same_as_any_below}
use Rattle.range_defs.proofs.LeastLaws.{same_as_least_below}
use Rattle.range_defs.specs.declared.TheConstants.{REACH}
use Rattle.range_defs.specs.Claims.{painted, longest_claims, IsFillMap, HaveOneFill}
use Rattle.range_defs.proofs.ClaimLaws.{EndsBy, painted-past, same_as_longest_claims, ends_where_painted}
use Rattle.rx_ranges.specs.declared.pieces.PieceKind.{PieceKind}
use Rattle.rx_ranges.specs.declared.pieces.PieceKind.TheVariants.{Disk, Zero}
use Rattle.rx_ranges.specs.declared.plan.Listed.{Listed}
use Rattle.rx_tree.specs.declared.part.Role.{Role}
use Rattle.rx_tree.specs.declared.part.Role.TheVariants as roles
use Rattle.rx_tree.specs.declared.file.FileEntry.{FileEntry}
use Rattle.rx_tree.specs.PartValue.{PartValue}
use Rattle.rx_tree.specs.TreeValue.{TreeValue}
use Rattle.piece_defs.specs.Places.{IsWithin as PieceWithin}
use Rattle.rx_tree.specs.Within.{ArePiecesWithin, AreRangesWithin, ArePartsWithin, AreFilesWithin, IsWithin}
use Rattle.rule_defs.specs.declared.Rule.{Rule}
use Rattle.rule_defs.specs.declared.Action.{Action}
use Rattle.rule_defs.specs.declared.Action.TheVariants.{Fill}
use Rattle.rule_defs.specs.Numbered.{AreNumbered, AreNumberedFrom}
use Rattle.rule_defs.specs.Settle.{holds, is_plain_file, settling_rule, disk_range, disk_ranges, content_range, content_ranges, fill_of, claimed_ranges, claim_by, claims_by, claims_on}
use Rattle.plan_defs.specs.Plan.{all_claims, is_painted, planned_at, is_planned, part_ranges, touched_ranges, touches_planned, lines_of, plan_of, guarded_byte}

-- what holds of all that each element gives holds of all that the list gives
pub All-flat_map : {X Y : Type 0} (P : X → Type 0) (Q : Y → Type 0) (f : X → List Y) → ((x : X) → P x → All Q (f x))
    → (xs : List X) → All P xs → All Q (flat_map f xs)
All-flat_map P Q f each [] all = All-nil Q
All-flat_map P Q f each (x ∷ xs) all =
    All-append Q (f x) (flat_map f xs) (each x (All-head P x xs all)) (All-flat_map P Q f each xs (All-tail P x xs all))

-- what lies within a length has its bytes there: pieces, parts, files, claims
disk_range-of_kind : (end from size at : ℕ) (kind : PieceKind) → PieceWithin end kind at size
    → All (RangeEndsBy end) (disk_range (record { from = from; len = size; kind = kind; at = at }))
disk_range-of_kind end from size at Disk fits =
    All-cons (RangeEndsBy end) (record { at = at; len = size }) [] fits (All-nil (RangeEndsBy end))
disk_range-of_kind end from size at Zero fits = All-nil (RangeEndsBy end)

disk_ranges-within : (end : ℕ) (part : PartValue) → ArePiecesWithin end part.pieces → All (RangeEndsBy end) (disk_ranges part)
disk_ranges-within end part within =
    All-flat_map (λ piece. PieceWithin end piece.kind piece.at piece.len) (RangeEndsBy end) disk_range
    (λ piece fits. disk_range-of_kind end piece.from piece.len piece.at piece.kind fits) part.pieces within

content_range-of_role : (end : ℕ) (role : Role) (part : PartValue) → ArePiecesWithin end part.pieces
    → All (RangeEndsBy end) (content_range (record part { role = role }))
content_range-of_role end roles.Content part within = disk_ranges-within end part within
content_range-of_role end roles.Other part within = All-nil (RangeEndsBy end)

content_ranges-within : (end : ℕ) (file : FileEntry) → ArePartsWithin end file.parts → All (RangeEndsBy end) (content_ranges file)
content_ranges-within end file within =
    All-flat_map (λ part. ArePiecesWithin end part.pieces × AreRangesWithin end part.slack) (RangeEndsBy end) content_range
    (λ part fits. content_range-of_role end part.role part fits.0) file.parts within

-- the bytes that a file touches end where the file does
pub touched_ranges-within : (end : ℕ) (file : FileEntry) → ArePartsWithin end file.parts → All (RangeEndsBy end) (touched_ranges file)
touched_ranges-within end file within =
    All-flat_map (λ part. ArePiecesWithin end part.pieces × AreRangesWithin end part.slack) (RangeEndsBy end) part_ranges
    (λ part fits. All-append (RangeEndsBy end) (disk_ranges part) part.slack (disk_ranges-within end part fits.0) fits.1) file.parts within

claimed-within : (end : ℕ) (action : Action) (file : FileEntry) → ArePartsWithin end file.parts
    → All (RangeEndsBy end) (claimed_ranges action file)
claimed-within end (Fill byte) file within = content_ranges-within end file within

claims_by-within : (end : ℕ) (settling : Option Rule) (file : FileEntry) → ArePartsWithin end file.parts
    → All (EndsBy end) (claims_by settling file)
claims_by-within end None file within = All-nil (EndsBy end)
claims_by-within end (Some rule) file within =
    All-map (EndsBy end) (claim_by rule) (claimed_ranges rule.action file) (claimed-within end rule.action file within)

-- the claims on files end where the files do
pub claims-within : (end : ℕ) (rules : List Rule) (files : List FileEntry) → AreFilesWithin end files
    → All (EndsBy end) (all_claims rules files)
claims-within end rules files within =
    All-flat_map (λ file. ArePartsWithin end file.parts) (EndsBy end) (claims_on rules)
    (λ file fits. claims_by-within end (settling_rule rules file) file fits) files within

piece-longer : (short long : ℕ) (kind : PieceKind) (at size : ℕ) → short ≤ long → PieceWithin short kind at size → PieceWithin long kind at size
piece-longer short long Disk at size longer less = omega (arith, longer, less)
piece-longer short long Zero at size longer less = tt

-- what a file is said to lie within can be longer
pub parts-longer : (short long : ℕ) (parts : List PartValue) → short ≤ long → ArePartsWithin short parts → ArePartsWithin long parts
parts-longer short long parts longer within =
    All-weaker (λ part. ArePiecesWithin short part.pieces × AreRangesWithin short part.slack)
    (λ part. ArePiecesWithin long part.pieces × AreRangesWithin long part.slack)
    (λ part both. (
      All-weaker (λ piece. PieceWithin short piece.kind piece.at piece.len) (λ piece. PieceWithin long piece.kind piece.at piece.len) (λ piece less. piece-longer short long piece.kind piece.at piece.len longer less) part.pieces both.0,
      All-weaker (RangeEndsBy short) (RangeEndsBy long) (λ range less. omega (arith, less)) part.slack both.1,
    ))
    parts within

-- a file of a tree lies within the image
pub file-within : (tree : TreeValue) (files : List FileEntry) (index : ℕ) (file : FileEntry) → IsWithin tree → files ≡ tree.files
    → index < length files → file ≡ get_or files index file → ArePartsWithin tree.image_len file.parts
file-within tree files index file within files_are inside is =
    subst (λ (f : FileEntry). ArePartsWithin tree.image_len f.parts) (sym is)
    (All-same (λ f. ArePartsWithin tree.image_len f.parts) files tree.files files_are within.files index file inside)

-- and so in reach
pub file-in_reach : (tree : TreeValue) (files : List FileEntry) (index : ℕ) (file : FileEntry) → IsWithin tree → files ≡ tree.files
    → index < length files → file ≡ get_or files index file → ArePartsWithin REACH file.parts
file-in_reach tree files index file within files_are inside is =
    parts-longer tree.image_len REACH file.parts (omega (arith, within.in_reach))
    (file-within tree files index file within files_are inside is)

-- the fill of the rule with a number
abbrev fill_by : List Rule → ℕ → ℕ
fill_by [] number = 0
fill_by (rule ∷ rules) number = cond (rule.number == number) (fill_of rule.action) (fill_by rules number)

-- a claim has the fill of its rule, and its rule's number isn't below the first one's
abbrev IsFilledBy : ℕ → List Rule → Claim → Type 0
IsFilledBy first rules claim = (first ≤ claim.rule) × (claim.fill ≡ fill_by rules claim.rule)

filled-own : (rule : Rule) (rules : List Rule) → fill_of rule.action ≡ fill_by (rule ∷ rules) rule.number
filled-own rule rules =
    let same : (rule.number == rule.number) ≡ true = grind (arith, nat_tests) in
    rw same refl

filled-behind : (first : ℕ) (rule : Rule) (rules : List Rule) (claim : Claim) → rule.number ≡ first → IsFilledBy (first + 1) rules claim
    → IsFilledBy first (rule ∷ rules) claim
filled-behind first rule rules claim numbered filled =
    let behind : first + 1 ≤ claim.rule = filled.0 in
    let other : (rule.number == claim.rule) ≡ false = grind (arith, nat_tests) in
    let passed : fill_by rules claim.rule ≡ fill_by (rule ∷ rules) claim.rule = rw other refl in
    (omega arith, filled.1 ∙ passed)

claims_on-filled : (first : ℕ) (rules : List Rule) (file : FileEntry) → AreNumberedFrom first rules
    → All (IsFilledBy first rules) (claims_on rules file)
claims_on-filled first [] file numbered = All-nil (IsFilledBy first [])
claims_on-filled first (rule ∷ rules) file numbered =
    let number : rule.number ≡ first = numbered.0 in
    cond_both (is_plain_file file.kind && holds rule.condition file) (Some rule) (settling_rule rules file)
    (λ settling. All (IsFilledBy first (rule ∷ rules)) (claims_by settling file))
    (λ settled. All-map (IsFilledBy first (rule ∷ rules)) (claim_by rule) (claimed_ranges rule.action file)
    (λ index other inside. (omega arith, filled-own rule rules)))
    (λ unsettled. All-weaker (IsFilledBy (first + 1) rules) (IsFilledBy first (rule ∷ rules)) (λ claim filled. filled-behind first rule rules claim number filled)
    (claims_by (settling_rule rules file) file) (claims_on-filled (first + 1) rules file numbered.1))

-- the claims of rules of different numbers have one fill for each rule
pub claims-one_fill : (rules : List Rule) (files : List FileEntry) → AreNumbered rules → HaveOneFill (all_claims rules files)
claims-one_fill rules files numbered first second other before inside same_rule =
    let filled : All (IsFilledBy 1 rules) (all_claims rules files) =
    All-flat_map (λ file. Unit {0}) (IsFilledBy 1 rules) (claims_on rules) (λ file any. claims_on-filled 1 rules file numbered) files (λ index at within. tt) in
    let a = filled first other (omega arith) in
    let b = filled second other inside in
    a.1 ∙ ap (fill_by rules) same_rule ∙ sym b.1

-- whether some byte is claimed and a file's tells whether the file touches the claims
pub touches-by_any : (len : ℕ) (file : FileEntry) (claims : List Claim) (ranges : List Range) (answer : Bool) → ArePartsWithin len file.parts
    → ranges ≡ touched_ranges file → TellsIfAny (λ byte. is_some (painted claims byte) && covers ranges byte) answer
    → answer ≡ touches_planned len (is_painted claims) file
touches-by_any len file claims ranges answer within ranges_are tells =
    let same : TellsIfAny (λ byte. is_some (painted claims byte) && covers (touched_ranges file) byte) answer =
    subst (λ (list : List Range). TellsIfAny (λ byte. is_some (painted claims byte) && covers list byte) answer) ranges_are tells in
    same_as_any_below (λ byte. is_some (painted claims byte) && covers (touched_ranges file) byte) len answer same
    (λ byte behind. and_right (is_some (painted claims byte)) (covers (touched_ranges file) byte)
    (covers-past len byte (touched_ranges file) (touched_ranges-within len file within) behind))

-- claims that end where an image does end in reach
pub claims-in_reach : (end : ℕ) (claims : List Claim) → end ≤ LONGEST_IMAGE → All (EndsBy end) claims
    → All (λ claim. EndsInReach claim.range) claims
claims-in_reach end claims reach within =
    All-weaker (EndsBy end) (λ claim. EndsInReach claim.range) (λ claim less. omega (arith, less)) claims within

-- the claims on a tree's files end in reach
pub all_claims-in_reach : (tree : TreeValue) (rules : List Rule) (files : List FileEntry) (claims : List Claim) → IsWithin tree
    → files ≡ tree.files → claims ≡ all_claims rules files → All (λ claim. EndsInReach claim.range) claims
all_claims-in_reach tree rules files claims within files_are claims_are =
    All-same (λ claim. EndsInReach claim.range) claims (all_claims rules tree.files) (claims_are ∙ ap (all_claims rules) files_are)
    (claims-in_reach tree.image_len (all_claims rules tree.files) within.in_reach (claims-within tree.image_len rules tree.files within.files))

-- a map that paints as the claims on a tree's files do ends where the image does
pub ranges-within : (tree : TreeValue) (rules : List Rule) (ranges : List Claim) → IsWithin tree → IsFillMap ranges
    → ((byte : ℕ) → painted ranges byte ≡ planned_at rules tree.files byte) → All (EndsBy tree.image_len) ranges
ranges-within tree rules ranges within kept same =
    ends_where_painted ranges tree.image_len kept
    (λ byte behind. same byte ∙ painted-past (all_claims rules tree.files) tree.image_len byte
    (claims-within tree.image_len rules tree.files within.files) behind)

-- and it is the plan's
pub ranges-are : (tree : TreeValue) (rules : List Rule) (ranges : List Claim) → IsWithin tree → IsFillMap ranges
    → ((byte : ℕ) → painted ranges byte ≡ planned_at rules tree.files byte) → ranges ≡ (plan_of tree rules).ranges
unfolding plan_of
ranges-are tree rules ranges within kept same =
    same_as_longest_claims (planned_at rules tree.files) tree.image_len ranges kept same (ranges-within tree rules ranges within kept same)

-- the parts of a plan, and that they are the plan
pub plan-by_parts : (tree : TreeValue) (rules : List Rule) (ranges : List Claim) (lines : List Listed)
    → IsWithin tree → IsFillMap ranges → ((byte : ℕ) → painted ranges byte ≡ planned_at rules tree.files byte)
    → lines ≡ flat_map (lines_of rules tree.image_len (is_painted ranges)) tree.files
    → record { image_len = tree.image_len; ranges = ranges; listing = lines } ≡ plan_of tree rules
unfolding plan_of
plan-by_parts tree rules ranges lines within kept same lines_are =
    let ranges_are : ranges ≡ longest_claims (planned_at rules tree.files) 0 tree.image_len = ranges-are tree rules ranges within kept same in
    let set_is : is_painted ranges ≡ is_planned rules tree.files = fun_ext (λ byte. ap is_some (same byte)) in
    let listing_is : lines ≡ flat_map (lines_of rules tree.image_len (is_planned rules tree.files)) tree.files =
    lines_are ∙ ap (λ (set : ℕ → Bool). flat_map (lines_of rules tree.image_len set) tree.files) set_is in
    cc

-- the least byte that a set with the planned bytes shares with the guard
pub guarded-by_least : (tree : TreeValue) (rules : List Rule) (ranges : List Claim) (planned : List Range) (answer : Option ℕ) → IsWithin tree
    → ((byte : ℕ) → painted ranges byte ≡ planned_at rules tree.files byte) → ((byte : ℕ) → covers planned byte ≡ is_some (painted ranges byte))
    → IsLeast (λ byte. covers planned byte && covers tree.guard byte) answer → answer ≡ guarded_byte tree rules
unfolding guarded_byte
guarded-by_least tree rules ranges planned answer within same planned_is least =
    let past : (byte : ℕ) → tree.image_len ≤ byte → (covers planned byte && covers tree.guard byte) ≡ false =
    λ byte behind. and_right (covers planned byte) (covers tree.guard byte) (covers-past tree.image_len byte tree.guard within.guard behind) in
    let set_is : covers planned ≡ is_planned rules tree.files = fun_ext (λ byte. planned_is byte ∙ ap is_some (same byte)) in
    same_as_least_below (λ byte. covers planned byte && covers tree.guard byte) tree.image_len answer least past
    ∙ ap (λ (set : ℕ → Bool). least_below (λ byte. set byte && covers tree.guard byte) tree.image_len) set_is
