-- A journal can hold the plan of a tree and its rules, where the plan has few enough ranges.
use Rattle.std.proofs.Common.{◌≡◌, ℕ, zero, suc, ◌+◌, ◌*◌, ◌≤◌, Bool, ◌&&◌, ◌==◌, IsTrue, Option, Some, None, IfSome, List, [], ◌∷◌, length, length-append, map, nat_le, refl, arith}
use Rattle.std.specs.List.{All, flat_map, sum_by}
use Rattle.std.proofs.lemmas.Bool.{cond_both}
use Rattle.std.proofs.lemmas.Bool.Decides.{nat_tests}
use Rattle.std.proofs.lemmas.List.{length-map}
use Rattle.std.proofs.lemmas.List.Elements.{All-nil, All-head, All-tail, All-cons, All-map}
use Rattle.std.proofs.lemmas.List.Sums.{sum_by-append, sum_by-cons}
use Rattle.range_defs.specs.declared.Claim.{Claim}
use Rattle.range_defs.specs.Claims.{paint_of, lesser_paint, painted, one_byte, in_front, longest_claims}
use Rattle.range_defs.specs.Places.{in_range}
use Rattle.range_defs.proofs.ClaimLaws.{longest_claims_kept, longest_claims_ends}
use Rattle.rx_ranges.specs.PlanChecks.{IsRule, HasListedRule, listed_len, IsPlan}
use Rattle.rx_ranges.specs.declared.plan.Listed.{Listed}
use Rattle.rx_ranges.specs.declared.plan.ListKind.{ListKind}
use Rattle.rx_ranges.specs.declared.plan.ListKind.TheVariants.{File, Alias}
use Rattle.rx_ranges.specs.declared.plan.TheConstants.{MAX_RULE, MAX_RANGES}
use Rattle.rx_tree.specs.declared.file.FileEntry.{FileEntry}
use Rattle.rx_tree.specs.NameLimits.{name_count, path_bytes, has_few_names}
use Rattle.rx_tree.specs.declared.limits.TheConstants.{MAX_NAMES, MAX_PATH_BYTES}
use Rattle.rx_tree.specs.TreeValue.{TreeValue}
use Rattle.rx_tree.specs.Within.{IsWithin}
use Rattle.rule_defs.specs.declared.Rule.{Rule}
use Rattle.rule_defs.specs.Numbered.{AreNumbered, AreNumberedFrom, AreFew}
use Rattle.rule_defs.specs.Settle.{holds, is_plain_file, settling_rule, claimed_ranges, claim_by, claims_by, claims_on}
use Rattle.plan_defs.specs.Plan.{all_claims, planned_at, is_planned, touches_planned, lines_for, claim_some, listing_rule, listed_as, file_lines, lines_of, plan_of, HasPath}
use Rattle.plan_defs.proofs.PlanLaws.{All-flat_map}

-- the rules: numbered one by one, they have numbers up to their count
rules-numbered : (first : ℕ) (rules : List Rule) → 1 ≤ first → first + length rules ≤ MAX_RULE + 1 → AreNumberedFrom first rules
    → All (λ rule. IsRule rule.number) rules
rules-numbered first [] least most numbered = All-nil (λ rule. IsRule rule.number)
rules-numbered first (rule ∷ rules) least most numbered =
    let number : rule.number ≡ first = numbered.0 in
    All-cons (λ r. IsRule r.number) rule rules (omega arith, omega arith)
    (rules-numbered (first + 1) rules (omega arith) (omega arith) numbered.1)

settling-numbered : (rules : List Rule) (file : FileEntry) → All (λ rule. IsRule rule.number) rules
    → IfSome (settling_rule rules file) (λ rule. IsRule rule.number)
settling-numbered [] file all = tt
settling-numbered (rule ∷ rules) file all =
    cond_both (is_plain_file file.kind && holds rule.condition file) (Some rule) (settling_rule rules file)
    (λ settling. IfSome settling (λ r. IsRule r.number))
    (λ holding. All-head (λ r. IsRule r.number) rule rules all)
    (λ other. settling-numbered rules file (All-tail (λ r. IsRule r.number) rule rules all))

-- and so have the claims
claims_by-numbered : (settling : Option Rule) (file : FileEntry) → IfSome settling (λ rule. IsRule rule.number)
    → All (λ claim. IsRule claim.rule) (claims_by settling file)
claims_by-numbered None file number = All-nil (λ claim. IsRule claim.rule)
claims_by-numbered (Some rule) file number =
    All-map (λ claim. IsRule claim.rule) (claim_by rule) (claimed_ranges rule.action file) (λ index other inside. number)

claims-numbered : (rules : List Rule) (files : List FileEntry) → All (λ rule. IsRule rule.number) rules
    → All (λ claim. IsRule claim.rule) (all_claims rules files)
claims-numbered rules files all =
    All-flat_map (λ file. Unit {0}) (λ claim. IsRule claim.rule) (claims_on rules)
    (λ file any. claims_by-numbered (settling_rule rules file) file (settling-numbered rules file all)) files (λ index other inside. tt)

-- the paint of a rule
abbrev HasRule : ℕ × ℕ → Type 0
HasRule paint = IsRule paint.0

lesser-numbered : (a b : Option (ℕ × ℕ)) → IfSome a HasRule → IfSome b HasRule → IfSome (lesser_paint a b) HasRule
lesser-numbered None b x y = y
lesser-numbered (Some a) None x y = x
lesser-numbered (Some a) (Some b) x y =
    cond_both (nat_le a.0 b.0) (Some a) (Some b) (λ paint. IfSome paint HasRule) (λ less. x) (λ greater. y)

painted-numbered : (claims : List Claim) (byte : ℕ) → All (λ claim. IsRule claim.rule) claims → IfSome (painted claims byte) HasRule
painted-numbered [] byte all = tt
painted-numbered (claim ∷ claims) byte all =
    lesser-numbered (paint_of claim byte) (painted claims byte)
    (cond_both (in_range claim.range byte) (Some (claim.rule, claim.fill)) None (λ paint. IfSome paint HasRule)
    (λ inside. All-head (λ c. IsRule c.rule) claim claims all) (λ outside. tt))
    (painted-numbered claims byte (All-tail (λ c. IsRule c.rule) claim claims all))

in_front-numbered : (byte : ℕ) (paint : Option (ℕ × ℕ)) (claims : List Claim) → IfSome paint HasRule → All (λ claim. IsRule claim.rule) claims
    → All (λ claim. IsRule claim.rule) (in_front byte paint claims)
in_front-numbered byte None claims rule all = all
in_front-numbered byte (Some paint) [] rule all = All-cons (λ c. IsRule c.rule) (one_byte byte paint) [] rule all
in_front-numbered byte (Some paint) (claim ∷ claims) rule all =
    cond_both (claim.range.at == suc byte && claim.rule == paint.0)
    (record { range = record { at = byte; len = suc claim.range.len }; rule = paint.0; fill = paint.1 } ∷ claims)
    (one_byte byte paint ∷ claim ∷ claims) (All (λ c. IsRule c.rule))
    (λ joins. All-cons (λ c. IsRule c.rule) _ claims rule (All-tail (λ c. IsRule c.rule) claim claims all))
    (λ apart. All-cons (λ c. IsRule c.rule) _ (claim ∷ claims) rule all)

-- and the ranges
longest-numbered : (paint : ℕ → Option (ℕ × ℕ)) (from count : ℕ) → ((byte : ℕ) → IfSome (paint byte) HasRule)
    → All (λ claim. IsRule claim.rule) (longest_claims paint from count)
unfolding longest_claims
longest-numbered paint from zero each = All-nil (λ claim. IsRule claim.rule)
longest-numbered paint from (suc count) each =
    in_front-numbered from (paint from) (longest_claims paint (suc from) count) (each from) (longest-numbered paint (suc from) count each)

-- a line has the rule of its kind
lines_for-ruled : (kind : ListKind) (rule : ℕ) (file : FileEntry) → HasListedRule kind rule
    → All (λ line. HasListedRule line.kind line.rule) (lines_for kind rule file)
lines_for-ruled kind rule file number =
    All-map (λ line. HasListedRule line.kind line.rule) (λ name. record { kind = kind; rule = rule; path = name }) file.names
    (λ index other inside. number)

file_lines-ruled : (len : ℕ) (planned : ℕ → Bool) (listed : Option ℕ) (file : FileEntry) → IfSome listed IsRule
    → All (λ line. HasListedRule line.kind line.rule) (file_lines len planned listed file)
file_lines-ruled len planned None file number =
    cond_both (touches_planned len planned file) (lines_for Alias 0 file) [] (All (λ line. HasListedRule line.kind line.rule))
    (λ touches. lines_for-ruled Alias 0 file refl) (λ apart. All-nil (λ line. HasListedRule line.kind line.rule))
file_lines-ruled len planned (Some number) file is = lines_for-ruled File number file is

listing_rule-numbered : (settling : Option Rule) (claims : List Claim) → IfSome settling (λ rule. IsRule rule.number)
    → IfSome (listing_rule settling claims) IsRule
listing_rule-numbered None claims number = tt
listing_rule-numbered (Some rule) claims number =
    cond_both (claim_some claims) (Some rule.number) None (λ listed. IfSome listed IsRule) (λ some. number) (λ none. tt)

listing-ruled : (len : ℕ) (planned : ℕ → Bool) (rules : List Rule) (files : List FileEntry) → All (λ rule. IsRule rule.number) rules
    → All (λ line. HasListedRule line.kind line.rule) (flat_map (lines_of rules len planned) files)
listing-ruled len planned rules files all =
    All-flat_map (λ file. Unit {0}) (λ line. HasListedRule line.kind line.rule) (lines_of rules len planned)
    (λ file any. file_lines-ruled len planned (listed_as rules file) file
    (listing_rule-numbered (settling_rule rules file) (claims_on rules file) (settling-numbered rules file all)))
    files (λ index other inside. tt)

-- lines are as few and as short as the names of a file allow
abbrev FitNames : FileEntry → List Listed → Type 0
FitNames file lines =
    (length lines ≤ length file.names) × (sum_by listed_len lines ≤ 7 * length file.names + sum_by length file.names)

named-len : (kind : ListKind) (rule : ℕ) (names : List (List ℕ))
    → sum_by listed_len (map (λ name. record { kind = kind; rule = rule; path = name }) names) ≡ 7 * length names + sum_by length names
named-len kind rule [] = refl
named-len kind rule (name ∷ names) =
    let line : List ℕ → Listed = λ path. record { kind = kind; rule = rule; path = path } in
    let longer : sum_by listed_len (map line (name ∷ names)) ≡ (7 + length name) + sum_by listed_len (map line names) =
    sum_by-cons listed_len (line name) (map line names) in
    omega (arith, named-len kind rule names, longer, sum_by-cons length name names)

lines_for-fit : (kind : ListKind) (rule : ℕ) (file : FileEntry) → FitNames file (lines_for kind rule file)
lines_for-fit kind rule file =
    let line : List ℕ → Listed = λ path. record { kind = kind; rule = rule; path = path } in
    let count : length (map line file.names) ≡ length file.names = length-map file.names line in
    (omega (arith, count), omega (arith, named-len kind rule file.names))

file_lines-fit : (len : ℕ) (planned : ℕ → Bool) (listed : Option ℕ) (file : FileEntry) → FitNames file (file_lines len planned listed file)
file_lines-fit len planned None file =
    cond_both (touches_planned len planned file) (lines_for Alias 0 file) [] (FitNames file)
    (λ touches. lines_for-fit Alias 0 file) (λ apart. (omega arith, omega arith))
file_lines-fit len planned (Some number) file = lines_for-fit File number file

listing-fits : (lines : FileEntry → List Listed) (files : List FileEntry) → ((file : FileEntry) → FitNames file (lines file))
    → (length (flat_map lines files) ≤ name_count files) × (sum_by listed_len (flat_map lines files) ≤ 7 * name_count files + path_bytes files)
listing-fits lines [] each = (omega arith, omega arith)
listing-fits lines (file ∷ files) each =
    let here = each file in
    let rest = listing-fits lines files each in
    let count : length (flat_map lines (file ∷ files)) ≡ length (lines file) + length (flat_map lines files) =
    length-append (lines file) (flat_map lines files) in
    let bytes : sum_by listed_len (flat_map lines (file ∷ files)) ≡ sum_by listed_len (lines file) + sum_by listed_len (flat_map lines files) =
    sum_by-append listed_len (lines file) (flat_map lines files) in
    let names = sum_by-cons (λ f. length f.names) file files in
    let paths = sum_by-cons (λ f. sum_by length f.names) file files in
    (omega (arith, here.0, rest.0, count, names), omega (arith, here.1, rest.1, bytes, names, paths))

few-names : (files : List FileEntry) → IsTrue (has_few_names files) → (name_count files ≤ MAX_NAMES) × (path_bytes files ≤ MAX_PATH_BYTES)
unfolding has_few_names
few-names files few = (grind (arith, nat_tests), grind (arith, nat_tests))

-- a plan with few enough ranges can be held by a journal
pub plan-is_plan : (tree : TreeValue) (rules : List Rule) → IsWithin tree → IsTrue (has_few_names tree.files) → AreNumbered rules → AreFew rules
    → length (plan_of tree rules).ranges ≤ MAX_RANGES → All HasPath (plan_of tree rules).listing → IsPlan (plan_of tree rules)
unfolding plan_of
plan-is_plan tree rules within few_names numbered few few_ranges paths =
    let files = tree.files in
    let lines = lines_of rules tree.image_len (is_planned rules files) in
    let few_files = few-names files few_names in
    let fits = listing-fits lines files (λ file. file_lines-fit tree.image_len (is_planned rules files) (listed_as rules file) file) in
    let all = rules-numbered 1 rules (omega arith) (omega (arith, few)) numbered in
    let ruled = listing-ruled tree.image_len (is_planned rules files) rules files all in
    let ends = longest_claims_ends (planned_at rules files) tree.image_len in
    let claimed = longest-numbered (planned_at rules files) 0 tree.image_len
    (λ byte. painted-numbered (all_claims rules files) byte (claims-numbered rules files all)) in record {
      in_reach = within.in_reach;
      few_ranges = few_ranges;
      few_lines = omega (arith, few_files.0, fits.0);
      short_listing = omega (arith, few_files.0, few_files.1, fits.1);
      ranges = longest_claims_kept (planned_at rules files) tree.image_len;
      within = λ index other inside. (ends index other inside, claimed index other inside);
      listed = λ index other inside. let path = paths index other inside in (ruled index other inside, path.0, path.1);
    }
