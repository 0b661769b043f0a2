-- Why a plan is refused: the least filled byte of the guard and its rule, or too many ranges.
use Rattle.std.proofs.Common.{◌≡◌, ℕ, ◌<◌, ◌&&◌, Some, None, Option, is_some, Result, Err, List, length, sym, ap, subst, ◌∙◌}
use Rattle.std.specs.Option.{option_map}
use Rattle.range_defs.specs.declared.Claim.{Claim}
use Rattle.range_defs.specs.Claims.{painted}
use Rattle.range_defs.specs.declared.Range.{Range}
use Rattle.range_defs.specs.Places.{covers, IsLeast}
use Rattle.fault_defs.specs.declared.Bound.{Bound}
use Rattle.fault_defs.specs.declared.Bound.TheVariants.{Ranges}
use Rattle.rx_ranges.specs.declared.plan.Plan.{Plan}
use Rattle.rx_ranges.specs.declared.plan.TheConstants.{MAX_RANGES}
use Rattle.rx_tree.specs.TreeValue.{TreeValue}
use Rattle.rx_tree.specs.Within.{IsWithin}
use Rattle.rule_defs.specs.declared.Rule.{Rule}
use Rattle.rx_tree.specs.declared.file.FileEntry.{FileEntry}
use Rattle.plan_defs.specs.Plan.{all_claims, planned_at, plan_of, guarded_byte, planning_rule, HasMoreRanges}
use Rattle.plan_defs.proofs.PlanLaws.{guarded-by_least}
use Rattle.rx_plan.specs.declared.PlanFault.{PlanFault}
use Rattle.rx_plan.specs.declared.PlanFault.TheVariants.{MeetsGuard, Limit}

-- a map paints as is planned, of a tree in its image
pub record IsPainted (tree : TreeValue) (rules : List Rule) (fills : List Claim) : Type 0 where
  pub within : IsWithin tree
  pub same : (byte : ℕ) → painted fills byte ≡ planned_at rules tree.files byte

-- a map does that paints as the claims on the files do
pub is_painted : (tree seen : TreeValue) (rules given : List Rule) (files : List FileEntry) (claims fills : List Claim) → seen ≡ tree → IsWithin seen
    → claims ≡ all_claims given files → given ≡ rules → files ≡ seen.files → ((byte : ℕ) → painted fills byte ≡ painted claims byte) → IsPainted tree rules fills
is_painted tree seen rules given files claims fills seen_is within claims_are rules_are files_are bytes = record {
  within = subst (λ (t : TreeValue). IsWithin t) seen_is within;
  same = λ byte. bytes byte ∙ ap (λ list. painted list byte)
      (claims_are ∙ ap (λ (list : List Rule). all_claims list files) rules_are ∙ ap (all_claims rules) (files_are ∙ ap (λ (t : TreeValue). t.files) seen_is));
}

-- the least byte that the painted ones share with the guard is that of the plan
pub least_is : (tree seen : TreeValue) (rules : List Rule) (fills : List Claim) (planned : List Range) (answer : Option ℕ) → seen ≡ tree → IsPainted tree rules fills
    → ((byte : ℕ) → covers planned byte ≡ is_some (painted fills byte)) → IsLeast (λ byte. covers planned byte && covers seen.guard byte) answer → answer ≡ guarded_byte tree rules
least_is tree seen rules fills planned answer seen_is done planned_is least =
    guarded-by_least tree rules fills planned answer done.within done.same planned_is
    (subst (λ (t : TreeValue). IsLeast (λ byte. covers planned byte && covers t.guard byte) answer) seen_is least)

-- the refusal names the least byte of the guard that is planned, and its rule
pub names_guarded : (tree : TreeValue) (rules : List Rule) (fills : List Claim) (found number at rule : ℕ)
    → Some found ≡ guarded_byte tree rules → ((byte : ℕ) → painted fills byte ≡ planned_at rules tree.files byte)
    → option_map (λ paint. paint.0) (painted fills found) ≡ Some number
    → ◌≡◌ {A = Result Plan PlanFault} (Err (MeetsGuard found number)) (Err (MeetsGuard at rule))
    → (guarded_byte tree rules ≡ Some at) × (planning_rule rules tree at ≡ Some rule)
names_guarded tree rules fills found number at rule least same painted_by is =
    let bytes : found ≡ at = cc in
    let numbers : number ≡ rule = cc in (
      sym least ∙ ap Some bytes,
      ap (planning_rule rules tree) (sym bytes) ∙ ap (option_map (λ paint. paint.0)) (sym (same found)) ∙ painted_by ∙ ap Some numbers,
    )

-- the refusal names the limit of ranges, which the plan passes
pub names_limit : (tree : TreeValue) (rules : List Rule) (fills : List Claim) (bound : Bound) (number : ℕ) → guarded_byte tree rules ≡ None
    → fills ≡ (plan_of tree rules).ranges → MAX_RANGES < length fills
    → ◌≡◌ {A = Result Plan PlanFault} (Err (Limit Ranges MAX_RANGES)) (Err (Limit bound number))
    → (bound ≡ Ranges) × (number ≡ MAX_RANGES) × HasMoreRanges number tree rules
names_limit tree rules fills bound number unguarded ranges_are more is =
    let bounds : bound ≡ Ranges = cc in
    let numbers : number ≡ MAX_RANGES = cc in
    (bounds, numbers, (unguarded, subst (λ n. n < length (plan_of tree rules).ranges) (sym numbers) (subst (λ list. MAX_RANGES < length list) ranges_are more)))
