-- What is said where a plan was made or not.
use Rattle.std.proofs.Common.{◌≡◌, ◌≤◌, ◌∙◌, ap, length, refl, sym, subst, ℕ, Option, Some, None, IfSome, Ok, List, inr}
use Rattle.fault_defs.specs.declared.Bound.{Bound}
use Rattle.fault_defs.specs.declared.Bound.TheVariants.{Ranges}
use Rattle.rx_ranges.specs.PlanChecks.{IsPlan}
use Rattle.rx_ranges.specs.declared.plan.Plan.{Plan}
use Rattle.rx_ranges.specs.declared.plan.TheConstants.{MAX_RANGES}
use Rattle.rule_defs.specs.declared.Rule.{Rule}
use Rattle.rule_defs.specs.Reads.{Reads}
use Rattle.rx_tree.specs.TreeValue.{TreeValue}
use Rattle.plan_defs.specs.Plan.{plan_of, guarded_byte, planning_rule, HasMoreRanges}
use Rattle.text_defs.specs.Report.{report}
use Rattle.text_defs.specs.declared.ReportState.TheVariants.{Planned}
use Rattle.cmd_defs.specs.declared.status.Status.{Status}
use Rattle.cmd_defs.specs.declared.status.Status.TheVariants.{Done, PlanRefused, SinkFault}
use Rattle.cmd_defs.specs.declared.status.PlanRefusal.TheVariants.{MeetsGuard}
use Rattle.cmd_defs.specs.Outcome.{IfBothTold}
use Rattle.cmd_defs.specs.PlanCommand.{PlanSays, HasReport}
use Rattle.rx_plan.specs.declared.PlanFault.{PlanFault}
use Rattle.rx_plan.specs.declared.PlanFault.TheVariants as plan
use Rattle.image_reader.specs.Says.{HasTree}
use Rattle.redact_cmd.specs.Stages.{HasPlan, RefusesPlan, status_of_planning}

-- ---- a plan that was not made

-- what a refusal of a plan says of the tree and its rules
abbrev NamesGuarded : TreeValue → List Rule → PlanFault → Type 0
NamesGuarded tree rules fault =
    (at rule : ℕ) → fault ≡ plan.MeetsGuard at rule → (guarded_byte tree rules ≡ Some at) × (planning_rule rules tree at ≡ Some rule)

abbrev NamesLimit : TreeValue → List Rule → PlanFault → Type 0
NamesLimit tree rules fault =
    (bound : Bound) (number : ℕ) → fault ≡ plan.Limit bound number → (bound ≡ Ranges) × (number ≡ MAX_RANGES) × HasMoreRanges number tree rules

refuses : (image : List ℕ) (rules : List Rule) (tree : TreeValue) (fault : PlanFault) → HasTree image (Ok tree) → NamesGuarded tree rules fault → NamesLimit tree rules fault
    → RefusesPlan (status_of_planning fault) image rules
refuses image rules tree (plan.MeetsGuard at rule) tree_is guarded limit = λ text reads.
    let meets = guarded at rule refl in
    (rules, tree, record { reads = reads; no_other = tree_is.0; tree_is = tree_is.1 }, meets.0, meets.1)
refuses image rules tree (plan.Limit bound number) tree_is guarded limit = λ text reads.
    let passed = limit bound number refl in
    inr (rules, tree, record { reads = reads; no_other = tree_is.0; tree_is = tree_is.1 }, passed.0, passed.1, passed.2)
refuses image rules tree plan.NoMemory tree_is guarded limit = λ text reads. tt

pub plan_refused : (image : Option (List ℕ)) (rules : List Rule) (tree : TreeValue) (fault : PlanFault) (status : Status) → status ≡ status_of_planning fault
    → IfSome image (λ i. HasTree i (Ok tree)) → NamesGuarded tree rules fault → NamesLimit tree rules fault → IfSome image (λ i. RefusesPlan status i rules)
plan_refused None rules tree fault status is tree_is guarded limit = tt
plan_refused (Some i) rules tree fault status is tree_is guarded limit =
    subst (λ status. RefusesPlan status i rules) (sym is) (refuses i rules tree fault tree_is guarded limit)

-- a status that says of no report says the same whatever was written
silent_says : (text image : List ℕ) (W P : List ℕ → Type 0) (status : Status) → PlanSays status text image (λ report. ⊥) (λ report. ⊥) → PlanSays status text image W P
silent_says text image W P Done says = absurd says.5
silent_says text image W P SinkFault says = absurd says.5
silent_says text image W P (PlanRefused (MeetsGuard byte number)) says = says
silent_says text image W P status says = says

pub not_planned : (text image : Option (List ℕ)) (W P : List ℕ → Type 0) (rules : List Rule) (status : Status) → IfSome text (λ t. Reads t rules)
    → IfSome image (λ i. RefusesPlan status i rules) → IfBothTold text image (λ t i. PlanSays status t i W P)
not_planned None image W P rules status reads refused = tt
not_planned (Some t) None W P rules status reads refused = tt
not_planned (Some t) (Some i) W P rules status reads refused = silent_says t i W P status (refused t reads)

-- ---- a plan that was made

-- the plan of a tree has the length of the tree's image
plan_len : (tree : TreeValue) (rules : List Rule) → (plan_of tree rules).image_len ≡ tree.image_len
unfolding plan_of
plan_len tree rules = refl

pub sized_plan : (tree : TreeValue) (rules : List Rule) (plan : Plan) (size : ℕ) → plan ≡ plan_of tree rules → tree.image_len ≡ size → plan.image_len ≡ size
sized_plan tree rules plan size is sized = ap (λ (plan : Plan). plan.image_len) is ∙ plan_len tree rules ∙ sized

-- where the report was written, or some first bytes of it
pub reported : (text image : Option (List ℕ)) (W : List ℕ → Type 0) (rules : List Rule) (plan : Plan) → IfSome text (λ t. Reads t rules)
    → IfSome image (λ i. HasPlan i rules plan) → IsPlan plan → W (report plan Planned) → IfBothTold text image (λ t i. HasReport t i W)
reported None image W rules plan reads has is_plan wrote = tt
reported (Some t) None W rules plan reads has is_plan wrote = tt
reported (Some t) (Some i) W rules plan reads (tree, tree_is, unguarded, is) is_plan wrote = (
  rules,
  tree,
  record { reads = reads; no_other = tree_is.0; tree_is = tree_is.1 },
  unguarded,
  subst (λ (plan : Plan). length plan.ranges ≤ MAX_RANGES) is is_plan.few_ranges,
  subst (λ plan. W (report plan Planned)) is wrote,
)
