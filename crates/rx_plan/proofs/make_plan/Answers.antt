use Rattle.std.proofs.Common.{ℕ, ◌<◌, ◌≤◌, IsTrue, List, map, length, ◌∙◌, sym, ap, subst, arith}
use Rattle.std.specs.List.{All}
use Rattle.std.specs.Option.{option_map}
use Rattle.range_defs.specs.declared.Claim.{Claim}
use Rattle.range_defs.specs.Claims.{HaveOneFill}
use Rattle.rx_ranges.specs.PlanChecks.{IsPlan}
use Rattle.rx_ranges.specs.declared.plan.Listed.{Listed}
use Rattle.rx_ranges.specs.declared.plan.Plan.{Plan}
use Rattle.rx_ranges.specs.declared.plan.TheConstants.{MAX_RANGES}
use Rattle.rx_tree.specs.NameLimits.{has_few_names}
use Rattle.rx_tree.specs.TreeValue.{TreeValue}
use Rattle.rx_tree.specs.Within.{IsWithin}
use Rattle.rule_defs.specs.declared.Rule.{Rule}
use Rattle.rule_defs.specs.Numbered.{AreNumbered}
use Rattle.plan_defs.specs.Plan.{listed_as, HasPath}
use Rattle.plan_defs.proofs.JournalLaws.{plan-is_plan}
use Rattle.plan_defs.proofs.PlanLaws.{all_claims-in_reach, claims-one_fill, plan-by_parts, ranges-are}
use Rattle.rx_plan.proofs.Refusals.{is_painted, least_is, names_guarded, names_limit}
use Rattle.rx_plan.proofs.make_plan.Goals as goal

pub first_wins-requires-clause-reach : goal.first_wins-requires-clause-reach
first_wins-requires-clause-reach g c =
    let within : IsWithin c.args.tree.now = subst (λ (t : TreeValue). IsWithin t) c.tree.view_is c.tree.invariant.0 in
    all_claims-in_reach c.args.tree.now c.items.result.now c.items-2.result.now _ within
    (c.items-2.ensures.items ∙ ap (λ (t : TreeValue). t.files) c.tree.view_is) c.in_ok-claims.ensures.claims

pub first_wins-requires-clause-one_fill : goal.first_wins-requires-clause-one_fill
first_wins-requires-clause-one_fill g c =
    let numbered : AreNumbered c.items.result.now = subst (λ (rules : List Rule). AreNumbered rules) (sym c.items.ensures.items) c.items.ensures.numbered in
    subst (λ (claims : List Claim). HaveOneFill claims) (sym c.in_ok-claims.ensures.claims) (claims-one_fill c.items.result.now c.items-2.result.now numbered)

pub returns-in-Some-clause-guarded : goal.returns-in-Some-clause-guarded
returns-in-Some-clause-guarded g c = λ at rule is.
    let tree = c.args.tree.now in
    let rules = c.args.rules.now in
    let fills = c.in_ok-ranges.ranges in
    let done = is_painted tree _ rules c.items.result.now c.items-2.result.now _ fills c.tree.view_is c.tree.invariant.0 c.in_ok-claims.ensures.claims c.items.ensures.items c.items-2.ensures.items c.in_ok-ranges.ensures.bytes in
    let guarded_is = least_is tree _ rules fills c.in_ok-planned.planned _ c.tree.view_is done c.in_ok-planned.ensures c.guarded.ensures.least in
    names_guarded tree rules fills c.in-Some.at c.in-Some.rule at rule
    (sym (ap (option_map (λ (found : ℕ × ℕ). found.0)) c.in-Some.is) ∙ guarded_is) done.same c.in-Some.ensures.rule is

pub returns-then-items-gt-MAX_RANGES-clause-limit : goal.returns-then-items-gt-MAX_RANGES-clause-limit
returns-then-items-gt-MAX_RANGES-clause-limit g c = λ bound number is.
    let tree = c.args.tree.now in
    let rules = c.args.rules.now in
    let fills = c.in_ok-ranges.ranges in
    let done = is_painted tree _ rules c.items.result.now c.items-2.result.now _ fills c.tree.view_is c.tree.invariant.0 c.in_ok-claims.ensures.claims c.items.ensures.items c.items-2.ensures.items c.in_ok-ranges.ensures.bytes in
    let guarded_is = least_is tree _ rules fills c.in_ok-planned.planned _ c.tree.view_is done c.in_ok-planned.ensures c.guarded.ensures.least in
    let more : MAX_RANGES < length fills = omega (arith, ap length c.items-3.ensures.items, c.if-items-gt-MAX_RANGES.true) in
    names_limit tree rules fills bound number (sym guarded_is ∙ ap (option_map (λ (found : ℕ × ℕ). found.0)) c.in_default.is)
    (ranges-are tree rules fills done.within c.in_ok-ranges.ensures.kept done.same) more is

pub returns-clause-plan : goal.returns-clause-plan
returns-clause-plan g c =
    let tree = c.args.tree.now in
    let rules = c.args.rules.now in
    let fills = c.in_ok-ranges.ranges in
    let done = is_painted tree _ rules c.items.result.now c.items-2.result.now _ fills c.tree.view_is c.tree.invariant.0 c.in_ok-claims.ensures.claims c.items.ensures.items c.items-2.ensures.items c.in_ok-ranges.ensures.bytes in
    let listed_are = c.deref.ensures.value ∙ c.in_ok-claims.ensures.listed ∙ ap (λ (list : List Rule). map (listed_as list) c.items-2.result.now) c.items.ensures.items
    ∙ ap (map (listed_as rules)) (c.items-2.ensures.items ∙ ap (λ (t : TreeValue). t.files) c.tree.view_is) in
    ap (λ (t : TreeValue). record { image_len = t.image_len; ranges = fills; listing = c.from_vec.result }) c.tree.view_is
    ∙ plan-by_parts tree rules fills c.from_vec.result done.within c.in_ok-ranges.ensures.kept done.same
    (c.from_vec.ensures ∙ c.in_ok-lines.ensures.lines rules listed_are)

pub returns-clause-is_plan : goal.returns-clause-is_plan
returns-clause-is_plan g c =
    let tree = c.args.tree.now in
    let rules = c.args.rules.now in
    let is = returns-clause-plan g c in
    let within : IsWithin tree = subst (λ (t : TreeValue). IsWithin t) c.tree.view_is c.tree.invariant.0 in
    let few_names : IsTrue (has_few_names tree.files) = subst (λ (t : TreeValue). IsTrue (has_few_names t.files)) c.tree.view_is c.tree.invariant.2 in
    let few : length c.in_ok-ranges.ranges ≤ MAX_RANGES = omega (arith, ap length c.items-3.ensures.items, c.if-items-gt-MAX_RANGES.false) in
    let paths : All HasPath c.from_vec.result = subst (λ (list : List Listed). All HasPath list) (sym c.from_vec.ensures) c.in_ok-lines.ensures.paths in
    subst IsPlan (sym is) (plan-is_plan tree rules within few_names c.items.ensures.numbered c.items.ensures.few
    (subst (λ (plan : Plan). length plan.ranges ≤ MAX_RANGES) is few) (subst (λ (plan : Plan). All HasPath plan.listing) is paths))

pub returns-clause-unguarded : goal.returns-clause-unguarded
returns-clause-unguarded g c =
    let tree = c.args.tree.now in
    let rules = c.args.rules.now in
    let fills = c.in_ok-ranges.ranges in
    let done = is_painted tree _ rules c.items.result.now c.items-2.result.now _ fills c.tree.view_is c.tree.invariant.0 c.in_ok-claims.ensures.claims c.items.ensures.items c.items-2.ensures.items c.in_ok-ranges.ensures.bytes in
    let guarded_is = least_is tree _ rules fills c.in_ok-planned.planned _ c.tree.view_is done c.in_ok-planned.ensures c.guarded.ensures.least in
    sym guarded_is ∙ ap (option_map (λ (found : ℕ × ℕ). found.0)) c.in_default.is
