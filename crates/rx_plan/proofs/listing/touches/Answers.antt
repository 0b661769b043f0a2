use Rattle.std.proofs.Common.{◌≡◌, ◌∙◌, rules}
use Rattle.std.proofs.lemmas.List.Elements.{All-same}
use Rattle.range_defs.specs.Places.{EndsInReach}
use Rattle.range_defs.specs.declared.TheConstants.{REACH}
use Rattle.plan_defs.specs.Plan.{touched_ranges}
use Rattle.plan_defs.proofs.PlanLaws.{touched_ranges-within, touches-by_any}
use Rattle.rx_plan.proofs.listing.touches.Goals as goal

pub any_meets-requires : goal.any_meets-requires
any_meets-requires c =
    let file = c.args.file.now in
    let ranges_are : c.push_touched_ranges.new.ranges.items ≡ touched_ranges file = search rules in
    All-same EndsInReach _ (touched_ranges file) (c.deref.ensures.value ∙ ranges_are) (touched_ranges-within REACH file c.requires)

pub returns : goal.returns
returns c =
    λ len within.
    let file = c.args.file.now in
    let ranges_are : c.push_touched_ranges.new.ranges.items ≡ touched_ranges file = search rules in
    touches-by_any len file c.args.fills.now c.deref.result.now c.any_meets.result within (c.deref.ensures.value ∙ ranges_are) c.any_meets.ensures
