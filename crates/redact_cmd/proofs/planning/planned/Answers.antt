use Rattle.std.proofs.Common.{ap, Err}
use Rattle.disk_defs.specs.Disk.{size_of, told_image}
use Rattle.disk_defs.specs.declared.Area.TheVariants.{Image}
use Rattle.redact_cmd.proofs.PlanLaws.{sized_plan, plan_refused}
use Rattle.redact_cmd.proofs.planning.planned.Goals as goal

pub returns-in-Ok-make_plan-clause-sized : goal.returns-in-Ok-make_plan-clause-sized
returns-in-Ok-make_plan-clause-sized g c =
    sized_plan c.in-Ok.tree c.args.rules.now c.in-Ok-make_plan.plan (size_of Image (g.S.Store.state c.args.store.now)) c.in-Ok-make_plan.ensures.plan c.in-Ok.ensures.sized

pub returns-clause-refused : goal.returns-clause-refused
returns-clause-refused g c =
    plan_refused (told_image (g.S.Store.state c.args.store.now)) c.args.rules.now c.in-Ok.tree c.in-Err-make_plan.fault c.status_of_planning.result
    c.status_of_planning.ensures c.in-Ok.ensures.told (λ at rule is. c.in-Err-make_plan.ensures.guarded at rule (ap Err is))
    (λ bound number is. c.in-Err-make_plan.ensures.limit bound number (ap Err is))
