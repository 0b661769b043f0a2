use Rattle.std.proofs.Common.{◌≡◌, ℕ, List, Err, ap}
use Rattle.disk_defs.specs.Stream.{taken_with, TookPrefixOf}
use Rattle.redact_cmd.proofs.Says.{rules_refused}
use Rattle.redact_cmd.proofs.PlanLaws.{not_planned, reported}
use Rattle.redact_cmd.proofs.plan_command.plan.Goals as goal

pub returns-in-Err-clause-says : goal.returns-in-Err-clause-says
returns-in-Err-clause-says g c = rules_refused _ _ _ _ c.in-Err.fault c.status_of_rules.result c.status_of_rules.ensures (λ is. c.in-Err.ensures.other (ap Err is))

pub returns-in-Err-planned-clause-says : goal.returns-in-Err-planned-clause-says
returns-in-Err-planned-clause-says g c = not_planned _ _ _ _ c.in-Ok.rules c.in-Err-planned.status c.in-Ok.ensures.read c.in-Err-planned.ensures.refused

pub returns-in-Ok-write_report-clause-says : goal.returns-in-Ok-write_report-clause-says
returns-in-Ok-write_report-clause-says g c =
    let W : List ℕ → Type 0 = λ text. g.K.Sink.taken c.write_report.new.sink ≡ taken_with (g.K.Sink.taken c.args.out.now) text in
    reported _ _ W c.in-Ok.rules c.in-Ok-planned.plan c.in-Ok.ensures.read c.in-Ok-planned.ensures.made c.in-Ok-planned.ensures.is_plan c.in-Ok-write_report.ensures.taken

pub returns-clause-says : goal.returns-clause-says
returns-clause-says g c =
    let P : List ℕ → Type 0 = TookPrefixOf (g.K.Sink.taken c.args.out.now) (g.K.Sink.taken c.write_report.new.sink) in
    reported _ _ P c.in-Ok.rules c.in-Ok-planned.plan c.in-Ok.ensures.read c.in-Ok-planned.ensures.made c.in-Ok-planned.ensures.is_plan c.in-Err-write_report.ensures.prefix
