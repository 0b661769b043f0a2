use Rattle.std.proofs.Common.{◌≡◌, ℕ, List}
use Rattle.disk_defs.specs.Stream.{taken_with, TookPrefixOf}
use Rattle.cmd_defs.proofs.PlanAnswerLaw.{is_the_answer}
use Rattle.cmd_defs.proofs.JournalAnswers.{redact_completes, resume_completes, report_completes}
use Rattle.redact_cmd.proofs.Kept.{redact_keeps}
use Rattle.redact_cmd.proofs.commands.run.Goals as goal

pub returns-in-Some-Plan-clause-complete : goal.returns-in-Some-Plan-clause-complete
returns-in-Some-Plan-clause-complete g c = λ _.
    let e = c.plan.ensures in
    let W : List ℕ → Type 0 = λ report. g.K.Sink.taken c.plan.new.out ≡ taken_with (g.K.Sink.taken c.args.out.now) report in
    let P : List ℕ → Type 0 = TookPrefixOf (g.K.Sink.taken c.args.out.now) (g.K.Sink.taken c.plan.new.out) in
    is_the_answer _ _ _ _ _ _ W P e.says e.device e.source e.sink

pub returns-in-Some-Redact-clause-complete_redact : goal.returns-in-Some-Redact-clause-complete_redact
returns-in-Some-Redact-clause-complete_redact g c = λ _.
    let e = c.redact.ensures in
    let W : List ℕ → Type 0 = λ report. g.K.Sink.taken c.redact.new.out ≡ taken_with (g.K.Sink.taken c.args.out.now) report in
    let P : List ℕ → Type 0 = TookPrefixOf (g.K.Sink.taken c.args.out.now) (g.K.Sink.taken c.redact.new.out) in
    redact_completes _ _ (g.S.Store.state c.args.store.now) (g.S.Store.state c.redact.new.store) _ _ _ _ W P e.says e.device e.source e.sink

pub returns-in-Some-Resume-clause-complete_resume : goal.returns-in-Some-Resume-clause-complete_resume
returns-in-Some-Resume-clause-complete_resume g c = λ _.
    let e = c.resume.ensures in
    let W : List ℕ → Type 0 = λ report. g.K.Sink.taken c.resume.new.out ≡ taken_with (g.K.Sink.taken c.args.out.now) report in
    let P : List ℕ → Type 0 = TookPrefixOf (g.K.Sink.taken c.args.out.now) (g.K.Sink.taken c.resume.new.out) in
    resume_completes _ (g.S.Store.state c.args.store.now) (g.S.Store.state c.resume.new.store) _ _ _ W P e.says e.device e.sink

pub returns-in-Some-Report-clause-complete_report : goal.returns-in-Some-Report-clause-complete_report
returns-in-Some-Report-clause-complete_report g c = λ _.
    let e = c.report.ensures in
    let W : List ℕ → Type 0 = λ report. g.K.Sink.taken c.report.new.out ≡ taken_with (g.K.Sink.taken c.args.out.now) report in
    let P : List ℕ → Type 0 = TookPrefixOf (g.K.Sink.taken c.args.out.now) (g.K.Sink.taken c.report.new.out) in
    report_completes _ _ _ _ W P e.says e.device e.sink

pub returns-in-Some-Redact-clause-keeps_tree : goal.returns-in-Some-Redact-clause-keeps_tree
returns-in-Some-Redact-clause-keeps_tree g c = λ _ done.
    let e = c.redact.ensures in
    let W : List ℕ → Type 0 = λ report. g.K.Sink.taken c.redact.new.out ≡ taken_with (g.K.Sink.taken c.args.out.now) report in
    let P : List ℕ → Type 0 = TookPrefixOf (g.K.Sink.taken c.args.out.now) (g.K.Sink.taken c.redact.new.out) in
    redact_keeps _ _ (g.S.Store.state c.args.store.now) (g.S.Store.state c.redact.new.store) W P _ e.says done
