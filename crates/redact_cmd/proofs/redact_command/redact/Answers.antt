use Rattle.std.proofs.Common.{◌≡◌, ℕ, List, IfSome, length, Err, ap, inl, inr, refl, sym, subst, ◌∙◌}
use Rattle.disk_defs.specs.Disk.{held, size_of, told_image, told_journal}
use Rattle.journal_format.specs.Says.{TellsIfOpen}
use Rattle.disk_defs.specs.Stream.{taken_with, TookPrefixOf}
use Rattle.disk_defs.specs.declared.Area.TheVariants.{Image, Journal}
use Rattle.journal_defs.specs.Form.{IsOpen}
use Rattle.redact_cmd.specs.Stages.{HasPlan, RefusesPlan}
use Rattle.cmd_defs.proofs.StoreLaws.{of_area, of_synced}
use Rattle.redact_cmd.proofs.Redacting.{no_rules, failed_before, journal_open, no_plan, begun_sizes, carried}
use Rattle.redact_cmd.proofs.redact_command.redact.Goals as goal

pub returns-in-Err-clause-says : goal.returns-in-Err-clause-says
returns-in-Err-clause-says g c =
    no_rules _ _ _ _ _ _ c.in-Err.fault c.status_of_rules.result c.status_of_rules.ensures (λ is. c.in-Err.ensures.other (ap Err is))

pub returns-in-Err-sync-clause-says : goal.returns-in-Err-sync-clause-says
returns-in-Err-sync-clause-says g c =
    failed_before _ (held (g.S.Store.state c.args.store.now)) (g.S.Store.state c.args.store.now) (g.S.Store.state c.sync.new.self) (λ text. Unit {0}) (λ text. Unit {0}) c.in-Ok.rules c.in-Ok.ensures.read (inl c.in-Err-sync.ensures.failed)

pub returns-in-Ok-true-clause-says : goal.returns-in-Ok-true-clause-says
returns-in-Ok-true-clause-says g c =
    let before = g.S.Store.state c.args.store.now in
    journal_open _ (held before) before (g.S.Store.state c.stands_open.new.store) (λ text. Unit {0}) (λ text. Unit {0}) c.in-Ok.rules c.in-Ok.ensures.read
    (of_synced Journal before (g.S.Store.state c.sync.new.self) IsOpen c.in-Ok-sync.ensures.done
    (subst (λ answer. IfSome (told_journal (g.S.Store.state c.sync.new.self)) (TellsIfOpen answer)) c.in-Ok-true.field-0-test c.in-Ok-true.ensures.told))

pub returns-in-Err-stands_open-clause-says : goal.returns-in-Err-stands_open-clause-says
returns-in-Err-stands_open-clause-says g c =
    let before = g.S.Store.state c.args.store.now in
    failed_before _ (held before) before (g.S.Store.state c.stands_open.new.store) (λ text. Unit {0}) (λ text. Unit {0}) c.in-Ok.rules c.in-Ok.ensures.read
    (inr (c.in-Err-stands_open.ensures.same ∙ c.in-Ok-sync.ensures.done))

pub returns-in-Err-planned-clause-says : goal.returns-in-Err-planned-clause-says
returns-in-Err-planned-clause-says g c =
    let before = g.S.Store.state c.args.store.now in
    let is = c.in-Ok-false.ensures.same ∙ c.in-Ok-sync.ensures.done in
    no_plan _ (held before) before (g.S.Store.state c.planned.new.store) _ _ c.in-Ok.rules c.in-Err-planned.status c.in-Ok.ensures.read (inr (c.in-Err-planned.ensures.same ∙ is))
    (of_synced Journal before (g.S.Store.state c.sync.new.self) (λ bytes. ¬ (IsOpen bytes)) c.in-Ok-sync.ensures.done
    (subst (λ answer. IfSome (told_journal (g.S.Store.state c.sync.new.self)) (TellsIfOpen answer)) c.in-Ok-false.field-0-test c.in-Ok-false.ensures.told))
    (of_synced Image before (g.S.Store.state c.stands_open.new.store) (λ image. RefusesPlan c.in-Err-planned.status image c.in-Ok.rules) is c.in-Err-planned.ensures.refused)

pub carry_out-requires-clause-sizes : goal.carry_out-requires-clause-sizes
carry_out-requires-clause-sizes g c =
    begun_sizes c.in-Ok-planned.plan c.in-Ok-begin.session (g.S.Store.state c.planned.new.store) c.in-Ok-begin.ensures
    (ap (size_of Image) c.in-Ok-planned.ensures.same ∙ sym c.in-Ok-planned.ensures.sized)

pub returns-in-Ok-begin-clause-says : goal.returns-in-Ok-begin-clause-says
returns-in-Ok-begin-clause-says g c =
    let before = g.S.Store.state c.args.store.now in
    let is = c.in-Ok-false.ensures.same ∙ c.in-Ok-sync.ensures.done in
    let plan = c.in-Ok-planned.plan in
    let W : List ℕ → Type 0 = λ text. g.K.Sink.taken c.carry_out.new.out ≡ taken_with (g.K.Sink.taken c.args.out.now) text in
    let P : List ℕ → Type 0 = TookPrefixOf (g.K.Sink.taken c.args.out.now) (g.K.Sink.taken c.carry_out.new.out) in
    carried _ (held before) before (g.S.Store.state c.planned.new.store) (g.S.Store.state c.carry_out.new.store) W P c.in-Ok.rules plan c.in-Ok-begin.session c.carry_out.result refl
    c.in-Ok-planned.ensures.is_plan c.in-Ok-begin.ensures (c.in-Ok-planned.ensures.same ∙ is) c.carry_out.ensures.says c.in-Ok.ensures.read
    (of_synced Journal before (g.S.Store.state c.sync.new.self) (λ bytes. ¬ (IsOpen bytes)) c.in-Ok-sync.ensures.done
    (subst (λ answer. IfSome (told_journal (g.S.Store.state c.sync.new.self)) (TellsIfOpen answer)) c.in-Ok-false.field-0-test c.in-Ok-false.ensures.told))
    (of_synced Image before (g.S.Store.state c.stands_open.new.store) (λ image. HasPlan image c.in-Ok.rules plan) is c.in-Ok-planned.ensures.made)
    (of_area Image (held before) (λ bytes. length bytes ≡ plan.image_len)
    (subst (λ size. IfSome (told_image before) (λ bytes. length bytes ≡ size)) (sym (c.in-Ok-planned.ensures.sized ∙ ap (size_of Image) is)) (g.met.S.Store.tells_its_sizes c.args.store.now Image)))
