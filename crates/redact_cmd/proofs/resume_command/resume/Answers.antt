use Rattle.std.proofs.Common.{◌≡◌, ℕ, List, ap, refl, ◌∙◌}
use Rattle.disk_defs.specs.Disk.{held, size_of}
use Rattle.disk_defs.specs.Stream.{taken_with, TookPrefixOf}
use Rattle.disk_defs.specs.declared.Area.TheVariants.{Image}
use Rattle.redact_cmd.proofs.Resuming.{has_length, held_plan, held_length, fits_refused, carried}
use Rattle.redact_cmd.proofs.resume_command.resume.Goals as goal

pub returns-in-Err-fits-clause-says : goal.returns-in-Err-fits-clause-says
returns-in-Err-fits-clause-says g c =
    let before = g.S.Store.state c.args.store.now in
    let state = c.in-Ok-read_journal.state in
    let read = c.in-Ok-read_journal.ensures in
    fits_refused (held before) before _ _ _ state.plan state.groups state.last c.in-Ok-len.len c.in-Err-fits.fault c.status_of_journal-in-Err-fits.result
    c.status_of_journal-in-Err-fits.ensures c.in-Err-fits.ensures.same c.in-Err-fits.ensures.other
    (held_plan before (g.S.Store.state c.sync.new.self) state c.in-Ok.ensures.done read.told)
    (held_length before (g.S.Store.state c.sync.new.self) c.in-Ok-len.len c.in-Ok.ensures.done (c.in-Ok-len.ensures.size ∙ ap (size_of Image) read.same) (g.met.S.Store.tells_its_sizes c.args.store.now Image))

pub returns-in-Ok-resume-clause-says : goal.returns-in-Ok-resume-clause-says
returns-in-Ok-resume-clause-says g c =
    let before = g.S.Store.state c.args.store.now in
    let synced = g.S.Store.state c.len.new.self in
    let state = c.in-Ok-read_journal.state in
    let read = c.in-Ok-read_journal.ensures in
    let is = c.in-Ok-len.ensures.same ∙ read.same ∙ c.in-Ok.ensures.done in
    let W : List ℕ → Type 0 = λ text. g.K.Sink.taken c.carry_out.new.out ≡ taken_with (g.K.Sink.taken c.args.out.now) text in
    let P : List ℕ → Type 0 = TookPrefixOf (g.K.Sink.taken c.args.out.now) (g.K.Sink.taken c.carry_out.new.out) in
    carried (held before) before synced (g.S.Store.state c.carry_out.new.store) W P state.plan state.groups state.last c.in-Ok-len.len c.in-Ok-resume.session c.carry_out.result refl c.in-Ok-resume.ensures
    (has_length state.plan.image_len c.in-Ok-len.len _ c.in-Ok-fits.ensures.other) is c.carry_out.ensures.says
    (held_plan before (g.S.Store.state c.sync.new.self) state c.in-Ok.ensures.done read.told)
    (held_length before (g.S.Store.state c.sync.new.self) c.in-Ok-len.len c.in-Ok.ensures.done (c.in-Ok-len.ensures.size ∙ ap (size_of Image) read.same) (g.met.S.Store.tells_its_sizes c.args.store.now Image))
