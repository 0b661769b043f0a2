use Rattle.std.proofs.Common.{◌∙◌, [], IfSome, ap, arith, subst}
use Rattle.std.proofs.lemmas.Result.{err_from_is_err_and}
use Rattle.disk_defs.specs.Disk.{State, size_of, told_of}
use Rattle.disk_defs.specs.declared.Area.TheVariants.{Journal}
use Rattle.journal_format.specs.Parts.{Always}
use Rattle.journal_format.specs.Says.{FailsWith}
use Rattle.journal_format.proofs.PartLaws.{part_to, part_told}
use Rattle.journal_format.proofs.Whole.{marks_there, no_check_told, state_is, told_fault, told_state}
use Rattle.journal_format.proofs.decode.read_state.Goals as goal

pub returns-in_err-plan-clause-told : goal.returns-in_err-plan-clause-told
returns-in_err-plan-clause-told g c =
    let fault = err_from_is_err_and c.from_residual-in_err-plan.result c.from_residual-in_err-plan.ensures.1 in
    rw (fault.1, fault.2) (told_fault (told_of Journal (g.S.Store.state c.args.store.now)) (size_of Journal (g.S.Store.state c.args.store.now)) c.args.header.now c.in_err-plan.field-0.0 (omega (arith, c.requires.fits, c.requires.len))
    (g.met.S.Store.tells_its_sizes c.args.store.now Journal) c.requires.header c.in_err-plan.ensures.read)

pub returns-in_err-groups-clause-told : goal.returns-in_err-groups-clause-told
returns-in_err-groups-clause-told g c =
    let fault = err_from_is_err_and c.from_residual-in_err-groups.result c.from_residual-in_err-groups.ensures.1 in
    let Fails : State → Type 0 = λ state. IfSome (told_of Journal state) (λ journal. Always journal → FailsWith [] c.in_err-groups.field-0.0) in
    rw (fault.1, fault.2) (no_check_told (told_of Journal (g.S.Store.state c.args.store.now)) c.in_err-groups.field-0.0 (subst Fails c.in_ok-plan.ensures.same c.in_err-groups.ensures.read))

pub returns-in_err-last-clause-told : goal.returns-in_err-last-clause-told
returns-in_err-last-clause-told g c =
    let fault = err_from_is_err_and c.from_residual-in_err-last.result c.from_residual-in_err-last.ensures.1 in
    let Fails : State → Type 0 = λ state. IfSome (told_of Journal state) (λ journal. Always journal → FailsWith [] c.in_err-last.field-0.0) in
    rw (fault.1, fault.2) (no_check_told (told_of Journal (g.S.Store.state c.args.store.now)) c.in_err-last.field-0.0 (subst Fails (c.in_ok-groups.ensures.same ∙ c.in_ok-plan.ensures.same) c.in_err-last.ensures.read))

pub returns-clause-told : goal.returns-clause-told
returns-clause-told g c =
    let told = told_of Journal (g.S.Store.state c.args.store.now) in
    let size = size_of Journal (g.S.Store.state c.args.store.now) in
    let read =
    part_to size (omega (arith, c.requires.fits, c.requires.len, c.listing_end-marks.ensures, c.groups-count.ensures))
    (marks_there told size c.listing_end-marks.result c.groups-count.result c.args.header.now c.in_ok-plan.plan c.in_ok-groups.groups c.in_ok-last.last c.listing_end-marks.ensures c.groups-count.ensures c.in_ok-plan.ensures.read
    (part_told (ap (told_of Journal) c.in_ok-plan.ensures.same) c.in_ok-groups.ensures.read) (part_told (ap (told_of Journal) (c.in_ok-groups.ensures.same ∙ c.in_ok-plan.ensures.same)) c.in_ok-last.ensures.read)) in
    told_state told size c.in_ok-plan.plan c.in_ok-groups.groups c.in_ok-last.last (omega (arith, c.requires.fits, c.requires.len)) (g.met.S.Store.tells_its_sizes c.args.store.now Journal) read

pub returns-clause-state : goal.returns-clause-state
returns-clause-state g c =
    let told = told_of Journal (g.S.Store.state c.args.store.now) in
    let size = size_of Journal (g.S.Store.state c.args.store.now) in
    let read =
    part_to size (omega (arith, c.requires.fits, c.requires.len, c.listing_end-marks.ensures, c.groups-count.ensures))
    (marks_there told size c.listing_end-marks.result c.groups-count.result c.args.header.now c.in_ok-plan.plan c.in_ok-groups.groups c.in_ok-last.last c.listing_end-marks.ensures c.groups-count.ensures c.in_ok-plan.ensures.read
    (part_told (ap (told_of Journal) c.in_ok-plan.ensures.same) c.in_ok-groups.ensures.read) (part_told (ap (told_of Journal) (c.in_ok-groups.ensures.same ∙ c.in_ok-plan.ensures.same)) c.in_ok-last.ensures.read)) in
    state_is size c.in_ok-plan.plan c.in_ok-groups.groups c.in_ok-last.last (omega (arith, c.requires.fits, c.requires.len)) read
