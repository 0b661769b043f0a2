use Rattle.std.proofs.Common.{ap, subst, IfSome}
use Rattle.journal_defs.specs.Checks.{lines_checks}
use Rattle.journal_format.specs.Parts.{Always}
use Rattle.journal_format.specs.Says.{FailsWith}
use Rattle.std.proofs.lemmas.Result.{err_from_is_err_and}
use Rattle.disk_defs.specs.Disk.{State, told_of}
use Rattle.disk_defs.specs.declared.Area.TheVariants.{Journal}
use Rattle.journal_format.proofs.PartLaws.{part_told}
use Rattle.journal_format.proofs.Whole.{lines_told, plan_there, ranges_kept, ranges_reach, ranges_there, ranges_told}
use Rattle.journal_format.proofs.decode.read_plan.Goals as goal

pub returns-in_err-ranges-clause-read : goal.returns-in_err-ranges-clause-read
returns-in_err-ranges-clause-read g c =
    let fault = err_from_is_err_and c.from_residual.result c.from_residual.ensures.1 in
    rw (fault.1, fault.2) (ranges_told (told_of Journal (g.S.Store.state c.args.store.now)) _ _ c.args.header.now c.in_err-ranges.field-0.0 c.from.ensures c.requires.header c.in_err-ranges.ensures.read)

pub returns-in_err-lines-clause-read : goal.returns-in_err-lines-clause-read
returns-in_err-lines-clause-read g c =
    let fault = err_from_is_err_and c.from_residual-in_err-lines.result c.from_residual-in_err-lines.ensures.1 in
    let ranges = ranges_there _ _ c.args.header.now c.in_ok-ranges.ranges.items c.from.ensures c.requires.header c.in_ok-ranges.ensures.read in
    let Fails : State → Type 0 = λ state. IfSome (told_of Journal state) (λ journal. Always journal → FailsWith (lines_checks journal c.listing_end-end.result c.listing-begin.result c.args.header.now.lines) c.in_err-lines.field-0.0) in
    rw (fault.1, fault.2) (lines_told (told_of Journal (g.S.Store.state c.args.store.now)) _ _ _ c.args.header.now c.in_ok-ranges.ranges.items c.in_err-lines.field-0.0 c.listing-begin.ensures c.listing_end-end.ensures ranges
    (subst Fails c.in_ok-ranges.ensures.same c.in_err-lines.ensures.read))

pub from_sorted-requires-clause-kept : goal.from_sorted-requires-clause-kept
from_sorted-requires-clause-kept g c =
    ranges_kept _ c.args.header.now c.in_ok-ranges.ranges.items (ranges_there _ _ c.args.header.now c.in_ok-ranges.ranges.items c.from.ensures c.requires.header c.in_ok-ranges.ensures.read)

pub from_sorted-requires-clause-reach : goal.from_sorted-requires-clause-reach
from_sorted-requires-clause-reach g c =
    ranges_reach _ c.args.header.now c.in_ok-ranges.ranges.items (ranges_there _ _ c.args.header.now c.in_ok-ranges.ranges.items c.from.ensures c.requires.header c.in_ok-ranges.ensures.read)

pub returns-clause-read : goal.returns-clause-read
returns-clause-read g c =
    let ranges = ranges_there _ _ c.args.header.now c.in_ok-ranges.ranges.items c.from.ensures c.requires.header c.in_ok-ranges.ensures.read in
    plan_there (told_of Journal (g.S.Store.state c.args.store.now)) _ _ _ c.args.header.now c.in_ok-ranges.ranges.items _ c.in_ok-lines.lines.items _ c.listing-begin.ensures c.listing_end-end.ensures c.from_sorted.ensures c.from_vec.ensures ranges
    (part_told (ap (told_of Journal) c.in_ok-ranges.ensures.same) c.in_ok-lines.ensures.read)
