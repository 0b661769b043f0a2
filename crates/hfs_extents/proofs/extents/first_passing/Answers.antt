use Rattle.std.specs.Prelude.{◌+◌}
use Rattle.std.proofs.Common.{sym, ◌∙◌}
use Rattle.hfs_defs.specs.Forks.{written_from}
use Rattle.hfs_extents.proofs.ExtentLaws.{written_in, passing-front, passing-behind, passing-found, passing-more}
use Rattle.hfs_extents.proofs.extents.first_passing.Goals as goal

pub returns-in-Some : goal.returns-in-Some
returns-in-Some c = sym (passing-front c.args.total (written_from (c.args.place + 16) c.args.fork.now.extents) (written_in c.args.records.now) c.in-Some.at (sym c.in-Some.ensures))

pub loop-record-init : goal.loop-record-init
loop-record-init c = passing-behind c.args.total (written_from (c.args.place + 16) c.args.fork.now.extents) (written_in c.args.records.now) (sym c.in_default.ensures)

pub returns-in-Some-passing_in : goal.returns-in-Some-passing_in
returns-in-Some-passing_in c =
    sym (c.loop-record.invariant ∙ passing-found c.args.total c.args.records.now c.loop-record.record-index _ c.in-Some-passing_in.at c.loop-record-test.true (sym c.in-Some-passing_in.ensures))

pub loop-record-preserved : goal.loop-record-preserved
loop-record-preserved c = c.loop-record.invariant ∙ passing-more c.args.total c.args.records.now c.loop-record.record-index _ c.loop-record-test.true (sym c.in_default-passing_in.ensures)
