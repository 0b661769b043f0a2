use Rattle.std.proofs.Common.{List, subst, sym, ◌∙◌}
use Rattle.hfs_defs.specs.declared.forks.OverflowRecord.{OverflowRecord}
use Rattle.hfs_extents.specs.Extents.{AreNear}
use Rattle.hfs_extents.proofs.NearLaws.{records_near}
use Rattle.hfs_extents.proofs.overflow.fork_pieces.Goals as goal

pub pieces_and_slack-requires-clause-records_near : goal.pieces_and_slack-requires-clause-records_near
pieces_and_slack-requires-clause-records_near c =
    records_near c.items.result.now c.deref.result.now c.args.file c.args.fork_type (let P : List OverflowRecord → Type 0 = λ list. AreNear list in subst P (sym c.items.ensures) c.overflow.invariant.near) (c.deref.ensures.value ∙ c.in_ok-records.ensures)
