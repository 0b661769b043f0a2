use Rattle.std.proofs.Common.{sym, ◌∙◌, arith}
use Rattle.hfs_btree.proofs.Nodes.{records_more}
use Rattle.hfs_btree.proofs.node.are_records.Goals as goal

pub loop-i-preserved : goal.loop-i-preserved
loop-i-preserved c = c.loop-i.invariant ∙ records_more _ _ _ (omega (arith, c.loop-i-test.true, c.from-count.ensures, c.u16_at.ensures)) (sym c.is_record.ensures ∙ c.if-not-is_record.false)
