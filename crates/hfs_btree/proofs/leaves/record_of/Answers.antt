use Rattle.std.proofs.Common.{arith}
use Rattle.hfs_btree.proofs.Nodes.{place_fits}
use Rattle.hfs_btree.proofs.leaves.record_of.Goals as goal

pub overflow_mul-from : goal.overflow_mul-from
overflow_mul-from c = omega (arith, place_fits c.from.result _ _ (omega (arith, c.from.ensures, c.ranges.number.fits)) c.requires.short c.record_offset-begin.ensures.short)

pub overflow_add-from : goal.overflow_add-from
overflow_add-from c = omega (arith, place_fits c.from.result _ _ (omega (arith, c.from.ensures, c.ranges.number.fits)) c.requires.short c.record_offset-begin.ensures.short)
