use Rattle.std.proofs.Common.{arith}
use Rattle.ufs_inode.proofs.Bounds.{reach_fits}
use Rattle.ufs_inode.proofs.tested.reach_of.Goals as goal

pub overflow_mul-result-4 : goal.overflow_mul-result-4
overflow_mul-result-4 c = omega (arith, reach_fits c.from.result c.from-count.result (omega arith) (omega arith))
