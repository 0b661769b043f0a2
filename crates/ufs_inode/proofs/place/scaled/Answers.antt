use Rattle.std.proofs.Common.{arith}
use Rattle.ufs_inode.proofs.Bounds.{scaled_bound}
use Rattle.ufs_inode.proofs.place.scaled.Goals as goal

pub overflow_mul-result : goal.overflow_mul-result
overflow_mul-result c = omega (arith, scaled_bound c.args.count c.from.result (omega arith) (omega arith))

pub returns-clause-bound : goal.returns-clause-bound
returns-clause-bound c = omega (arith, scaled_bound c.args.count c.from.result (omega arith) (omega arith))
