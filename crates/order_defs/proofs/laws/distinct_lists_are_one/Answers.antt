use Rattle.order_defs.proofs.DistinctLaws.{distinct_law}
use Rattle.order_defs.proofs.laws.distinct_lists_are_one.Goals as goal

pub returns : goal.returns
returns g c = distinct_law
