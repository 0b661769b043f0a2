use Rattle.order_defs.proofs.SortedLaws.{sorted_law}
use Rattle.order_defs.proofs.laws.sorted_lists_are_one.Goals as goal

pub returns : goal.returns
returns g c = sorted_law
