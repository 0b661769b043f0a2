use Rattle.order_defs.proofs.DistinctLaws.{sorted_names_law}
use Rattle.order_defs.proofs.laws.names_are_sorted.Goals as goal

pub returns : goal.returns
returns c = sorted_names_law
