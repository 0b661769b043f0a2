use Rattle.order_defs.proofs.DistinctLaws.{rising_numbers_law}
use Rattle.order_defs.proofs.laws.numbers_rise.Goals as goal

pub returns : goal.returns
returns c = rising_numbers_law
