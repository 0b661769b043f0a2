use Rattle.rx_names.proofs.UnitTexts.{units_end}
use Rattle.rx_names.proofs.units.push_units.Goals as goal

pub returns : goal.returns
returns c = units_end _ _ _ c.loop-first.invariant c.in_default.ensures.cases
