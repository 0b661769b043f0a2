use Rattle.rx_names.proofs.UnitTexts.{single_push, surrogate_push}
use Rattle.rx_names.proofs.units.push_alone.Goals as goal

pub returns-in-Some : goal.returns-in-Some
returns-in-Some c = single_push _ _ _ c.args.unit c.from.result c.in-Some.c c.in-Some.ensures.value.1 c.from.ensures c.ranges.unit.fits c.in-Some.ensures.cases c.push_name_character.ensures

pub returns-in-None : goal.returns-in-None
returns-in-None c = surrogate_push _ _ _ c.args.unit c.from.result c.from.ensures c.ranges.unit.fits c.in-None.ensures.cases c.push_unit_escape.ensures
