use Rattle.std.proofs.Common.{refl}
use Rattle.rx_names.proofs.UnitTexts.{pair_turn, alone_turn}
use Rattle.rx_names.proofs.units.push_front.Goals as goal

pub returns-in_ok-push_name_character-in-Some-clause-text : goal.returns-in_ok-push_name_character-in-Some-clause-text
returns-in_ok-push_name_character-in-Some-clause-text c = pair_turn _ _ c.args.first c.in-Some.c c.args.after.now c.in-Some.behind.now (c.in-Some.ensures.pair refl) c.in-Some.ensures.character c.in-Some.ensures.behind c.in_ok-push_name_character-in-Some.ensures

pub returns-in_ok-push_alone-in-None-clause-text : goal.returns-in_ok-push_alone-in-None-clause-text
returns-in_ok-push_alone-in-None-clause-text c = alone_turn _ _ c.args.first c.args.after.now c.ranges.first.fits (c.in-None.ensures.none refl) c.in_ok-push_alone-in-None.ensures
