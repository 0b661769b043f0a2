use Rattle.name_defs.specs.Spelling.{name_spelling}
use Rattle.rx_names.proofs.Walks.{spelling_turn, spelling_end}
use Rattle.rx_names.proofs.characters.push_name_characters.Goals as goal

pub loop-c-preserved : goal.loop-c-preserved
loop-c-preserved c = spelling_turn name_spelling _ _ _ _ _ _ c.loop-c.invariant c.in-Some.ensures.steps.0 c.in_ok-push_name_character.ensures

pub returns : goal.returns
returns c = spelling_end name_spelling _ _ _ c.loop-c.invariant c.in-None.ensures.steps.0.0
