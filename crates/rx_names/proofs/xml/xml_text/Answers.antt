use Rattle.std.proofs.Common.{◌∙◌}
use Rattle.name_defs.specs.Spelling.{xml_spelling}
use Rattle.name_defs.specs.Texts.{xml_text}
use Rattle.rx_names.proofs.Walks.{spelling_turn, spelling_end}
use Rattle.rx_names.proofs.xml.xml_text.Goals as goal

pub loop-c-preserved : goal.loop-c-preserved
loop-c-preserved c = spelling_turn xml_spelling _ _ _ _ _ _ c.loop-c.invariant c.in-Some.ensures.steps.0 c.in_ok-push_xml_character.ensures

pub returns : goal.returns
unfolding xml_text
returns c = c.from_string.ensures ∙ spelling_end xml_spelling _ _ _ c.loop-c.invariant c.in-None.ensures.steps.0.0
