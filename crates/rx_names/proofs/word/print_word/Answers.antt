use Rattle.std.proofs.Common.{◌∙◌}
use Rattle.name_defs.specs.Spelling.{word_spelling}
use Rattle.name_defs.specs.Texts.{word_text}
use Rattle.rx_names.proofs.Walks.{spelling_turn, spelling_end}
use Rattle.rx_names.proofs.word.print_word.Goals as goal

pub loop-c-preserved : goal.loop-c-preserved
loop-c-preserved c = spelling_turn word_spelling _ _ _ _ _ _ c.loop-c.invariant c.in-Some.ensures.steps.0 c.in_ok-push_word_character.ensures

pub returns : goal.returns
unfolding word_text
returns c = c.from_string.ensures ∙ spelling_end word_spelling _ _ _ c.loop-c.invariant c.in-None.ensures.steps.0.0
