use Rattle.rule_defs.proofs.ReadsLaws.{one_list_of_rules}
use Rattle.rule_defs.proofs.laws.one_list_of_rules.Goals as goal

pub returns : goal.returns
returns c = one_list_of_rules
