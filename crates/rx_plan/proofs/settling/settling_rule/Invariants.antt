use Rattle.std.proofs.Common.{◌≡◌, drop}
use Rattle.rule_defs.specs.Settle.{settling_rule}
use Rattle.rx_plan.proofs.settling.settling_rule.Given as goal

-- none of the rules so far settles the file
abbrev pub invariant-loop-rule : goal.invariant-loop-rule
invariant-loop-rule l = settling_rule l.rules l.file ≡ settling_rule (drop l.rule-index l.rules) l.file
