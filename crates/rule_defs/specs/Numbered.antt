-- How rules are numbered, and how many there are.
use Rattle.std.specs.Prelude.{◌≡◌, ℕ, ◌+◌, ◌≤◌, List, [], ◌∷◌, length}
use Rattle.rx_ranges.specs.declared.plan.TheConstants.{MAX_RULE}
use Rattle.rule_defs.specs.declared.Rule.{Rule}

-- rules are numbered one by one, the first with this number
abbrev pub AreNumberedFrom : ℕ → List Rule → Type 0
AreNumberedFrom number [] = Unit {0}
AreNumberedFrom number (rule ∷ rules) = (rule.number ≡ number) × AreNumberedFrom (number + 1) rules

-- the rules of a text are numbered from 1
abbrev pub AreNumbered : List Rule → Type 0
AreNumbered rules = AreNumberedFrom 1 rules

-- a text has at most as many rules as the greatest number of a rule
abbrev pub AreFew : List Rule → Type 0
AreFew rules = length rules ≤ MAX_RULE
