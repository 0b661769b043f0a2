-- What a status of `plan` says where the rules were not read.
use Rattle.std.proofs.Common.{◌≡◌, refl, sym, subst, ℕ, Option, Some, None, IfSome, List, inl}
use Rattle.rule_defs.specs.Reads.{SaysNoRules}
use Rattle.cmd_defs.specs.declared.status.Status.{Status}
use Rattle.cmd_defs.specs.Outcome.{IfBothTold}
use Rattle.cmd_defs.specs.PlanCommand.{PlanSays}
use Rattle.rule_parse.specs.declared.RuleFault.{RuleFault}
use Rattle.rule_parse.specs.declared.RuleFault.TheVariants as rules
use Rattle.redact_cmd.specs.Stages.{status_of_rules}

rules_say : (text image : Option (List ℕ)) (W P : List ℕ → Type 0) (fault : RuleFault) → (fault ≡ rules.OtherForm → IfSome text SaysNoRules)
    → IfBothTold text image (λ t i. PlanSays (status_of_rules fault) t i W P)
rules_say None image W P fault other = tt
rules_say (Some t) None W P fault other = tt
rules_say (Some t) (Some i) W P rules.OtherForm other = inl (other refl)
rules_say (Some t) (Some i) W P rules.Source other = tt
rules_say (Some t) (Some i) W P rules.NoMemory other = tt

-- where the rules were not read
pub rules_refused : (text image : Option (List ℕ)) (W P : List ℕ → Type 0) (fault : RuleFault) (status : Status) → status ≡ status_of_rules fault
    → (fault ≡ rules.OtherForm → IfSome text SaysNoRules) → IfBothTold text image (λ t i. PlanSays status t i W P)
rules_refused text image W P fault status is other =
    subst (λ status. IfBothTold text image (λ t i. PlanSays status t i W P)) (sym is) (rules_say text image W P fault other)
