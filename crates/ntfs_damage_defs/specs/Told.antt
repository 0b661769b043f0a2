-- Refusals that are told by rules.
use Rattle.std.specs.Prelude.{ℕ}
use Rattle.fault_defs.specs.declared.Sort.{Sort}
use Rattle.fault_defs.specs.declared.Refusal.{Refusal}
use Rattle.fault_defs.specs.declared.Refusal.TheVariants.{NotThis, Damaged, Unsupported, Limit}

-- a refusal for damage has a rule that is broken there
abbrev pub IsToldBy : (Sort → ℕ → Type 0) → Refusal → Type 0
IsToldBy P NotThis = Unit {0}
IsToldBy P (Damaged sort place) = P sort place
IsToldBy P (Unsupported what place) = Unit {0}
IsToldBy P (Limit bound number) = Unit {0}
