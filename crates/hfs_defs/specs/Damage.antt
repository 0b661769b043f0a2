-- Damage, in the words of the table that says what is false where.
use Rattle.std.specs.Prelude.{ℕ}
use Rattle.fault_defs.specs.declared.Refusal.{Refusal}
use Rattle.fault_defs.specs.declared.Refusal.TheVariants.{NotThis, Damaged, Unsupported, Limit}
use Rattle.fault_defs.specs.declared.Sort.{Sort}

-- a refusal tells of a damage, and its clause is false at its place
abbrev pub IsDamage : (Sort → ℕ → Type 0) → Refusal → Type 0
IsDamage IsFalse (Damaged sort place) = IsFalse sort place
IsDamage IsFalse NotThis = ⊥
IsDamage IsFalse (Unsupported what place) = ⊥
IsDamage IsFalse (Limit bound number) = ⊥
