-- What reading the rules counts.
use Rattle.std.specs.Prelude.{◌≡◌, ℕ, ◌≤◌, Result, Ok, Err}
use Rattle.disk_defs.specs.Count.{Rose}
use Rattle.rule_parse.specs.declared.RuleFault.{RuleFault}
use Rattle.rule_parse.specs.declared.RuleFault.TheVariants.{OtherForm, Source, NoMemory}

-- The count of a source before and after the rules were read with this result: only its own fault is counted.
abbrev pub IsCountedForRules : {T : Type 0} → Result T RuleFault → ℕ → ℕ → Type 0
IsCountedForRules (Ok rules) before now = now ≡ before
IsCountedForRules (Err OtherForm) before now = now ≡ before
IsCountedForRules (Err Source) before now = (before ≤ now) × Rose before now
IsCountedForRules (Err NoMemory) before now = now ≡ before
