-- Laws behind Told: refusals that are told by rules.
use Rattle.std.specs.Prelude.{◌≡◌, ℕ, Result, Ok, Err}
use Rattle.fault_defs.specs.declared.Sort.{Sort}
use Rattle.fault_defs.specs.declared.Refusal.{Refusal}
use Rattle.fault_defs.specs.declared.Refusal.TheVariants.{Damaged}
use Rattle.ntfs_damage_defs.specs.Told.{IsToldBy}

pub told_weaker : (P Q : Sort → ℕ → Type 0) (refusal : Refusal) → ((sort : Sort) (place : ℕ) → P sort place → Q sort place) → IsToldBy P refusal → IsToldBy Q refusal
told_weaker P Q (Damaged sort place) weaker told = weaker sort place told
told_weaker P Q other weaker told = tt

-- a refusal is no value, and the same one everywhere
pub same_refusal : {X : Type 0} (own refusal : Refusal) → (let one : Result X Refusal = Err own in one ≡ Err refusal) → own ≡ refusal
same_refusal own refusal same = cc

pub not_given : {X : Type 0} (x : X) (refusal : Refusal) → (let one : Result X Refusal = Ok x in one ≡ Err refusal) → ⊥
not_given x refusal same = cc
