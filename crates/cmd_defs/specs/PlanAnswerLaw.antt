-- A text and an image have one answer of `plan`, and a status that says so is that answer, or a fault or want of memory.
use Rattle.std.proofs.Common.{◌≡◌, ℕ, List}
use Rattle.cmd_defs.specs.declared.status.Status.{Status}
use Rattle.cmd_defs.specs.PlanCommand.{PlanAnswers}

-- a rule text and an image have one answer
abbrev pub PlanHasOneAnswer : Type 0
PlanHasOneAnswer = (text image : List ℕ) (a b : Status) → PlanAnswers a text image → PlanAnswers b text image → a ≡ b
