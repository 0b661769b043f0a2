-- Each command of the journal has one answer to what it finds.
use Rattle.std.specs.Prelude.{◌≡◌, ℕ, List}
use Rattle.disk_defs.specs.Story.{Held}
use Rattle.cmd_defs.specs.declared.status.Status.{Status}
use Rattle.cmd_defs.specs.RedactCommand.{RedactAnswers}
use Rattle.cmd_defs.specs.ResumeCommand.{ResumeAnswers}
use Rattle.cmd_defs.specs.ReportCommand.{ReportAnswers}

-- a rule text and what a store holds have one answer of `redact`
abbrev pub RedactHasOneAnswer : Type 0
RedactHasOneAnswer = (text : List ℕ) (held : Held) (a b : Status) → RedactAnswers a text held → RedactAnswers b text held → a ≡ b

-- what a store holds has one answer of `resume`
abbrev pub ResumeHasOneAnswer : Type 0
ResumeHasOneAnswer = (held : Held) (a b : Status) → ResumeAnswers a held → ResumeAnswers b held → a ≡ b

-- a journal has one answer of `report`
abbrev pub ReportHasOneAnswer : Type 0
ReportHasOneAnswer = (journal : List ℕ) (a b : Status) → ReportAnswers a journal → ReportAnswers b journal → a ≡ b
