use Rattle.std.proofs.Common.{◌≡◌, drop}
use Rattle.journal_defs.specs.Checks as table
use Rattle.journal_format.proofs.fields.first_failing.Given as goal

abbrev pub invariant-loop-check : goal.invariant-loop-check
invariant-loop-check l = table.first_failing (drop l.check-index l.checks) ≡ table.first_failing l.checks
