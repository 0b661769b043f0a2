use Rattle.journal_defs.proofs.JournalLaws.{one_journal_law}
use Rattle.journal_defs.proofs.laws.a_journal_is_of_one_plan.Goals as goal

pub returns : goal.returns
returns c = one_journal_law
