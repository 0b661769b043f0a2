use Rattle.session_defs.proofs.Acknowledged.{acknowledged_law}
use Rattle.session_defs.proofs.laws.only_what_the_journal_says_is_filled.Goals as goal

pub returns : goal.returns
returns c = acknowledged_law
