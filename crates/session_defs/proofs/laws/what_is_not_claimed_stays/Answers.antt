use Rattle.session_defs.proofs.Filled.{untouched_law}
use Rattle.session_defs.proofs.laws.what_is_not_claimed_stays.Goals as goal

pub returns : goal.returns
returns c = untouched_law
