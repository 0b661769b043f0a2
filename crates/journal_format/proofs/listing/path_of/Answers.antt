use Rattle.journal_format.proofs.Steps.{one_holds, one_fails}
use Rattle.journal_format.proofs.listing.path_of.Goals as goal

pub returns-in_default-clause-says : goal.returns-in_default-clause-says
returns-in_default-clause-says c = one_fails _ _ c.in_default.ensures

pub returns-clause-says : goal.returns-clause-says
returns-clause-says c = one_holds _ _ c.in-Some.ensures.1
