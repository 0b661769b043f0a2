use Rattle.ufs_guard_defs.proofs.GuardLaw.{ufs_guard_law}
use Rattle.ufs_guard_defs.proofs.laws.the_guard_is_what_is_reached.Goals as goal

pub returns : goal.returns
returns c = ufs_guard_law
