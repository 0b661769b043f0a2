use Rattle.redacted_defs.proofs.SameTree.{same_files_law}
use Rattle.redacted_defs.proofs.laws.untouched_files_read_the_same.Goals as goal

pub returns : goal.returns
returns c = same_files_law
