use Rattle.redacted_defs.proofs.SameTree.{same_tree_law}
use Rattle.redacted_defs.proofs.laws.a_redacted_image_has_the_same_tree.Goals as goal

pub returns : goal.returns
returns c = same_tree_law
