use Rattle.tree_defs.proofs.Footprint.{image_footprint_law}
use Rattle.tree_defs.proofs.laws.images_rest_on_their_guard.Goals as goal

pub returns : goal.returns
returns c = image_footprint_law
