use Rattle.image_defs.proofs.Agreement.{footprint_law}
use Rattle.image_defs.proofs.laws.footprint.Goals as goal

pub returns : goal.returns
returns g c = footprint_law g.row.E.Denot g.row.X.Denot
