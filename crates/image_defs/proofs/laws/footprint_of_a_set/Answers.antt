use Rattle.image_defs.proofs.ViaLaws.{set_law}
use Rattle.image_defs.proofs.laws.footprint_of_a_set.Goals as goal

pub returns : goal.returns
returns g c = set_law g.row.E.Denot g.row.X.Denot
