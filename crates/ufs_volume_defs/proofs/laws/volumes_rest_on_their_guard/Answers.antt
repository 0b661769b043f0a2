use Rattle.ufs_volume_defs.proofs.Footprint.{ufs_footprint_law}
use Rattle.ufs_volume_defs.proofs.laws.volumes_rest_on_their_guard.Goals as goal

pub returns : goal.returns
returns c = ufs_footprint_law
