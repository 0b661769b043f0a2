use Rattle.ntfs_defs.proofs.DamageLaws.{decoded_damage}
use Rattle.ntfs_defs.proofs.laws.the_first_damage_is_told.Goals as goal

pub returns : goal.returns
returns c = decoded_damage
