use Rattle.disk_defs.specs.Disk.{told_image}
use Rattle.disk_defs.specs.declared.Area.TheVariants.{Image}
use Rattle.ufs_super.proofs.Steps.{found_at, found_length, found_version, ends_in_reach, fields_told}
use Rattle.ufs_super.proofs.read.read_fields.Goals as goal

pub checked-requires : goal.checked-requires
checked-requires g c = record { ends = ends_in_reach _ _ _ _ c.super_from.result c.super_from.ensures _ c.requires.inside (g.met.S.Store.sizes_fit c.args.store.now Image) c.requires.whole }

pub returns-clause-told : goal.returns-clause-told
returns-clause-told g c = fields_told _ _ _ _ c.super_from.result c.super_from.ensures (told_image (g.S.Store.state c.args.store.now)) _ c.checked.result c.superblock_at.ensures c.in_ok-bytes.ensures.bytes c.checked.ensures.answer

pub returns-clause-begins : goal.returns-clause-begins
returns-clause-begins g c = found_at _ _ _ _ c.super_from.result c.super_from.ensures c.checked.result c.checked.ensures.is

pub returns-clause-long : goal.returns-clause-long
returns-clause-long g c = found_length _ _ _ _ c.super_from.result c.super_from.ensures c.checked.result c.checked.ensures.is

pub returns-clause-version : goal.returns-clause-version
returns-clause-version g c = found_version _ _ _ _ c.super_from.result c.super_from.ensures c.checked.result c.checked.ensures.is
