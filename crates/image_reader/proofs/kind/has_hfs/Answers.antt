use Rattle.std.proofs.Common.{arith}
use Rattle.disk_defs.specs.Disk.{told_image}
use Rattle.disk_defs.specs.declared.Area.TheVariants.{Image}
use Rattle.image_reader.proofs.Magics.{no_hfs}
use Rattle.image_reader.proofs.kind.has_hfs.Goals as goal

pub returns-then-len-lt1028-clause-told : goal.returns-then-len-lt1028-clause-told
returns-then-len-lt1028-clause-told g c = no_hfs (told_image (g.S.Store.state c.args.store.now)) _ (g.met.S.Store.tells_its_sizes c.args.store.now Image) (omega (arith, c.requires))
