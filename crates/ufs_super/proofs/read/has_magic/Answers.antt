use Rattle.disk_defs.specs.Disk.{told_image}
use Rattle.ufs_super.proofs.Steps.{no_magic_told}
use Rattle.ufs_super.proofs.read.has_magic.Goals as goal
use Rattle.std.proofs.Common.{arith}

pub returns-then-len-place-clause-told : goal.returns-then-len-place-clause-told
returns-then-len-place-clause-told g c = no_magic_told (told_image (g.S.Store.state c.args.store.now)) _ _ _ (omega arith)
