use Rattle.disk_defs.specs.Disk.{told_image}
use Rattle.hfs_header.proofs.Steps.{tells_told}
use Rattle.hfs_header.proofs.read_header.Goals as goal

pub returns-clause-tells : goal.returns-clause-tells
returns-clause-tells g c = tells_told (told_image (g.S.Store.state c.args.store.now)) _ _ c.read_fields.result c.read_fields.ensures.refusals c.read_fields.ensures.told
