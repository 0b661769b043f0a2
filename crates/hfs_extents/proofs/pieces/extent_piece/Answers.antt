use Rattle.std.proofs.Common.{arith}
use Rattle.hfs_extents.proofs.ExtentLaws.{inside_volume}
use Rattle.hfs_extents.proofs.pieces.extent_piece.Goals as goal

pub returns-clause-within : goal.returns-clause-within
returns-clause-within c =
    inside_volume c.args.header.now c.args.extent c.from.result c.from-2.result c.min.result c.from.ensures c.from-2.ensures (omega (arith, c.min.ensures, c.extent_bytes.ensures)) c.requires.lies (c.requires.inside c.requires.some)
