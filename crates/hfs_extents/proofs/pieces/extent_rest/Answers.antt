use Rattle.std.proofs.Common.{ap, refl, arith}
use Rattle.hfs_extents.proofs.ExtentLaws.{inside_volume}
use Rattle.hfs_extents.proofs.pieces.extent_rest.Goals as goal

pub returns-clause-within : goal.returns-clause-within
returns-clause-within c =
    let at = ap (λ piece. piece.at) c.extent_piece-piece.ensures.value in
    let len = ap (λ piece. piece.len) c.extent_piece-piece.ensures.value in
    let all = inside_volume c.args.header.now c.args.extent c.args.extent.start c.args.header.now.block_size c.extent_bytes.result refl refl (omega (arith, c.extent_bytes.ensures)) c.requires.lies (c.requires.inside c.requires.some) in
    omega (arith, at, len, all, c.extent_bytes.ensures)
