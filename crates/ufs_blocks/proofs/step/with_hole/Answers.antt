use Rattle.std.proofs.Common.{◌*◌, ◌∙◌, ap, arith}
use Rattle.ufs_inode_defs.specs.Blocks.{Laid}
use Rattle.piece_reads.proofs.Putting.{covered_fits}
use Rattle.ufs_blocks.proofs.WayLaws.{begins, so_far}
use Rattle.ufs_blocks.proofs.step.with_hole.Goals as goal

pub put-requires-clause-fits : goal.put-requires-clause-fits
put-requires-clause-fits c =
    let from = ap (λ (laid : Laid). laid.block * c.block_size-unit.result) c.laid.view_is ∙ ap (λ n. c.args.laid.block * n) c.block_size-unit.ensures.value in
    let before = begins c.args.sup.now c.args.size c.args.laid c.requires.sound c.requires.way c.requires.inside in
    covered_fits c.laid.inside.pieces.items _ (so_far c.args.sup.now c.args.size c.args.laid c.requires.sound c.requires.way c.requires.inside _ _ from (ap (λ (laid : Laid). laid.pieces) c.laid.view_is))
    (omega (arith, c.min.ensures, from, before, c.requires.short))
