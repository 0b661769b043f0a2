use Rattle.std.proofs.Common.{arith}
use Rattle.ufs_names.proofs.PlaceLaws.{tested_none, tested_next, tested_hole, tested_end, passed_none, passed_later}
use Rattle.ufs_names.proofs.places.are_placed.Goals as goal

pub loop-index-init : goal.loop-index-init
loop-index-init c = record { tested = tested_none c.args.sup.now c.args.inode.now c.args.pieces.now; passed = passed_none c.args.pieces.now _ }

pub returns-in_err-placed_block-clause-placed : goal.returns-in_err-placed_block-clause-placed
returns-in_err-placed_block-clause-placed c =
    tested_hole c.args.sup.now c.args.inode.now c.args.pieces.now c.loop-index.index c.loop-index.invariant.tested (omega (arith, c.block_count-index-end.ensures)) c.from_residual.result c.in_err-placed_block.field-0.0
    c.from_residual.ensures.0 c.from_residual.ensures.1 c.in_err-placed_block.ensures.placed

pub loop-index-preserved : goal.loop-index-preserved
loop-index-preserved c = record {
  tested = tested_next c.args.sup.now c.args.inode.now c.args.pieces.now c.loop-index.index c.loop-index.invariant.tested (omega (arith, c.block_count-index-end.ensures)) _ c.in_ok-placed_block.ensures.placed;
  passed = passed_later c.args.pieces.now _ _ _ (omega arith) c.in_ok-placed_block.ensures.passed;
}

pub returns-clause-placed : goal.returns-clause-placed
returns-clause-placed c = tested_end c.args.sup.now c.args.inode.now c.args.pieces.now c.loop-index.index c.loop-index.invariant.tested (omega (arith, c.block_count-index-end.ensures))
