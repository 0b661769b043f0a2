use Rattle.std.proofs.Common.{arith}
use Rattle.ufs_blocks.proofs.StreamLaws.{pointer_is, direct_goes_on, direct_stops, direct_ends, gone_one}
use Rattle.ufs_blocks.proofs.streams.direct_blocks.Goals as goal

pub returns-in_err-laid-clause-settles : goal.returns-in_err-laid-clause-settles
returns-in_err-laid-clause-settles c =
    direct_stops c.args.sup.now c.args.size c.args.at c.args.len c.args.values.now c.loop-number.number c.loop-number.laid c.pointer_in-pointer.result (omega arith) (pointer_is c.pointer_in-pointer.result _ _ c.pointer_in-pointer.ensures.at c.pointer_in-pointer.ensures.value) _ c.from_residual.result c.in_err-laid.field-0.0 c.loop-number.invariant.so_far c.from_residual.ensures.0 c.from_residual.ensures.1
    c.in_err-laid.ensures.settles

pub loop-number-preserved : goal.loop-number-preserved
loop-number-preserved c = record {
  so_far = direct_goes_on c.args.sup.now c.args.size c.args.at c.args.len c.args.values.now c.loop-number.number c.loop-number.laid c.pointer_in-pointer.result (omega arith) (pointer_is c.pointer_in-pointer.result _ _ c.pointer_in-pointer.ensures.at c.pointer_in-pointer.ensures.value) _ c.in_ok-laid.laid c.loop-number.invariant.so_far c.in_ok-laid.ensures.settles;
  way = c.in_ok-laid.ensures.way_after;
  gone = gone_one c.args.sup.now c.args.size c.loop-number.number c.args.laid c.loop-number.laid c.in_ok-laid.laid c.loop-number.invariant.gone c.in_ok-laid.ensures.gone;
}

pub returns-clause-settles : goal.returns-clause-settles
returns-clause-settles c = direct_ends c.args.sup.now c.args.size c.args.at c.args.len c.args.values.now c.loop-number.number c.loop-number.laid _ (omega arith) c.loop-number.invariant.so_far
