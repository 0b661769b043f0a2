use Rattle.rx_plan.proofs.RangesMet.{meets-here, meets-none_more, meets-none}
use Rattle.rx_plan.proofs.listing.any_meets.Goals as goal

pub returns-then-meets : goal.returns-then-meets
returns-then-meets c =
    meets-here c.args.fills.now c.args.ranges.now c.loop-range.range-index _ c.meets.result c.loop-range-test.true c.meets.ensures c.if-meets.true

pub loop-range-preserved : goal.loop-range-preserved
loop-range-preserved c =
    meets-none_more c.args.fills.now c.args.ranges.now c.loop-range.range-index _ c.meets.result c.loop-range-test.true c.meets.ensures c.if-meets.false
    c.loop-range.invariant

pub returns : goal.returns
returns c = meets-none c.args.fills.now c.args.ranges.now c.loop-range.range-index c.loop-range-test.false c.loop-range.invariant
