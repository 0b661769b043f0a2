use Rattle.std.proofs.Common.{arith}
use Rattle.std.proofs.lemmas.Bool.Decides.{nat_tests}
use Rattle.rx_ranges.proofs.LeftFree.{Leaves, free-starts, free-begins, free-more, free-ends, free-reach}
use Rattle.rx_ranges.proofs.ranges.sets.gaps.Goals as goal

pub loop-range-init : goal.loop-range-init
loop-range-init c = rw c.new-out.ensures.items (free-starts c.args.ranges.now)

pub overflow_sub-len : goal.overflow_sub-len
overflow_sub-len c = free-begins c.args.ranges.now c.loop-range.out.items c.loop-range.from c.loop-range.range-index (record { at = 0; len = 0 }) c.loop-range.invariant c.loop-range-test.true

pub loop-range-preserved : goal.loop-range-preserved
loop-range-preserved c =
    free-more c.args.ranges.now c.loop-range.out.items _ c.loop-range.from _ c.loop-range.range-index (record { at = 0; len = 0 }) c.loop-range.invariant c.requires.kept c.requires.reach
    c.loop-range-test.true c.in_ok-push_range.ensures c.end-from.ensures

-- what is written at the end is what the ranges leave free
left : (c : goal.In_ok-push_range-2) → Leaves 0 c.args.ranges.now c.push_range-2.new.out.items
left c = free-ends c.args.ranges.now c.loop-range.out.items _ c.loop-range.from c.loop-range.range-index c.loop-range.invariant c.loop-range-test.false c.in_ok-push_range-2.ensures

pub returns-clause-bytes : goal.returns-clause-bytes
returns-clause-bytes c = λ byte. grind (arith, nat_tests, (left c).1 byte)

pub returns-clause-kept_after : goal.returns-clause-kept_after
returns-clause-kept_after c = (left c).0

pub returns-clause-reach_after : goal.returns-clause-reach_after
returns-clause-reach_after c = free-reach 0 c.args.ranges.now _ (left c)
