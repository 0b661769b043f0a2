use Rattle.std.proofs.Common.{ap, arith, ◌∙◌, ◌++◌, inl, inr}
use Rattle.rx_ranges.specs.Hull.{unless_empty}
use Rattle.rx_ranges.proofs.Sharing.{Shares, shared-mine, shared-theirs, shared-ends, shared-reach}
use Rattle.rx_ranges.proofs.ranges.sets.shared.Goals as goal
use Rattle.rx_ranges.proofs.ranges.sets.shared.Goals.{then-loop-left-test+else-right-b, else-loop-left-test}

pub loop-left-preserved-then-end : goal.loop-left-preserved-then-end
loop-left-preserved-then-end c =
    shared-mine c.args.a.now c.args.b.now c.loop-left.out.items _ c.loop-left.left c.loop-left.right (record { at = 0; len = 0 }) c.loop-left.invariant
    (omega arith, omega arith, c.requires.kept_a, c.requires.kept_b) (omega arith) (c.in_ok-push_range.ensures ∙ ap (λ range. c.loop-left.out.items ++ unless_empty range) c.overlap.ensures)

pub loop-left-preserved : goal.loop-left-preserved
loop-left-preserved c =
    shared-theirs c.args.a.now c.args.b.now c.loop-left.out.items _ c.loop-left.left c.loop-left.right (record { at = 0; len = 0 }) c.loop-left.invariant
    (omega arith, omega arith, c.requires.kept_a, c.requires.kept_b) (omega arith) (c.in_ok-push_range.ensures ∙ ap (λ range. c.loop-left.out.items ++ unless_empty range) c.overlap.ensures)

-- what is written at the end is what the sets share
all : (c : goal.Left-loop-left) → Shares c.args.a.now c.args.b.now c.loop-left.out.items
all c =
    shared-ends c.args.a.now c.args.b.now c.loop-left.out.items c.loop-left.left c.loop-left.right c.loop-left.invariant
    (elim c.loop-left-test.branch [ then-loop-left-test+else-right-b w ↦ inr (omega arith) | else-loop-left-test w ↦ inl (omega arith) ])

pub returns-clause-bytes : goal.returns-clause-bytes
returns-clause-bytes c = (all c).1

pub returns-clause-kept : goal.returns-clause-kept
returns-clause-kept c = (all c).0

pub returns-clause-reach : goal.returns-clause-reach
returns-clause-reach c = shared-reach c.args.a.now c.args.b.now _ c.requires.reach_a (all c)
