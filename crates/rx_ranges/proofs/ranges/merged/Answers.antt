use Rattle.std.proofs.Common.{◌≡◌, arith, ap, ◌∙◌}
use Rattle.range_defs.specs.Places.{EndsInReach}
use Rattle.std.proofs.lemmas.List.Elements.{All-same}
use Rattle.rx_ranges.proofs.Merging.{merged_to, covers-all, kept-merged, reach-merged, rise, so_far-joins, so_far-apart, so_far-done}
use Rattle.rx_ranges.proofs.ranges.merged.Goals as goal
use Rattle.rx_ranges.proofs.ranges.merged.Goals.{then-next-end, else-next-end+in_ok-push_range}

pub loop-next-preserved : goal.loop-next-preserved
loop-next-preserved c =
    elim c.if-next-end.branch [
      | then-next-end w ↦
          so_far-joins _ c.args.sorted.now c.loop-next.out.items _ c.loop-next.last _ (record { at = 0; len = 0 }) c.loop-next.next-index c.loop-next.invariant c.requires.reach c.loop-next-test.true
          (omega arith) (ap (λ v. v.items) w.out-is) (w.last-is ∙ w.joined-last.ensures)
      | else-next-end+in_ok-push_range w ↦
          so_far-apart _ c.args.sorted.now c.loop-next.out.items _ c.loop-next.last _ (record { at = 0; len = 0 }) c.loop-next.next-index c.loop-next.invariant c.requires.reach c.loop-next-test.true
          (omega arith) (ap (λ v. v.items) w.out-is ∙ w.in_ok-push_range.ensures) w.last-is
    ]

-- what is written at the end are the ranges merged
written : (c : goal.In_ok-push_range-2) → c.push_range-2.new.out.items ≡ merged_to (record { at = 0; len = 0 }) c.args.sorted.now
written c =
    so_far-done _ c.args.sorted.now c.loop-next.out.items _ c.loop-next.last c.loop-next.next-index c.loop-next.invariant c.loop-next-test.false c.in_ok-push_range-2.ensures

pub returns-clause-bytes : goal.returns-clause-bytes
returns-clause-bytes c = λ byte. rw (written c) (covers-all c.args.sorted.now byte (rise c.args.sorted.now c.requires.sorted))

pub returns-clause-kept : goal.returns-clause-kept
returns-clause-kept c = rw (written c) (kept-merged (record { at = 0; len = 0 }) c.args.sorted.now (rise c.args.sorted.now c.requires.sorted))

pub returns-clause-reach_after : goal.returns-clause-reach_after
returns-clause-reach_after c =
    All-same EndsInReach _ (merged_to (record { at = 0; len = 0 }) c.args.sorted.now) (written c) (reach-merged (record { at = 0; len = 0 }) c.args.sorted.now (omega arith) c.requires.reach)
