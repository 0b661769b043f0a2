use Rattle.std.proofs.Common.{sym, ◌∙◌, ap, arith}
use Rattle.hfs_defs.specs.Forks.{follow_on}
use Rattle.hfs_defs.specs.ForkDamage.{extents_in}
use Rattle.hfs_extents.proofs.ExtentLaws.{blocks_in-append, sum_more, follow-more}
use Rattle.hfs_extents.proofs.extents.is_whole.Goals as goal

pub loop-record-init : goal.loop-record-init
loop-record-init c = record {
  follow = ap (λ sum. follow_on sum c.args.records.now) (sym c.blocks_in-sum.ensures.value);
  sum = omega (arith, c.blocks_in-sum.ensures.value, blocks_in-append c.args.fork.now.extents (extents_in c.args.records.now));
  few = omega arith;
}

pub loop-record-preserved : goal.loop-record-preserved
loop-record-preserved c = record {
  follow =
      c.loop-record.invariant.follow
      ∙ follow-more c.loop-record.sum c.args.records.now c.loop-record.record-index _ c.blocks_in-sum-in-loop-record.result c.loop-record-test.true (sym c.from.ensures ∙ c.if-from-sum.false) c.blocks_in-sum-in-loop-record.ensures.value;
  sum =
      sum_more c.args.records.now c.loop-record.record-index _ _ _ _ c.loop-record-test.true c.loop-record.invariant.sum c.blocks_in-sum-in-loop-record.ensures.value;
  few = omega (arith, c.blocks_in-sum-in-loop-record.ensures.few, c.from.ensures);
}
