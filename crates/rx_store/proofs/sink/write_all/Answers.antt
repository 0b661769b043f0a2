use Rattle.std.proofs.Common.{arith, ap, ◌∙◌, ◌-◌, take, drop, length}
use Rattle.disk_defs.specs.Stream.{taken_with}
use Rattle.rx_store.proofs.Taken.{taken_with-take_more}
use Rattle.rx_store.proofs.sink.write_all.Goals as goal

pub loop-done-preserved : goal.loop-done-preserved
loop-done-preserved g c = record {
  within = omega (arith, c.in_ok-done.ensures.within);
  taken = c.in_ok-done.ensures.taken ∙ ap (λ t. taken_with t (take c.in_ok-done.field-0 (take (length c.args.bytes.now - c.loop-done.done) (drop c.loop-done.done c.args.bytes.now)))) c.loop-done.invariant.taken ∙ taken_with-take_more _ _ _ _;
  calm = c.in_ok-done.ensures.counted ∙ c.loop-done.invariant.calm;
}
