use Rattle.std.proofs.Common.{rules, refl}
use Rattle.rx_store.specs.Outside.{NoCall, Interruption}
use Rattle.rx_store.proofs.std_sink.write_answered.Goals as goal

pub again-init : goal.again-init
again-init g c = record { calm = refl; moved = NoCall }

pub again-preserved : goal.again-preserved
again-preserved g c = record {
  calm = search rules;
  moved = Interruption 0 c.again.writer c.write.new.self c.again.invariant.moved c.in-Again.ensures.came c.in-Again.ensures.noted;
}
