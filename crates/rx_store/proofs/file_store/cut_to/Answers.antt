use Rattle.std.proofs.Common.{rules, refl}
use Rattle.rx_store.specs.Outside.{NoCall, Interruption}
use Rattle.rx_store.proofs.file_store.cut_to.Goals as goal

pub again-init : goal.again-init
again-init g c = record { same = refl; calm = refl; moved = NoCall }

pub again-preserved : goal.again-preserved
again-preserved g c = record {
  same = search rules;
  calm = search rules;
  moved = Interruption 0 c.again.file c.cut.new.self c.again.invariant.moved c.in-Again.ensures.came c.in-Again.ensures.noted;
}
