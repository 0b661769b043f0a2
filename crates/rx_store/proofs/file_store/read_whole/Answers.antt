use Rattle.std.proofs.Common.{rules, refl}
use Rattle.rx_store.specs.Outside.{NoCall, Interruption, More}
use Rattle.rx_store.proofs.file_store.read_whole.Goals as goal

pub loop-done-init : goal.loop-done-init
loop-done-init g c = record { within = search rules; same = refl; calm = refl; moved = NoCall }

pub loop-done-preserved-in-Bytes : goal.loop-done-preserved-in-Bytes
loop-done-preserved-in-Bytes g c = record {
  within = search rules;
  same = search rules;
  calm = search rules;
  moved = More c.loop-done.done c.in-Bytes.count c.loop-done.file c.read_from.new.self c.loop-done.invariant.moved c.in-Bytes.ensures.progress c.in-Bytes.ensures.came c.in-Bytes.ensures.noted;
}

pub loop-done-preserved : goal.loop-done-preserved
loop-done-preserved g c = record {
  within = search rules;
  same = search rules;
  calm = search rules;
  moved = Interruption c.loop-done.done c.loop-done.file c.read_from.new.self c.loop-done.invariant.moved c.in-Again.ensures.came c.in-Again.ensures.noted;
}
