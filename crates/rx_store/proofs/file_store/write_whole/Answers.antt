use Rattle.std.proofs.Common.{rules, refl, true}
use Rattle.rx_store.specs.declared.outside.Outcome.TheVariants.{Bytes, Again}
use Rattle.rx_store.specs.Outside.{Came, NoCall, Interruption, More}
use Rattle.rx_store.proofs.file_store.write_whole.Goals as goal

pub loop-done-init : goal.loop-done-init
loop-done-init g c = record { within = search rules; same = refl; calm = refl; moved = NoCall }

pub loop-done-preserved-in-Bytes : goal.loop-done-preserved-in-Bytes
loop-done-preserved-in-Bytes g c = record {
  within = search rules;
  same = search rules;
  calm = search rules;
  moved =
      let came : Came g.F.WritesTo.written true c.loop-done.file c.write_to.new.self (Bytes c.in-Bytes.count) = search rules in
      More c.loop-done.done c.in-Bytes.count c.loop-done.file c.write_to.new.self c.loop-done.invariant.moved (search rules) came c.in-Bytes.ensures.noted;
}

pub loop-done-preserved : goal.loop-done-preserved
loop-done-preserved g c = record {
  within = search rules;
  same = search rules;
  calm = search rules;
  moved =
      let came : Came g.F.WritesTo.written true c.loop-done.file c.write_to.new.self Again = search rules in
      Interruption c.loop-done.done c.loop-done.file c.write_to.new.self c.loop-done.invariant.moved came c.in-Again.ensures.noted;
}
