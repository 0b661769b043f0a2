use Rattle.std.proofs.Common.{◌∙◌, ap, [], arith}
use Rattle.std.proofs.lemmas.Bool.Decides.{nat_tests}
use Rattle.range_defs.specs.declared.TheConstants.{REACH}
use Rattle.range_defs.proofs.RangeLaws.{covers-past}
use Rattle.range_defs.specs.Places.{covers}
use Rattle.rx_ranges.proofs.Merging.{covers-unless}
use Rattle.rx_ranges.proofs.ranges.RangeList.cut.Goals as goal

pub returns-clause-bytes : goal.returns-clause-bytes
returns-clause-bytes c = λ byte.
    ap (λ ranges. covers ranges byte) c.from_vec.ensures ∙ c.in_ok-shared.ensures.bytes byte
    ∙ rw (c.items.ensures.items, c.deref.ensures.value, c.in_ok-push_range.ensures, c.new-inside.ensures.items)
    (grind (arith, nat_tests, covers-unless c.reached.result [] byte, c.reached.ensures.bytes byte, covers-past REACH byte c.args.self.now c.items.ensures.reach))
