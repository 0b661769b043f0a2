use Rattle.std.proofs.Common.{◌∙◌, ap}
use Rattle.range_defs.specs.Places.{covers}
use Rattle.rx_ranges.proofs.InReach.{lacks-other}
use Rattle.rx_ranges.proofs.ranges.RangeList.subtract.Goals as goal

pub returns-clause-bytes : goal.returns-clause-bytes
returns-clause-bytes c = λ byte.
    ap (λ ranges. covers ranges byte) c.from_vec.ensures ∙ c.in_ok-shared.ensures.bytes byte
    ∙ rw (c.items-2.ensures.items, c.deref.ensures.value, c.in_ok-outside.ensures.bytes byte, c.items.ensures.items)
    (lacks-other c.args.self.now c.args.other.now byte c.items-2.ensures.reach)
