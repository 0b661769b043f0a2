use Rattle.std.proofs.Common.{◌∙◌, ap}
use Rattle.range_defs.specs.Places.{covers}
use Rattle.rx_ranges.proofs.InReach.{in-either}
use Rattle.rx_ranges.proofs.ranges.RangeList.union.Goals as goal

pub returns-clause-bytes : goal.returns-clause-bytes
returns-clause-bytes c = λ byte.
    ap (λ ranges. covers ranges byte) c.from_vec.ensures ∙ c.in_ok-gaps.ensures.bytes byte
    ∙ rw (
      c.deref-3.ensures.value,
      c.in_ok-neither.ensures.bytes byte,
      c.deref.ensures.value,
      c.in_ok-mine.ensures.bytes byte,
      c.items.ensures.items,
      c.deref-2.ensures.value,
      c.in_ok-theirs.ensures.bytes byte,
      c.items-2.ensures.items,
    ) (in-either c.args.self.now c.args.other.now byte c.items.ensures.reach c.items-2.ensures.reach)
