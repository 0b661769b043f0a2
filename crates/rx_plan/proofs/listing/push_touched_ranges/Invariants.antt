use Rattle.std.proofs.Common.{◌≡◌, ◌++◌, take}
use Rattle.std.specs.List.{flat_map}
use Rattle.plan_defs.specs.Plan.{part_ranges}
use Rattle.rx_plan.proofs.listing.push_touched_ranges.Given as goal

-- the ranges of the parts so far are appended
abbrev pub invariant-loop-part : goal.invariant-loop-part
invariant-loop-part l = l.ranges.items ≡ l.fn.ranges.items ++ flat_map part_ranges (take l.part-index l.parts)
