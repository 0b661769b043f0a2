use Rattle.std.proofs.Common.{◌≡◌, ◌++◌, take}
use Rattle.std.specs.List.{flat_map}
use Rattle.rule_defs.specs.Settle.{content_range}
use Rattle.rx_plan.proofs.settling.push_content_ranges.Given as goal

-- the ranges of the parts so far are appended
abbrev pub invariant-loop-part : goal.invariant-loop-part
invariant-loop-part l = l.ranges.items ≡ l.fn.ranges.items ++ flat_map content_range (take l.part-index l.parts)
