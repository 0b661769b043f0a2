use Rattle.std.proofs.Common.{◌≡◌, ◌++◌, take}
use Rattle.std.specs.List.{flat_map}
use Rattle.rule_defs.specs.Settle.{disk_range}
use Rattle.rx_plan.proofs.settling.push_disk_ranges.Given as goal

-- the ranges of the pieces so far are appended
abbrev pub invariant-loop-piece : goal.invariant-loop-piece
invariant-loop-piece l = l.ranges.items ≡ l.fn.ranges.items ++ flat_map disk_range (take l.piece-index l.pieces)
