use Rattle.std.proofs.Common.{◌≡◌, ◌++◌, take, map, All}
use Rattle.plan_defs.specs.Plan.{HasPath}
use Rattle.rx_plan.proofs.listing.push_lines.Given as goal

-- the lines of the names so far are appended, and all are of paths
abbrev pub invariant-loop-name : goal.invariant-loop-name
invariant-loop-name l = record {
  lines : l.lines.items ≡ l.fn.lines.items ++ map (λ name. record { kind = l.kind; rule = l.rule; path = name }) (take l.name-index l.names);
  paths : All HasPath l.lines.items;
}
