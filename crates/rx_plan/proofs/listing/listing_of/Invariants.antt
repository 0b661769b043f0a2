use Rattle.std.proofs.Common.{◌≡◌, All, List, map, take}
use Rattle.std.specs.List.{flat_map}
use Rattle.rule_defs.specs.declared.Rule.{Rule}
use Rattle.plan_defs.specs.Plan.{is_painted, listed_as, lines_of, HasPath}
use Rattle.rx_plan.proofs.listing.listing_of.Given as goal

-- the lines of the files so far, all of paths
abbrev pub invariant-loop-i : goal.invariant-loop-i
invariant-loop-i l = record {
  lines : (rules : List Rule) → l.listed ≡ map (listed_as rules) l.files
      → l.lines.items ≡ flat_map (lines_of rules l.tree.image_len (is_painted l.fills)) (take l.i l.files);
  paths : All HasPath l.lines.items;
}
