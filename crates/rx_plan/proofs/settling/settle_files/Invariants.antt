use Rattle.std.proofs.Common.{◌≡◌, map, take}
use Rattle.plan_defs.specs.Plan.{all_claims, listed_as}
use Rattle.rx_plan.proofs.settling.settle_files.Given as goal

-- what the rules make of the files so far
abbrev pub invariant-loop-file : goal.invariant-loop-file
invariant-loop-file l = record {
  claims : l.claims.items ≡ all_claims l.rules (take l.file-index l.files);
  listed : l.listed.items ≡ map (listed_as l.rules) (take l.file-index l.files);
}
