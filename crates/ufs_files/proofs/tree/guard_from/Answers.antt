use Rattle.ufs_files.proofs.TreeLaws.{ok_map, guard_is, kept_within}
use Rattle.ufs_files.proofs.tree.guard_from.Goals as goal

pub returns-clause-guard : goal.returns-clause-guard
returns-clause-guard c =
    ok_map c.from_ranges.result c.from_ranges.ensures.bytes c.from_ranges.ensures.kept
    (λ list bytes kept. guard_is list c.args.looked.items c.args.size kept bytes c.requires.within)

pub returns-clause-within : goal.returns-clause-within
returns-clause-within c =
    ok_map c.from_ranges.result c.from_ranges.ensures.bytes c.from_ranges.ensures.kept
    (λ list bytes kept. kept_within list c.args.looked.items c.args.size kept bytes c.requires.within)
