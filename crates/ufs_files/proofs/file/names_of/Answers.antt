use Rattle.std.proofs.Common.{rules, ◌∙◌}
use Rattle.std.proofs.lemmas.List.Sorted.{All-permutation}
use Rattle.rx_ranges.specs.Path.{IsPath}
use Rattle.ufs_files.proofs.SortLaws.{sorted_by_bytes, names_are}
use Rattle.ufs_files.proofs.file.names_of.Goals as goal

pub from_vec-requires-clause-sorted : goal.from_vec-requires-clause-sorted
from_vec-requires-clause-sorted c = sorted_by_bytes c.sort_unstable_by.new.self.items c.sort_unstable_by.ensures.sorted (λ a r q k. search rules)

pub from_vec-requires-clause-paths : goal.from_vec-requires-clause-paths
from_vec-requires-clause-paths c = All-permutation IsPath c.args.paths.items c.sort_unstable_by.new.self.items c.sort_unstable_by.ensures.permutation c.requires

pub returns : goal.returns
returns c =
    c.from_vec.ensures
    ∙ names_are c.args.paths.items c.sort_unstable_by.new.self.items c.sort_unstable_by.ensures.permutation
    (sorted_by_bytes c.sort_unstable_by.new.self.items c.sort_unstable_by.ensures.sorted (λ a r q k. search rules))
