use Rattle.std.proofs.Common.{◌∙◌, ap, rules}
use Rattle.std.proofs.lemmas.List.Elements.{All-same}
use Rattle.std.proofs.lemmas.List.Sorted.{All-permutation, IsNonDecreasingBy-from_sort_by_key}
use Rattle.range_defs.specs.Places.{covers, EndsInReach}
use Rattle.rx_ranges.proofs.Merging.{covers-permutation}
use Rattle.rx_ranges.proofs.ranges.RangeList.from_ranges.Goals as goal

pub merged-requires-clause-reach : goal.merged-requires-clause-reach
merged-requires-clause-reach c =
    All-same EndsInReach c.deref.result.now c.sort_unstable_by_key.new.self.items c.deref.ensures.value
    (All-permutation EndsInReach c.args.ranges.items c.sort_unstable_by_key.new.self.items c.sort_unstable_by_key.ensures.permutation c.requires)

pub merged-requires-clause-sorted : goal.merged-requires-clause-sorted
merged-requires-clause-sorted c =
    rw c.deref.ensures.value
    (IsNonDecreasingBy-from_sort_by_key (λ range. range.at) c.sort_unstable_by_key.new.self.items c.sort_unstable_by_key.ensures.sorted (λ a r q k. search rules))

pub returns-clause-bytes : goal.returns-clause-bytes
returns-clause-bytes c = λ byte.
    ap (λ ranges. covers ranges byte) c.from_vec.ensures
    ∙ ap (λ ranges. covers ranges byte) c.shrink_to_fit.ensures.items ∙ c.in_ok-ranges.ensures.bytes byte ∙ ap (λ ranges. covers ranges byte) c.deref.ensures.value
    ∙ covers-permutation c.args.ranges.items c.sort_unstable_by_key.new.self.items byte c.sort_unstable_by_key.ensures.permutation
