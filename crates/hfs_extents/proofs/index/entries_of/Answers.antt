use Rattle.std.specs.Prelude.{◌-◌, nat_lt, nat_le, length}
use Rattle.std.proofs.Common.{drop, take, rules}
use Rattle.std.proofs.lemmas.List.Sorted.{IsPartitionPoint-from_clause, IsPartitionedBy-ltb, IsPartitionedBy-leb, IsNonDecreasingBy-drop, IsNonDecreasingBy-take}
use Rattle.hfs_extents.proofs.IndexLaws.{between_part}
use Rattle.hfs_extents.proofs.index.entries_of.Goals as goal

pub returns : goal.returns
returns c =
    let begin = c.partition_point-begin.result in
    let count = length c.args.entries.now - begin in
    let behind = drop begin c.args.entries.now in
    between_part c.args.file c.args.entries.now begin c.partition_point-end.result c.partition_point-begin.ensures.bound
    (IsPartitionPoint-from_clause (λ y. nat_lt y.file c.args.file) c.args.entries.now begin c.partition_point-begin.ensures.partitioned (IsPartitionedBy-ltb (λ entry. entry.file) c.args.entries.now c.args.file c.requires) (λ a r q k. search rules))
    (IsPartitionPoint-from_clause (λ y. nat_le y.file c.args.file) (take count behind) c.partition_point-end.result c.partition_point-end.ensures.partitioned
    (IsPartitionedBy-leb (λ entry. entry.file) (take count behind) c.args.file (IsNonDecreasingBy-take (λ entry. entry.file) count behind (IsNonDecreasingBy-drop (λ entry. entry.file) begin c.args.entries.now c.requires))) (λ a r q k. search rules))
