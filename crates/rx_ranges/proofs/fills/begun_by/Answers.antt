use Rattle.std.proofs.Common.{◌≡◌, nat_le, true, false, rules}
use Rattle.std.specs.List.Sorted.{IsPartitionPoint}
use Rattle.std.proofs.lemmas.Bool.{leb-true, leb-false}
use Rattle.std.proofs.lemmas.List.Sorted.{IsPartitionedBy-leb, IsPartitionPoint-from_clause}
use Rattle.rx_ranges.proofs.Holding.{non_decreasing}
use Rattle.rx_ranges.proofs.fills.begun_by.Goals as goal

point : (c : goal.After-partition_point) → IsPartitionPoint (λ claim. nat_le claim.range.at c.args.byte ≡ true) (λ claim. nat_le claim.range.at c.args.byte ≡ false)
    c.args.claims.now c.partition_point.result
point c =
    IsPartitionPoint-from_clause (λ claim. nat_le claim.range.at c.args.byte) c.args.claims.now c.partition_point.result c.partition_point.ensures.partitioned
    (IsPartitionedBy-leb (λ claim. claim.range.at) c.args.claims.now c.args.byte (non_decreasing c.args.claims.now c.requires)) (λ a r q k. search rules)

pub returns-clause-begun : goal.returns-clause-begun
returns-clause-begun c = λ k d low before. leb-true _ _ ((point c).0 k d low before)

pub returns-clause-behind : goal.returns-clause-behind
returns-clause-behind c = λ k d low before. leb-false _ _ ((point c).1 k d low before)
