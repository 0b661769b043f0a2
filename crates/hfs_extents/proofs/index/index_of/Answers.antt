use Rattle.std.proofs.Common.{rules, arith}
use Rattle.hfs_extents.proofs.SortLaws.{sorted_by_clauses}
use Rattle.hfs_extents.proofs.IndexLaws.{by_file}
use Rattle.hfs_extents.proofs.index.index_of.Goals as goal

pub returns : goal.returns
returns c =
    by_file c.args.records.now c.loop-number.entries.items c.sort_by_key.new.self.items c.loop-number.number c.loop-number.invariant (omega (arith, c.loop-number-test.false))
    (sorted_by_clauses (λ entry. entry.file) c.loop-number.entries.items c.sort_by_key.new.self.items c.in_ok-sort_by_key.ensures.sorted c.in_ok-sort_by_key.ensures.stable (λ a r q k. search rules))
