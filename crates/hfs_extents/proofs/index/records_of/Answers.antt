use Rattle.std.proofs.Common.{◌++◌, ◌∙◌, ap, sym, rules, arith}
use Rattle.hfs_extents.proofs.SortLaws.{sorted_by_clauses, other_file, own_file}
use Rattle.hfs_extents.proofs.IndexLaws.{rises, left_of, left-all, left-own, left-none, number-inside}
use Rattle.hfs_extents.proofs.index.records_of.Goals as goal

pub returns-then-file-eq3 : goal.returns-then-file-eq3
returns-then-file-eq3 c = c.new-found.ensures.items ∙ own_file c.args.records.now c.args.file c.args.fork_type c.if-file-eq3.true

pub entries_of-entry-items-requires : goal.entries_of-entry-items-requires
entries_of-entry-items-requires c = rises c.args.records.now c.args.entries.now c.requires

pub loop-entry-init : goal.loop-entry-init
loop-entry-init c =
    left-all c.args.records.now c.args.entries.now c.entries_of-entry-items.result.now c.args.file c.args.fork_type c.requires c.entries_of-entry-items.ensures
    ∙ ap (λ list. list ++ left_of c.args.records.now c.args.fork_type c.entries_of-entry-items.result.now) (sym c.new-found.ensures.items)

pub bounds-records-entry : goal.bounds-records-entry
bounds-records-entry c = number-inside c.args.records.now c.args.entries.now c.entries_of-entry-items.result.now c.args.file c.loop-entry.entry-index _ c.requires c.entries_of-entry-items.ensures c.loop-entry-test.true

pub offset_bounds-records-entry : goal.offset_bounds-records-entry
offset_bounds-records-entry c =
    let inside = number-inside c.args.records.now c.args.entries.now c.entries_of-entry-items.result.now c.args.file c.loop-entry.entry-index (record { file = 0; number = 0 }) c.requires c.entries_of-entry-items.ensures c.loop-entry-test.true in
    omega (arith, inside)

pub loop-entry-preserved : goal.loop-entry-preserved
loop-entry-preserved c =
    left-own c.args.records.now c.entries_of-entry-items.result.now c.args.fork_type c.loop-entry.entry-index _ _ _ c.loop-entry.found.items c.push.new.self.items c.loop-entry-test.true
    (number-inside c.args.records.now c.args.entries.now c.entries_of-entry-items.result.now c.args.file c.loop-entry.entry-index _ c.requires c.entries_of-entry-items.ensures c.loop-entry-test.true)
    c.if-record-fork_type.false c.in_ok-push.ensures.items c.loop-entry.invariant

pub returns : goal.returns
returns c =
    other_file c.args.records.now c.loop-entry.found.items c.sort_by_key.new.self.items c.args.file c.args.fork_type c.if-file-eq3.false
    (c.loop-entry.invariant ∙ left-none c.args.records.now c.entries_of-entry-items.result.now c.args.fork_type c.loop-entry.entry-index c.loop-entry.found.items (omega (arith, c.loop-entry-test.false)))
    (sorted_by_clauses (λ overflow. overflow.start) c.loop-entry.found.items c.sort_by_key.new.self.items c.in_ok-sort_by_key.ensures.sorted c.in_ok-sort_by_key.ensures.stable (λ a r q k. search rules))
