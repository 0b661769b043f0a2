use Rattle.std.proofs.Common.{◌+◌, ◌++◌, drop, ap, subst, sym, ◌∙◌, List, arith}
use Rattle.std.specs.List.{All}
use Rattle.range_defs.specs.declared.Range.{Range}
use Rattle.hfs_defs.specs.Forks.{rests_from}
use Rattle.hfs_extents.specs.Extents.{EndsBy}
use Rattle.hfs_extents.proofs.PieceLaws.{rests-more, passed-more, range-within}
use Rattle.hfs_extents.proofs.pieces.rests_of.Goals as goal

pub overflow_add-from : goal.overflow_add-from
overflow_add-from c =
    let passed = passed-more c.args.header.now c.args.extents.now c.loop-extent.extent-index _ c.loop-extent.from _ c.extent_bytes-from.result c.loop-extent-test.true c.extent_bytes-from.ensures c.loop-extent.invariant.passed in
    omega (arith, passed, c.requires.few)

pub loop-extent-preserved : goal.loop-extent-preserved
loop-extent-preserved c = record {
  whole =
      rests-more c.args.header.now c.args.size c.loop-extent.from c.args.extents.now c.loop-extent.extent-index _ c.loop-extent.rests.items _ c.extent_rest.result c.extent_bytes-from.result c.loop-extent-test.true
      c.extent_rest.ensures.value c.extent_bytes-from.ensures c.loop-extent.invariant.whole
      ∙ ap (λ done. done ++ rests_from c.args.header.now c.args.size (c.loop-extent.from + c.extent_bytes-from.result) (drop (c.loop-extent.extent-index + 1) c.args.extents.now)) (sym c.in_ok-push_range.ensures);
  passed = passed-more c.args.header.now c.args.extents.now c.loop-extent.extent-index _ c.loop-extent.from _ c.extent_bytes-from.result c.loop-extent-test.true c.extent_bytes-from.ensures c.loop-extent.invariant.passed;
  within =
      let P : List Range → Type 0 = λ done. All (EndsBy (c.args.header.now.at + c.args.header.now.len)) done in
      subst P (sym c.in_ok-push_range.ensures)
      (range-within (c.args.header.now.at + c.args.header.now.len) c.loop-extent.rests.items c.extent_rest.result c.loop-extent.invariant.within c.extent_rest.ensures.within);
}
