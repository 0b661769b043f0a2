use Rattle.std.proofs.Common.{◌+◌, drop, ap, subst, sym, ◌∙◌, List, arith}
use Rattle.rx_ranges.specs.declared.pieces.Piece.{Piece}
use Rattle.piece_defs.specs.Places.{AreWithin}
use Rattle.hfs_defs.specs.Forks.{pieces_of, pieces_from}
use Rattle.hfs_extents.proofs.PieceLaws.{puts, puts-all, pieces-more, passed-more, put_some-within}
use Rattle.hfs_extents.proofs.pieces.pieces_of.Goals as goal

pub loop-extent-init : goal.loop-extent-init
unfolding pieces_of
loop-extent-init c = record {
  puts = ap (λ done. puts done (pieces_from c.args.header.now c.args.size 0 c.args.extents.now)) c.new-pieces.ensures.items ∙ puts-all (pieces_from c.args.header.now c.args.size 0 c.args.extents.now);
  passed = omega arith;
  within = let P : List Piece → Type 0 = λ done. AreWithin (c.args.header.now.at + c.args.header.now.len) done in subst P (sym c.new-pieces.ensures.items) (λ k d inside. absurd (omega (arith, inside)));
}

pub overflow_add-from : goal.overflow_add-from
overflow_add-from c =
    let passed = passed-more c.args.header.now c.args.extents.now c.loop-extent.extent-index _ c.loop-extent.from _ c.extent_bytes-from.result c.loop-extent-test.true c.extent_bytes-from.ensures c.loop-extent.invariant.passed in
    omega (arith, passed, c.requires.few)

pub loop-extent-preserved : goal.loop-extent-preserved
loop-extent-preserved c = record {
  puts =
      ap (λ done. puts done (pieces_from c.args.header.now c.args.size (c.loop-extent.from + c.extent_bytes-from.result) (drop (c.loop-extent.extent-index + 1) c.args.extents.now))) c.in_ok-push_piece.ensures
      ∙ pieces-more c.args.header.now c.args.size c.loop-extent.from c.args.extents.now c.loop-extent.extent-index _ c.loop-extent.pieces.items _ c.extent_piece.result c.extent_bytes-from.result c.loop-extent-test.true
      c.extent_piece.ensures.value c.extent_bytes-from.ensures c.loop-extent.invariant.puts;
  passed = passed-more c.args.header.now c.args.extents.now c.loop-extent.extent-index _ c.loop-extent.from _ c.extent_bytes-from.result c.loop-extent-test.true c.extent_bytes-from.ensures c.loop-extent.invariant.passed;
  within =
      let P : List Piece → Type 0 = λ done. AreWithin (c.args.header.now.at + c.args.header.now.len) done in
      subst P (sym c.in_ok-push_piece.ensures)
      (put_some-within (c.args.header.now.at + c.args.header.now.len) c.loop-extent.pieces.items c.extent_piece.result c.loop-extent.invariant.within (ap (λ piece. piece.kind) c.extent_piece.ensures.value) c.extent_piece.ensures.within);
}
