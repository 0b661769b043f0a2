use Rattle.std.proofs.Common.{sym, ◌∙◌, arith}
use Rattle.piece_reads.proofs.Putting.{last_fits, last_grows, last_stands, first_stands}
use Rattle.piece_reads.proofs.longest.put.Goals as goal
use Rattle.piece_reads.proofs.longest.put.Goals.{else-count-gt0-via-then-count-gt0+else-is_contiguous, else-count-gt0-via-else-count-gt0}

pub overflow_add-index_mut : goal.overflow_add-index_mut
overflow_add-index_mut c =
    let fits =
    last_fits c.args.pieces.now.items c.args.piece c.index.result.now c.index_mut.result.now c.len-count.result (omega arith) c.if-count-gt0.true
    c.index.ensures (sym c.is_contiguous.ensures ∙ c.if-is_contiguous.true) c.index_mut.ensures.value c.requires.fits in
    omega (arith, fits)

pub returns-then-is_contiguous : goal.returns-then-is_contiguous
returns-then-is_contiguous c =
    last_grows c.args.pieces.now.items c.args.piece c.index.result.now c.index_mut.result.now c.len-count.result (omega arith) c.if-count-gt0.true
    c.index.ensures (sym c.is_contiguous.ensures ∙ c.if-is_contiguous.true) c.index_mut.ensures.value

pub returns : goal.returns
returns c =
    c.in_ok-push.ensures.items
    ∙ elim c.else-count-gt0.branch [
      | else-count-gt0-via-then-count-gt0+else-is_contiguous w ↦
          last_stands c.args.pieces.now.items c.args.piece w.index.result.now c.len-count.result (omega arith) w.index.ensures (sym w.is_contiguous.ensures ∙ w.if-is_contiguous.false)
      | else-count-gt0-via-else-count-gt0 w ↦ first_stands c.args.pieces.now.items c.args.piece c.len-count.result (omega arith) (λ some. omega arith)
    ]
