use Rattle.std.proofs.Common.{arith, ap, ◌+◌}
use Rattle.std.specs.List.{flat_map}
use Rattle.std.proofs.lemmas.List.{take_all}
use Rattle.journal_defs.specs.Form.{line_bytes}
use Rattle.journal_format.proofs.Fills.{fills_same, lines_start, lines_step, lines_end}
use Rattle.journal_format.proofs.piece.put_lines.Goals as goal

pub loop-line-init : goal.loop-line-init
loop-line-init c = record {
  fills = lines_start c.args.lines.now c.args.from.line c.args.piece.now c.args.at c.args.begin c.args.from.place c.requires.place c.requires.passed;
  place = c.requires.place;
  passed = omega (arith, c.requires.passed);
}

pub loop-line-preserved : goal.loop-line-preserved
loop-line-preserved c =
    let step =
    lines_step c.args.lines.now c.loop-line.line _ _ _ _ c.args.at c.args.begin c.loop-line.place _ c.put_line.ensures (omega arith) c.index-lines-line.is c.loop-line.invariant.place
    c.line_len.ensures c.loop-line.invariant.fills in
    record { fills = step.0; place = step.1; passed = omega (arith, c.if-end-next.false) }

pub returns-then-end-next-clause-fills : goal.returns-then-end-next-clause-fills
returns-then-end-next-clause-fills c =
    let step =
    lines_step c.args.lines.now c.loop-line.line _ _ _ _ c.args.at c.args.begin c.loop-line.place _ c.put_line.ensures (omega arith) c.index-lines-line.is c.loop-line.invariant.place
    c.line_len.ensures c.loop-line.invariant.fills in
    lines_end c.args.lines.now (c.loop-line.line + 1) _ _ c.args.at c.args.begin (c.loop-line.place + c.line_len.result) step.1 (omega (arith, c.if-end-next.true, c.loop-line.auto.piece, c.put_line.auto.piece)) step.0

pub returns-clause-fills : goal.returns-clause-fills
returns-clause-fills c = fills_same _ _ _ _ c.args.at c.args.begin (ap (flat_map line_bytes) (take_all c.loop-line.line c.args.lines.now (omega arith))) c.loop-line.invariant.fills
