use Rattle.std.proofs.Common.{ap, ◌∙◌, arith, refl, ◌-◌, ◌/◌, ◌+◌, min, length}
use Rattle.std.proofs.lemmas.List.{get_or_default}
use Rattle.journal_format.proofs.Fills.{ranges_begin, ranges_more, ranges_end}
use Rattle.journal_format.proofs.piece.put_ranges.Goals as goal

pub loop-i-init : goal.loop-i-init
loop-i-init c =
    ranges_begin c.args.ranges.now c.args.piece.now c.args.at c.min-first.result (c.min-first.ensures ∙ ap (λ m. min ((m - 40) / 24) (length c.args.ranges.now)) c.max.ensures)

pub loop-i-preserved : goal.loop-i-preserved
loop-i-preserved c = ranges_more c.args.ranges.now c.loop-i.i _ _ _ _ c.args.at (omega arith) (get_or_default c.args.ranges.now c.loop-i.i _ _ (omega arith)) c.loop-i.invariant c.put_range.ensures

pub returns : goal.returns
returns c =
    ranges_end c.args.ranges.now _ _ c.args.at _ c.min-last.result c.loop-i.i refl c.loop-i.auto.piece (c.min-last.ensures ∙ ap (λ m. min ((m - 40) / 24 + 1) (length c.args.ranges.now)) c.max-2.ensures) c.loop-i-test.false
    c.loop-i.invariant
