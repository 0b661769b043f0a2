use Rattle.std.proofs.Common.{ap, length, sum_by, ◌∙◌}
use Rattle.rx_ranges.specs.PlanChecks.{listed_len}
use Rattle.journal_defs.specs.Form.{little}
use Rattle.journal_format.proofs.Fills.{fills_same, header_fills}
use Rattle.journal_format.proofs.piece.put_header.Goals as goal

pub returns : goal.returns
returns c =
    header_fills c.args.plan.now _ _ _ _ _ _ _ c.args.at c.put.ensures c.put_u64.ensures (fills_same _ _ _ _ _ _ (ap (λ ranges. little 4 (length ranges)) c.items.ensures.items) c.put_u32.ensures)
    (fills_same _ _ _ _ _ _ (ap (λ lines. little 4 (length lines)) c.items-lines.ensures) c.put_u32-2.ensures) (fills_same _ _ _ _ _ _ (ap (little 8) c.body_len.ensures) c.put_u64-2.ensures)
    (fills_same _ _ _ _ _ _ (ap (little 8) (c.listing_len.ensures ∙ ap (sum_by listed_len) c.items-lines.ensures)) c.put_u64-3.ensures)
