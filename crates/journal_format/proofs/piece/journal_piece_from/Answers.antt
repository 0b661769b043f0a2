use Rattle.std.proofs.Common.{◌≡◌, ap, ◌∙◌, arith, ◌+◌, ◌-◌, ◌*◌, ◌/◌, length, sum_by}
use Rattle.std.specs.List.{flat_map}
use Rattle.bytes_defs.specs.Bytes.{part}
use Rattle.journal_defs.specs.Form.{first_journal, range_bytes, line_bytes}
use Rattle.journal_format.proofs.Fills.{fills_same, piece_is}
use Rattle.journal_format.proofs.piece.journal_piece_from.Goals as goal
use Rattle.rx_ranges.specs.PlanChecks.{listed_len}

pub returns-clause-filled : goal.returns-clause-filled
returns-clause-filled c =
    let long : length c.put_zeros.new.piece ≡ length c.args.buf.now = c.put_zeros.auto.piece ∙ c.put_lines-next.auto.piece ∙ c.put_ranges.auto.piece ∙ c.put_front.auto.piece in
    let count : length c.items-ranges.result.now ≡ length c.args.plan.now.ranges = ap length c.items-ranges.ensures.items in
    let listing = 40 + 24 * length c.items-ranges.result.now in
    let end = c.args.len - ((length c.items-ranges.result.now + 63) / 64 + 1) in
    let begins : listing ≡ 40 + 24 * length c.args.plan.now.ranges = omega (arith, count) in
    let ends : end ≡ listing + sum_by listed_len c.args.plan.now.listing = omega (arith, count, c.requires.len) in
    piece_is c.args.plan.now _ _ _ _ _ c.args.at listing end begins ends c.put_front.ensures (fills_same _ _ _ _ _ _ (ap (flat_map range_bytes) c.items-ranges.ensures.items) c.put_ranges.ensures)
    (fills_same _ _ _ _ _ _ (ap (flat_map line_bytes) c.items.ensures) c.put_lines-next.ensures.fills) c.put_zeros.ensures (omega (arith, long, c.requires.inside))
    ∙ ap (part (first_journal c.args.plan.now) c.args.at) long
