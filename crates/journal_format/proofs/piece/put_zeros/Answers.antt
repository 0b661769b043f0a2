use Rattle.std.proofs.Common.{ap, ◌-◌, min, length, ◌∙◌}
use Rattle.journal_format.proofs.Fills.{zeros_fill}
use Rattle.journal_format.proofs.piece.put_zeros.Goals as goal

pub returns : goal.returns
returns c = λ n.
    zeros_fill c.args.piece.now _ c.args.at c.args.place c.min-from.result n (c.min-from.ensures ∙ ap (λ m. min (m - c.args.at) (length c.args.piece.now)) c.max.ensures) c.clear_from.auto.piece
    c.clear_from.ensures.zeros c.clear_from.ensures.front
