use Rattle.journal_format.proofs.piece.journal_piece.Goals as goal

pub journal_piece_from-next-requires-clause-cursor : goal.journal_piece_from-next-requires-clause-cursor
journal_piece_from-next-requires-clause-cursor c = c.first.ensures c.args.at
