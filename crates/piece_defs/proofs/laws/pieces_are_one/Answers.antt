use Rattle.piece_defs.proofs.OnePieces.{one_pieces_law}
use Rattle.piece_defs.proofs.laws.pieces_are_one.Goals as goal

pub returns : goal.returns
returns c = one_pieces_law
