use Rattle.piece_defs.proofs.JoinedLaws.{joined_law}
use Rattle.piece_defs.proofs.laws.joined_pieces_are_the_content.Goals as goal

pub returns : goal.returns
returns c = joined_law
