use Rattle.piece_defs.proofs.ThroughLaws.{through_law}
use Rattle.piece_defs.proofs.laws.pieces_have_the_bytes.Goals as goal

pub returns : goal.returns
returns c = through_law
