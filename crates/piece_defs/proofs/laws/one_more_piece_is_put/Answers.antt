use Rattle.piece_defs.proofs.Put.{put_law}
use Rattle.piece_defs.proofs.laws.one_more_piece_is_put.Goals as goal

pub returns : goal.returns
returns c = put_law
