use Rattle.ufs_inode_defs.proofs.StreamLaws.{stream_law}
use Rattle.ufs_inode_defs.proofs.laws.pieces_are_the_stream.Goals as goal

pub returns : goal.returns
returns c = stream_law
