use Rattle.hfs_btree.proofs.Places.{IsAhead}
use Rattle.hfs_btree.proofs.way.image_place.Given as goal

-- the byte stands in none of the pieces so far
abbrev pub invariant-loop-piece : goal.invariant-loop-piece
invariant-loop-piece l = IsAhead l.pieces l.len l.byte l.piece-index
