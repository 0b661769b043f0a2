use Rattle.std.proofs.Common.{arith}
use Rattle.rx_ranges.specs.declared.pieces.Piece.{Piece}
use Rattle.rx_ranges.specs.declared.pieces.PieceKind.TheVariants.{Disk}
use Rattle.hfs_btree.proofs.Places.{ahead_starts, ends_by}
use Rattle.hfs_btree.proofs.way.image_place.Goals as goal

abbrev none : Piece
none = record { from = 0; len = 0; kind = Disk; at = 0 }

pub loop-piece-init : goal.loop-piece-init
loop-piece-init c = ahead_starts _ _ _ c.requires.covered

pub overflow_add-piece : goal.overflow_add-piece
overflow_add-piece c = omega (arith, ends_by _ _ _ _ none c.loop-piece-test.true c.loop-piece.invariant, c.ranges.len.fits)
