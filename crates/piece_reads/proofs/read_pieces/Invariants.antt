use Rattle.std.proofs.Common.{◌≡◌, ◌-◌, ◌<◌, ◌≤◌, length, get_or, IfSome}
use Rattle.rx_ranges.specs.declared.pieces.Piece.{Piece}
use Rattle.disk_defs.specs.Disk.{told_image}
use Rattle.piece_reads.proofs.Reading.{IsRead}
use Rattle.piece_reads.proofs.read_pieces.Given as goal

-- the pieces that are passed end in front of what was asked for
abbrev pub invariant-loop-passed : goal.invariant-loop-passed
invariant-loop-passed g l = record {
  few : l.passed ≤ length l.pieces;
  bytes : IfSome (told_image (g.S.Store.state l.fn.store)) (λ image. IsRead l.pieces image l.from l.fn.buf 0 l.skip l.passed);
}

abbrev pub decreases-loop-passed : goal.decreases-loop-passed
decreases-loop-passed g l = length l.pieces - l.passed

-- what was read so far, and what the pieces behind have, are all; the store is as it was
abbrev pub invariant-reading : goal.invariant-reading
invariant-reading g l = record {
  few : l.done ≤ length l.buf;
  begun : (d : Piece) → l.passed < length l.pieces → l.skip ≤ (get_or l.pieces l.passed d).len;
  long : length l.buf ≡ length l.fn.buf;
  same : g.S.Store.state l.store ≡ g.S.Store.state l.fn.store;
  calm : g.S.Store.faults l.store ≡ g.S.Store.faults l.fn.store;
  bytes : IfSome (told_image (g.S.Store.state l.fn.store)) (λ image. IsRead l.pieces image l.from l.buf l.done l.skip l.passed);
}

abbrev pub decreases-reading : goal.decreases-reading
decreases-reading g l = length l.pieces - l.passed
