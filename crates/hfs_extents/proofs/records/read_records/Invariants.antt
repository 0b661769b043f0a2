use Rattle.std.specs.Prelude.{◌≡◌, All, IfSome}
use Rattle.disk_defs.specs.Disk.{told_image}
use Rattle.hfs_btree.specs.Cursor.{rest_of, steps_left}
use Rattle.hfs_defs.specs.Overflow.{overflow_records}
use Rattle.hfs_extents.specs.Extents.{AreNear}
use Rattle.hfs_extents.specs.Overflow.{IsNear}
use Rattle.hfs_extents.proofs.RecordLaws.{in_front}
use Rattle.hfs_extents.proofs.records.read_records.Given as goal

-- the records so far, with those of the leaf records that are to come, are all
abbrev pub invariant-reading : goal.invariant-reading
invariant-reading g l = record {
  same : g.S.Store.state l.store ≡ g.S.Store.state l.fn.store;
  calm : g.S.Store.faults l.store ≡ g.S.Store.faults l.fn.store;
  pieces : l.leaves.pieces ≡ l.fn.leaves.pieces;
  near : AreNear l.records.items;
  leaves_near : IfSome (told_image (g.S.Store.state l.fn.store)) (λ image. All IsNear (rest_of image l.leaves).records);
  told : IfSome (told_image (g.S.Store.state l.fn.store)) (λ image. overflow_records (rest_of image l.fn.leaves) ≡ in_front l.records.items (overflow_records (rest_of image l.leaves)));
}

abbrev pub decreases-reading : goal.decreases-reading
decreases-reading g l = steps_left l.leaves
