use Rattle.std.specs.Prelude.{◌≡◌, ◌≤◌, IfSome}
use Rattle.disk_defs.specs.Disk.{told_image}
use Rattle.hfs_btree.specs.Cursor.{rest_of, steps_left, KeepsFile}
use Rattle.hfs_btree.proofs.leaves.Leaves.advance.Given as goal

-- the same records are to come, and no more steps are left
abbrev pub invariant-entering : goal.invariant-entering
invariant-entering g l = record {
  same : g.S.Store.state l.store ≡ g.S.Store.state l.fn.store;
  calm : g.S.Store.faults l.store ≡ g.S.Store.faults l.fn.store;
  keeps : KeepsFile l.fn.self l.self;
  few : steps_left l.self ≤ steps_left l.fn.self;
  told : IfSome (told_image (g.S.Store.state l.fn.store)) (λ image. rest_of image l.self ≡ rest_of image l.fn.self);
}

abbrev pub decreases-entering : goal.decreases-entering
decreases-entering g l = steps_left l.self
