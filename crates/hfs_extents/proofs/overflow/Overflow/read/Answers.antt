use Rattle.std.proofs.Common.{sym, subst, ◌+◌}
use Rattle.std.specs.Prelude.{IfSome, All}
use Rattle.disk_defs.specs.Disk.{State, told_image}
use Rattle.hfs_btree.specs.Cursor.{rest_of}
use Rattle.hfs_extents.specs.Overflow.{IsNear}
use Rattle.hfs_extents.proofs.NearLaws.{starts_near}
use Rattle.hfs_extents.proofs.overflow.Overflow.read.Goals as goal

pub read_records-requires-clause-near : goal.read_records-requires-clause-near
read_records-requires-clause-near g c =
    let P : State → Type 0 = λ state. IfSome (told_image state) (λ image. All IsNear (rest_of image c.in_ok-leaves.leaves).records) in
    subst P (sym c.start.ensures.same)
    (starts_near (c.args.header.now.at + c.args.header.now.len) (told_image (g.S.Store.state c.args.store.now)) c.in_ok-laid.laid.pieces _ c.in_ok-leaves.leaves c.in_ok-laid.ensures.within c.in_ok-laid.ensures.near c.in_ok-leaves.ensures.told)
