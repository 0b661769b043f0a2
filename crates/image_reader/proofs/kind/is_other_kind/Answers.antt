use Rattle.std.proofs.Common.{◌||◌, ap, sym}
use Rattle.disk_defs.specs.Disk.{told_image}
use Rattle.image_reader.proofs.Magics.{kind_told}
use Rattle.image_reader.proofs.kind.is_other_kind.Goals as goal

pub returns-then-ntfs-clause-told : goal.returns-then-ntfs-clause-told
returns-then-ntfs-clause-told g c =
    kind_told (told_image (g.S.Store.state c.args.store.now)) _ c.in_ok-ntfs.ntfs c.in_ok-hfs.hfs c.in_ok-ntfs.ntfs (ap told_image c.in_ok-ntfs.ensures.same) c.in_ok-ntfs.ensures.told c.in_ok-hfs.ensures.told
    (rw c.if-ntfs.true)

pub returns-else-ntfs-clause-told : goal.returns-else-ntfs-clause-told
returns-else-ntfs-clause-told g c =
    kind_told (told_image (g.S.Store.state c.args.store.now)) _ c.in_ok-ntfs.ntfs c.in_ok-hfs.hfs c.in_ok-hfs.hfs (ap told_image c.in_ok-ntfs.ensures.same) c.in_ok-ntfs.ensures.told c.in_ok-hfs.ensures.told
    (ap (λ t. t || c.in_ok-hfs.hfs) (sym c.if-ntfs.false))
