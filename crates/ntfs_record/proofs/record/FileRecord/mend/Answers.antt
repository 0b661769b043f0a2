use Rattle.std.proofs.Common.{sym}
use Rattle.ntfs_record.proofs.Mends.{found_is_mended}
use Rattle.ntfs_record.proofs.record.FileRecord.mend.Goals as goal

pub invariant_of-result : goal.invariant_of-result
invariant_of-result c =
    found_is_mended c.args.bytes.now c.mend_bytes.new.bytes c.requires (sym c.in-Ok.ensures.checked) c.in-Ok.ensures.mended
