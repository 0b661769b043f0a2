use Rattle.std.proofs.Common.{◌≡◌}
use Rattle.ntfs_record.specs.Mending.{ends_check, ends_check_from}
use Rattle.ntfs_record.proofs.ends.check_ends.Given as goal

abbrev pub invariant-loop-stride : goal.invariant-loop-stride
invariant-loop-stride l = ends_check l.bytes ≡ ends_check_from l.bytes l.stride
