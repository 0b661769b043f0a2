use Rattle.ntfs_record.proofs.Filling.{AreFilled}
use Rattle.ntfs_record.proofs.ends.fill_ends.Given as goal

abbrev pub invariant-loop-stride : goal.invariant-loop-stride
invariant-loop-stride l = AreFilled l.fn.bytes l.bytes l.from l.step l.stride
