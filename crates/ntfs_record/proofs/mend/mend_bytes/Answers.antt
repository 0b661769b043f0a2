use Rattle.std.proofs.Common.{arith, sym, ◌∙◌}
use Rattle.ntfs_record.proofs.Mends.{stored_refuses, size_bounds}
use Rattle.ntfs_record.proofs.mend.mend_bytes.Goals as goal

pub returns-in-Err-clause-checked : goal.returns-in-Err-clause-checked
returns-in-Err-clause-checked c =
    sym (stored_refuses c.args.bytes.now c.in-Err.fault (omega (arith, (size_bounds _ c.requires).0)) (sym c.check_stored.ensures ∙ c.in-Err.is))
