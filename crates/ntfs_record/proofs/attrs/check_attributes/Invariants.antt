use Rattle.std.proofs.Common.{◌≡◌, ◌-◌, ◌≤◌}
use Rattle.ntfs_record.specs.Mending.{attributes_check, attributes_check_from}
use Rattle.ntfs_record.proofs.attrs.check_attributes.Given as goal

abbrev pub invariant-attributes : goal.invariant-attributes
invariant-attributes l = record { before : l.at ≤ l.used; same : attributes_check l.bytes ≡ attributes_check_from l.bytes l.at }

abbrev pub decreases-attributes : goal.decreases-attributes
decreases-attributes l = l.used - l.at
