use Rattle.std.proofs.Common.{◌≡◌, min, take}
use Rattle.rx_tree.specs.NameLimits.{name_count, path_bytes}
use Rattle.rx_tree.proofs.limits.names_fit.Given as goal

abbrev pub invariant-loop-file : goal.invariant-loop-file
invariant-loop-file l = record {
  names : l.names ≡ min 18446744073709551615 (name_count (take l.file-index l.files));
  bytes : l.bytes ≡ min 18446744073709551615 (path_bytes (take l.file-index l.files));
}
