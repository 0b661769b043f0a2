use Rattle.std.proofs.Common.{◌≡◌, length, min, sum_by, take}
use Rattle.rx_tree.proofs.limits.path_bytes.Given as goal

abbrev pub invariant-loop-path : goal.invariant-loop-path
invariant-loop-path l = record { so_far : l.bytes ≡ min 18446744073709551615 (sum_by length (take l.path-index l.path-items)) }
