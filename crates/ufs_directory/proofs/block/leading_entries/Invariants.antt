use Rattle.std.proofs.Common.{◌-◌, ◌<◌, length}
use Rattle.std.specs.List.{All}
use Rattle.ufs_directory.proofs.Leading.{HasPassed}
use Rattle.ufs_directory.proofs.block.leading_entries.Given as goal

-- the leading ones of the entries in front of a place were found, and begin in the block
abbrev pub invariant-loop-place : goal.invariant-loop-place
invariant-loop-place l = record {
  passed : HasPassed l.order l.bytes l.found.items l.place;
  inside : All (λ entry. entry.at < length l.bytes) l.found.items;
}

abbrev pub decreases-loop-place : goal.decreases-loop-place
decreases-loop-place l = length l.bytes - l.place
