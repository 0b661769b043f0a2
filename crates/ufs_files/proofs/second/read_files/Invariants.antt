use Rattle.std.proofs.Common.{◌≡◌, ◌+◌, ◌≤◌, length, drop}
use Rattle.disk_defs.specs.Disk.{told_image}
use Rattle.image_reads.specs.Steps.{KeptWithin}
use Rattle.image_reads.proofs.Coming.{IsCome}
use Rattle.image_defs.specs.Through.{through}
use Rattle.ufs_inode_defs.specs.Blocks.{most_runs}
use Rattle.ufs_volume_defs.specs.Files.{number_file, numbers_of, named_files}
use Rattle.ufs_files.proofs.FileLaws.{AreMadeOf}
use Rattle.ufs_files.proofs.RestLaws.{IsRestOf, taken}
use Rattle.ufs_files.proofs.second.read_files.Given as goal

-- the files so far are those of the groups so far, and the rest of the program gives the others
abbrev pub invariant-loop-group : goal.invariant-loop-group
invariant-loop-group g l = record {
  same : g.S.Store.state l.store ≡ g.S.Store.state l.fn.store;
  calm : g.S.Store.faults l.store ≡ g.S.Store.faults l.fn.store;
  rest : IsRestOf l.initial.groups l.groups;
  come : IsCome (told_image (g.S.Store.state l.fn.store)) (named_files l.sup l.volume l.fn.names.items) l.fn.looked.items (through (number_file l.sup l.volume l.fn.names.items) l.filed (drop (length (taken l.initial.groups l.groups)) (numbers_of l.fn.names.items))) l.looked.items;
  made : AreMadeOf l.sup l.volume (taken l.initial.groups l.groups) l.filed.files;
  few : l.filed.runs ≤ most_runs;
  kept : KeptWithin (l.sup.at + l.sup.len) l.fn.looked.items l.looked.items;
}

abbrev pub decreases-loop-group : goal.decreases-loop-group
decreases-loop-group g l = length l.groups
