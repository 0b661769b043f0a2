use Rattle.std.proofs.Common.{◌≡◌, take}
use Rattle.std.specs.List.{filter}
use Rattle.ufs_volume_defs.specs.Names.{names_directory}
use Rattle.ufs_names.proofs.levels.directories_behind.Given as goal

-- the directories among the names so far
abbrev pub invariant-loop-name : goal.invariant-loop-name
invariant-loop-name l = l.found.items ≡ filter names_directory (take l.name-index l.name-items)
