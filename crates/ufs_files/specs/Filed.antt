-- The files of groups of names.
use Rattle.std.specs.Prelude.{◌≡◌, ℕ, ◌+◌, ◌≤◌, true, All, List, [], ◌∷◌, ◌++◌}
use Rattle.image_defs.specs.Ask.{Ask, Done, look, ◌>>=◌, ◌>>◌}
use Rattle.fault_defs.specs.declared.Refusal.{Refusal}
use Rattle.rx_ranges.specs.Path.{IsPath}
use Rattle.rx_tree.specs.NameLimits.{has_few_names}
use Rattle.rx_tree.specs.Order.{HaveRisingIds}
use Rattle.rx_tree.specs.PartValue.{PartValue}
use Rattle.rx_tree.specs.Within.{ArePartsWithin, AreFilesWithin}
use Rattle.rx_tree.specs.declared.file.FileEntry.{FileEntry}
use Rattle.ufs_inode_defs.specs.Layout.{layout_of}
use Rattle.ufs_inode_defs.specs.Superblock.{inode_place}
use Rattle.ufs_inode_defs.specs.Blocks.{most_runs}
use Rattle.ufs_inode_defs.specs.declared.superblock.Super.{Super}
use Rattle.ufs_volume_defs.specs.Files.{Filed, Parted, file_of, inode_parts}
use Rattle.ufs_names.specs.Walked.{IsInodeOf}
use Rattle.ufs_files.specs.Groups.{Group}

-- ---- the file of a group

-- one more file: that of a group, with the parts that were found
abbrev pub with_group : Super → ℕ → Filed → Group → Parted → Filed
with_group sup volume filed group parted =
    record { files = filed.files ++ file_of sup volume group.number group.inode group.paths parted.parts ∷ []; runs = parted.runs }

-- Where the inode of a group is known, its place is looked at once more, for the guard, and its parts are found.
unfoldable pub group_file : Super → ℕ → Filed → Group → Ask Refusal Filed
group_file sup volume filed group = do
  look (inode_place sup group.number) (layout_of sup.version).inode_len
  parted ← inode_parts sup filed.runs group.inode
  Done (with_group sup volume filed group parted)

-- the paths of a group are paths, and its inode is a sound one that stands where its number says
pub record IsGoodGroup (sup : Super) (group : Group) : Type 0 where
  pub paths : All IsPath group.paths
  pub inode : IsInodeOf sup group.number group.inode

-- ---- what holds of files over every store, also one that tells nothing

-- a file was added, whose parts lie in the volume, and the runs are within their limit
pub record HasFile (sup : Super) (volume : ℕ) (filed : Filed) (group : Group) (after : Filed) : Type 0 where
  pub parts : List PartValue
  pub is : after.files ≡ filed.files ++ file_of sup volume group.number group.inode group.paths parts ∷ []
  pub within : ArePartsWithin (sup.at + sup.len) parts
  pub few : after.runs ≤ most_runs

-- files of a volume rise, lie in it, and have few names
pub record AreFilesOf (sup : Super) (volume : ℕ) (files : List FileEntry) : Type 0 where
  pub rise : HaveRisingIds files
  pub in_volume : All (λ file. file.id.volume ≡ volume) files
  pub within : AreFilesWithin (sup.at + sup.len) files
  pub few_names : has_few_names files ≡ true
