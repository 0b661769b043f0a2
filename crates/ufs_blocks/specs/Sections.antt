-- The parts that an inode has.
use Rattle.std.specs.Prelude.{◌≡◌, ◌⊎◌, Bool, not, ◌&&◌, ◌||◌, ◌==◌, if◌then◌else◌, List, [], ◌∷◌}
use Rattle.rx_tree.specs.PartValue.{PartValue}
use Rattle.rx_tree.specs.declared.part.Role.TheVariants as roles
use Rattle.ufs_inode_defs.specs.Inode.{is_directory, is_file, is_link, is_short_link}
use Rattle.ufs_inode_defs.specs.declared.superblock.Super.{Super}
use Rattle.ufs_inode_defs.specs.declared.inode.Inode.{Inode}
use Rattle.ufs_volume_defs.specs.Files.{Section, extended_section}

-- devices, pipes and sockets have no parts
abbrev pub has_parts : Inode → Bool
has_parts inode = is_directory inode || (is_file inode || is_link inode)

-- a link whose target stands in the inode has no content
abbrev pub has_content : Super → Inode → Bool
has_content sup inode = has_parts inode && not (is_short_link sup inode)

abbrev pub has_extended : Inode → Bool
has_extended inode = has_parts inode && not (inode.extsize == 0)

-- the extended area, where an inode has one
abbrev pub extended_list : Inode → List Section
extended_list inode = if has_extended inode then extended_section inode ∷ [] else []

-- no part, or a content alone
abbrev pub IsContentAlone : List PartValue → Type 0
IsContentAlone parts = (parts ≡ []) ⊎ ((part : PartValue) × (parts ≡ part ∷ []) × (part.role ≡ roles.Content))
