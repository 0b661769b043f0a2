-- The names of a volume, by the number of the inode that has them.
use Rattle.std.specs.Prelude.{◌≡◌, ℕ, ◌==◌, if◌then◌else◌, List, [], ◌∷◌, ◌++◌, map, length}
use Rattle.std.specs.List.{All, Contains, sum_by}
use Rattle.ufs_inode_defs.specs.declared.inode.Inode.{Inode}
use Rattle.ufs_volume_defs.specs.Names.{Named, path_bytes}
use Rattle.ufs_volume_defs.specs.Files.{numbers_of, paths_of}

-- the number of an inode, the inode, and its paths
pub record Group : Type 0 where
  pub number : ℕ
  pub inode : Inode
  pub paths : List (List ℕ)

-- a name gave this inode a number
pub record IsNamedInode (names : List Named) (number : ℕ) (inode : Inode) : Type 0 where
  pub name : Named
  pub among : Contains names name
  pub number_is : name.number ≡ number
  pub inode_is : name.inode ≡ inode

-- all paths of a number, and its inode
pub record IsGroupOf (names : List Named) (group : Group) : Type 0 where
  pub paths : group.paths ≡ paths_of names group.number
  pub inode : IsNamedInode names group.number group.inode

-- one group for each number, by rising number; together they have as many paths as there are names, and as many bytes
pub record AreGroupsOf (names : List Named) (groups : List Group) : Type 0 where
  pub numbers : map (λ group. group.number) groups ≡ numbers_of names
  pub each : All (IsGroupOf names) groups
  pub count : sum_by (λ group. length group.paths) groups ≡ length names
  pub bytes : sum_by (λ group. sum_by length group.paths) groups ≡ path_bytes names

-- ---- one more name, whose number is that of the last group or greater

-- the group of one name
abbrev pub group_of : Named → Group
group_of name = record { number = name.number; inode = name.inode; paths = name.path ∷ [] }

-- the last group with one more name, or behind it the group of the name
abbrev pub with_next : Group → Named → List Group
with_next group name = if group.number == name.number then (record group { paths = group.paths ++ name.path ∷ [] } ∷ []) else (group ∷ group_of name ∷ [])

abbrev pub with_name : List Group → Named → List Group
with_name [] name = group_of name ∷ []
with_name (group ∷ []) name = with_next group name
with_name (group ∷ next ∷ groups) name = group ∷ with_name (next ∷ groups) name
