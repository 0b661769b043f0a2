-- Folders, paths and hard links: TN1150, "Catalog File" and "Hard Links".
use Rattle.std.specs.Prelude.{ℕ, zero, suc, Bool, false, not, ◌&&◌, ◌||◌, ◌==◌, nat_le, if◌then◌else◌, Option, Some, None, Result, Ok, Err, List, [], ◌∷◌, ◌++◌, length, is_none, decimal, codes}
use Rattle.std.specs.List.{filter, find, list_any}
use Rattle.std.specs.Option.{option_map, option_and_then}
use Rattle.std.specs.Str.{bytes_eq}
use Rattle.name_defs.specs.Texts.{units_text}
use Rattle.rx_tree.specs.Path.{joined_path}
use Rattle.hfs_volume_defs.specs.Catalog.{Entry, FileInfo}
use Rattle.fault_defs.specs.declared.Refusal.{Refusal}
use Rattle.fault_defs.specs.declared.Refusal.TheVariants.{Limit}
use Rattle.fault_defs.specs.declared.Bound.TheVariants.{Depth, Path}
use Rattle.hfs_defs.specs.declared.forks.Fork.{Fork}

-- ---- one entry for each number, and a folder for each entry

-- the numbers of the files that no catalog record has: extents, catalog, allocation, startup, attributes
abbrev pub is_special_number : ℕ → Bool
is_special_number id = list_any (λ n. id == n) (3 ∷ 4 ∷ 6 ∷ 7 ∷ 8 ∷ [])

abbrev pub has_id : ℕ → List Entry → Bool
has_id id entries = list_any (λ entry. entry.id == id) entries

-- the first entry whose number a special file has, or an entry in front of it
abbrev pub first_twice : List Entry → List Entry → Option Entry
first_twice before [] = None
first_twice before (entry ∷ entries) = if is_special_number entry.id || has_id entry.id before then Some entry else first_twice (before ++ entry ∷ []) entries

abbrev pub is_folder : Entry → Bool
is_folder entry = is_none entry.info

abbrev pub folder_of : List Entry → ℕ → Option Entry
folder_of entries id = find (λ entry. is_folder entry && entry.id == id) entries

abbrev pub has_folder : List Entry → ℕ → Bool
has_folder entries id = list_any (λ entry. is_folder entry && entry.id == id) entries

-- an entry is in a folder of the catalog. The root folder, number 2, is in folder 1, which isn't one.
abbrev pub is_in_folder : List Entry → Entry → Bool
is_in_folder entries entry = if is_folder entry && entry.id == 2 then entry.parent == 1 else has_folder entries entry.parent

abbrev pub first_outside : List Entry → List Entry → Option Entry
first_outside all [] = None
first_outside all (entry ∷ entries) = if is_in_folder all entry then first_outside all entries else Some entry

-- ---- paths

abbrev pub root_path : List ℕ
root_path = 47 ∷ []

abbrev pub deepest : ℕ
deepest = 1024

abbrev pub longest_path : ℕ
longest_path = 65535

-- the folder in which a folder is, and its name
abbrev pub parent_of : Option Entry → ℕ
parent_of None = 2
parent_of (Some folder) = folder.parent

abbrev pub name_of : Option Entry → List ℕ
name_of None = []
name_of (Some folder) = folder.name

-- a path that isn't too long
abbrev pub short_path : List ℕ → Result (List ℕ) Refusal
short_path path = if nat_le (length path) longest_path then Ok path else Err (Limit Path longest_path)

-- the path of a name in a folder whose path is known
abbrev pub path_in : Result (List ℕ) Refusal → List ℕ → Result (List ℕ) Refusal
path_in (Ok path) name = short_path (joined_path path (units_text name))
path_in (Err fault) name = Err fault

-- the path of a folder, by at most so many folders on the way to the root
unfoldable pub path_within : ℕ → List Entry → ℕ → Result (List ℕ) Refusal
path_within zero entries id = if id == 2 then Ok root_path else Err (Limit Depth deepest)
path_within (suc left) entries id =
    let above = path_within left entries (parent_of (folder_of entries id)) in
    if id == 2 then Ok root_path else path_in above (name_of (folder_of entries id))

-- the path of a folder
unfoldable pub folder_path : List Entry → ℕ → Result (List ℕ) Refusal
folder_path entries id = path_within deepest entries id

-- the path of an entry by its own name
abbrev pub own_path : List Entry → Entry → Result (List ℕ) Refusal
own_path entries entry = if is_folder entry then folder_path entries entry.id else path_in (folder_path entries entry.parent) entry.name

-- ---- hard links

-- the folder in which the named files of hard links are: four U+0000 and "HFS+ Private Data", in the root folder
abbrev pub private_name : List ℕ
private_name = 0 ∷ 0 ∷ 0 ∷ 0 ∷ codes "HFS+ Private Data"

abbrev pub private_folder : List Entry → Option Entry
private_folder entries = find (λ entry. is_folder entry && (entry.parent == 2 && bytes_eq entry.name private_name)) entries

-- the name of the file of a number: "iNode" and the number in decimal digits
abbrev pub inode_name : ℕ → List ℕ
inode_name number = codes "iNode" ++ decimal number

-- type "hlnk" and creator "hfs+"
abbrev pub has_link_type : FileInfo → Bool
has_link_type info = info.file_type == 0x686C6E6B && info.creator == 0x6866732B

abbrev pub is_empty_fork : Fork → Bool
is_empty_fork fork = fork.logical_size == 0 && fork.total_blocks == 0

-- a file that may be a hard link: by type and creator, and without content
abbrev pub may_be_link : Option FileInfo → Bool
may_be_link None = false
may_be_link (Some info) = has_link_type info && (is_empty_fork info.data_fork && is_empty_fork info.resource_fork)

-- a file that a hard link may name: not of that type and creator itself
abbrev pub may_be_named : Option FileInfo → Bool
may_be_named None = false
may_be_named (Some info) = not (has_link_type info)

-- the first file of a name in a folder
abbrev pub file_in : List Entry → List ℕ → Entry → Option Entry
file_in entries name folder = find (λ entry. not (is_folder entry) && (entry.parent == folder.id && bytes_eq entry.name name)) entries

-- an entry where it may be named
abbrev pub if_named : Entry → Option Entry
if_named entry = if may_be_named entry.info then Some entry else None

-- the number of the file that an entry names, where it is a hard link
unfoldable pub named_file : List Entry → Entry → Option ℕ
named_file entries entry =
    if may_be_link entry.info
    then option_map (λ found. found.id) (option_and_then if_named (option_and_then (file_in entries (inode_name entry.special)) (private_folder entries)))
    else None

-- the hard links that name a file
abbrev pub names_it : ℕ → Option ℕ → Bool
names_it id None = false
names_it id (Some named) = named == id

abbrev pub links_to : List Entry → ℕ → List Entry
links_to entries id = filter (λ entry. names_it id (named_file entries entry)) entries

-- the entries that are files of the tree: all but the hard links
abbrev pub listed : List Entry → List Entry
listed entries = filter (λ entry. is_none (named_file entries entry)) entries
