-- What is wrong with a volume, in the words of the tables: what is damaged and where, what isn't supported, and of what
-- there is too much. Of several that hold none comes first.
use Rattle.std.specs.Prelude.{◌≡◌, ◌≤◌, ℕ, zero, suc, ◌+◌, ◌<◌, Bool, true, false, Some, Ok, Err, List, [], ◌∷◌, ◌++◌, length}
use Rattle.std.specs.List.{sum_by}
use Rattle.image_defs.specs.Ask.{result_of}
use Rattle.image_defs.specs.Results.{each_result}
use Rattle.piece_defs.specs.Places.{bytes_through}
use Rattle.name_defs.specs.Texts.{units_text}
use Rattle.rx_tree.specs.Path.{joined_path}
use Rattle.rx_tree.specs.TreeValue.{TreeValue}
use Rattle.rx_tree.specs.declared.file.FileEntry.{FileEntry}
use Rattle.hfs_defs.specs.Header.{volume_header}
use Rattle.hfs_defs.specs.HeaderDamage.{HasMagic, IsFalseInHeader}
use Rattle.hfs_defs.specs.Forks.{blocks_in, records_of, FoundFork, found_fork}
use Rattle.hfs_defs.specs.ForkDamage.{IsFalseInFork}
use Rattle.hfs_defs.specs.Leaves.{Leaf, LeafList, tree_file}
use Rattle.hfs_defs.specs.Chain.{IsFalseInTree}
use Rattle.hfs_defs.specs.Overflow.{is_overflow_record}
use Rattle.hfs_defs.specs.TreeFiles.{extents_at, catalog_at, fork_leaves, volume_overflow}
use Rattle.range_defs.specs.declared.TheConstants.{LONGEST_IMAGE}
use Rattle.hfs_volume_defs.specs.Catalog.{Entry, FileInfo, is_catalog_record}
use Rattle.hfs_volume_defs.specs.Folders.{is_special_number, has_id, has_folder, is_in_folder, links_to, listed, is_empty_fork, is_folder, parent_of, name_of, folder_of, root_path, deepest, longest_path}
use Rattle.hfs_volume_defs.specs.Files.{NamedEntry, entries_or_own, named_entries, entry_file, SpecialFile, special_files, special_file}
use Rattle.hfs_volume_defs.specs.Volume.{volume_entries, most_names, most_path_bytes, most_runs, all_names, run_count, volume_tree}
use Rattle.fault_defs.specs.declared.Bound.{Bound}
use Rattle.fault_defs.specs.declared.Bound.TheVariants.{Image, Names, PathBytes, Path, Depth, Runs}
use Rattle.fault_defs.specs.declared.Refusal.{Refusal}
use Rattle.fault_defs.specs.declared.Refusal.TheVariants.{NotThis, Damaged, Unsupported, Limit}
use Rattle.fault_defs.specs.declared.Sort.{Sort}
use Rattle.fault_defs.specs.declared.Sort.TheVariants.{ExtentsRecord, CatalogRecord, CatalogTwice, FolderMissing}
use Rattle.fault_defs.specs.declared.What.{What}
use Rattle.fault_defs.specs.declared.What.TheVariants.{ExtentsFork}
use Rattle.hfs_defs.specs.declared.forks.Fork.{Fork}
use Rattle.hfs_defs.specs.declared.forks.OverflowRecord.{OverflowRecord}
use Rattle.hfs_defs.specs.declared.header.Header.{Header}

-- the clauses of a tree file that are false, and where: those of its fork, of its tree, and of its leaf records, of which
-- each has to pass a test
pub data IsFalseInFile (image : List ℕ) (header : Header) (records : List OverflowRecord) (fork : Fork) (place : ℕ) (is_record : List ℕ → Bool) (bad : Sort) : Sort → ℕ → Type 0 where
  OfFork : (sort : Sort) (at : ℕ) → IsFalseInFork header records fork place sort at → IsFalseInFile image header records fork place is_record bad sort at
  OfTree : (found : FoundFork) (sort : Sort) (at : ℕ) → found_fork header records fork place ≡ Ok found
      → IsFalseInTree (tree_file (bytes_through image found.pieces) found.pieces place) sort at → IsFalseInFile image header records fork place is_record bad sort at
  OfRecord : (sort : Sort) (leaves : LeafList) (front : List Leaf) (leaf : Leaf) (behind : List Leaf) → sort ≡ bad → result_of image (fork_leaves header records fork place) ≡ Ok leaves
      → leaves.records ≡ front ++ leaf ∷ behind → is_record leaf.bytes ≡ false → IsFalseInFile image header records fork place is_record bad sort leaf.at

-- the clauses of the entries of a catalog that are false, and where
pub data IsFalseInEntries (header : Header) (entries : List Entry) : Sort → ℕ → Type 0 where
  SpecialNumber : (front : List Entry) (entry : Entry) (behind : List Entry) → entries ≡ front ++ entry ∷ behind → is_special_number entry.id ≡ true → IsFalseInEntries header entries CatalogTwice entry.at
  Twice : (front : List Entry) (entry : Entry) (behind : List Entry) → entries ≡ front ++ entry ∷ behind → has_id entry.id (front ++ behind) ≡ true → IsFalseInEntries header entries CatalogTwice entry.at
  NoRoot : has_folder entries 2 ≡ false → IsFalseInEntries header entries FolderMissing (catalog_at header)
  Outside : (front : List Entry) (entry : Entry) (behind : List Entry) → entries ≡ front ++ entry ∷ behind → is_in_folder entries entry ≡ false → IsFalseInEntries header entries FolderMissing entry.at

-- the clauses of the forks of files that are false, and where: of the data fork of each file that isn't a hard link, of its
-- resource fork where it has one, and of the special files
pub data IsFalseInFiles (header : Header) (overflow : List OverflowRecord) (entries : List Entry) : Sort → ℕ → Type 0 where
  InDataFork : (front : List Entry) (entry : Entry) (behind : List Entry) (info : FileInfo) (sort : Sort) (place : ℕ) → listed entries ≡ front ++ entry ∷ behind → entry.info ≡ Some info
      → IsFalseInFork header (records_of overflow entry.id 0) info.data_fork (entry.body_at + 88) sort place → IsFalseInFiles header overflow entries sort place
  InResourceFork : (front : List Entry) (entry : Entry) (behind : List Entry) (info : FileInfo) (sort : Sort) (place : ℕ) → listed entries ≡ front ++ entry ∷ behind → entry.info ≡ Some info
      → is_empty_fork info.resource_fork ≡ false → IsFalseInFork header (records_of overflow entry.id 255) info.resource_fork (entry.body_at + 168) sort place → IsFalseInFiles header overflow entries sort place
  InSpecialFork : (front : List SpecialFile) (special : SpecialFile) (behind : List SpecialFile) (sort : Sort) (place : ℕ) → special_files header ≡ front ++ special ∷ behind
      → IsFalseInFork header (records_of overflow special.number 0) special.fork (header.at + 1024 + special.offset) sort place → IsFalseInFiles header overflow entries sort place

-- a volume up to its header, its overflow records, and its entries
abbrev pub HasHeader : List ℕ → ℕ → ℕ → Header → Type 0
HasHeader image at len header = result_of image (volume_header at len) ≡ Ok header

pub record HasOverflow (image : List ℕ) (at len : ℕ) (header : Header) (overflow : List OverflowRecord) : Type 0 where
  pub header_is : HasHeader image at len header
  pub overflow_is : result_of image (volume_overflow header) ≡ Ok overflow

pub record HasEntries (image : List ℕ) (at len : ℕ) (header : Header) (overflow : List OverflowRecord) (entries : List Entry) : Type 0 where
  pub below : HasOverflow image at len header overflow
  pub entries_are : result_of image (volume_entries header overflow) ≡ Ok entries

-- the clauses that are false of a volume, and where
pub data IsFalseAt (image : List ℕ) (at len : ℕ) : Sort → ℕ → Type 0 where
  InHeader : (sort : Sort) (place : ℕ) → HasMagic image at len → IsFalseInHeader image at len sort place → IsFalseAt image at len sort place
  InExtents : (header : Header) (sort : Sort) (place : ℕ) → HasHeader image at len header
      → IsFalseInFile image header [] header.extents (extents_at header) is_overflow_record ExtentsRecord sort place → IsFalseAt image at len sort place
  InCatalog : (header : Header) (overflow : List OverflowRecord) (sort : Sort) (place : ℕ) → HasOverflow image at len header overflow
      → IsFalseInFile image header (records_of overflow 4 0) header.catalog (catalog_at header) is_catalog_record CatalogRecord sort place → IsFalseAt image at len sort place
  InEntries : (header : Header) (overflow : List OverflowRecord) (entries : List Entry) (sort : Sort) (place : ℕ) → HasEntries image at len header overflow entries
      → IsFalseInEntries header entries sort place → IsFalseAt image at len sort place
  InFiles : (header : Header) (overflow : List OverflowRecord) (entries : List Entry) (sort : Sort) (place : ℕ) → HasEntries image at len header overflow entries
      → IsFalseInFiles header overflow entries sort place → IsFalseAt image at len sort place

-- what isn't supported: an extents file whose eight extents aren't all of its blocks
pub data IsUnsupportedAt (image : List ℕ) (at len : ℕ) : What → ℕ → Type 0 where
  MoreExtents : (header : Header) → HasHeader image at len header → (blocks_in header.extents.extents ≡ header.extents.total_blocks → ⊥) → IsUnsupportedAt image at len ExtentsFork (extents_at header)

-- the folder that is so many folders above one
abbrev pub above : ℕ → List Entry → ℕ → ℕ
above zero entries id = id
above (suc n) entries id = above n entries (parent_of (folder_of entries id))

-- the path of a folder, which is so many folders below the root
abbrev pub IsPathOf : ℕ → List Entry → ℕ → List ℕ → Type 0
IsPathOf zero entries id path = (id ≡ 2) × (path ≡ root_path)
IsPathOf (suc n) entries id path =
    (id ≡ 2 → ⊥) × ((parent : List ℕ) × IsPathOf n entries (parent_of (folder_of entries id)) parent × (path ≡ joined_path parent (units_text (name_of (folder_of entries id)))))

-- an entry is too deep: no folder that is at most 1,024 above it is the root
abbrev pub IsDeep : List Entry → ℕ → Type 0
IsDeep entries id = (n : ℕ) → n ≤ deepest → above n entries id ≡ 2 → ⊥

-- the folder from which an entry is counted: itself, or that of a file
abbrev pub counted_from : Bool → Entry → ℕ
counted_from true entry = entry.id
counted_from false entry = entry.parent

-- the path of an entry, which is a folder or a file
abbrev pub IsNameOf : Bool → List Entry → Entry → List ℕ → Type 0
IsNameOf true entries entry path = (n : ℕ) × IsPathOf n entries entry.id path
IsNameOf false entries entry path = (n : ℕ) × ((parent : List ℕ) × IsPathOf n entries entry.parent parent × (path ≡ joined_path parent (units_text entry.name)))

-- what there is more of than its limit: bytes of the image; folders above a name, or bytes of its path; names, and bytes of
-- all of them; pieces of all files
pub data IsOver (image : List ℕ) (at len volume : ℕ) : Bound → ℕ → Type 0 where
  LongImage : LONGEST_IMAGE < length image → IsOver image at len volume Image LONGEST_IMAGE
  DeepName : (header : Header) (overflow : List OverflowRecord) (entries front : List Entry) (entry : Entry) (behind others : List Entry) (one : Entry) (more : List Entry)
      → HasEntries image at len header overflow entries → listed entries ≡ front ++ entry ∷ behind → entries_or_own (links_to entries entry.id) entry ≡ others ++ one ∷ more
      → IsDeep entries (counted_from (is_folder one) one) → IsOver image at len volume Depth deepest
  LongName : (header : Header) (overflow : List OverflowRecord) (entries front : List Entry) (entry : Entry) (behind others : List Entry) (one : Entry) (more : List Entry) (path : List ℕ)
      → HasEntries image at len header overflow entries → listed entries ≡ front ++ entry ∷ behind → entries_or_own (links_to entries entry.id) entry ≡ others ++ one ∷ more
      → IsNameOf (is_folder one) entries one path → longest_path < length path → IsOver image at len volume Path longest_path
  ManyNames : (header : Header) (overflow : List OverflowRecord) (entries : List Entry) (named : List NamedEntry) → HasEntries image at len header overflow entries → named_entries entries ≡ Ok named
      → most_names < length (all_names header named) → IsOver image at len volume Names most_names
  LongNames : (header : Header) (overflow : List OverflowRecord) (entries : List Entry) (named : List NamedEntry) → HasEntries image at len header overflow entries → named_entries entries ≡ Ok named
      → most_path_bytes < sum_by length (all_names header named) → IsOver image at len volume PathBytes most_path_bytes
  ManyRuns : (header : Header) (overflow : List OverflowRecord) (entries : List Entry) (named : List NamedEntry) (files specials : List FileEntry) → HasEntries image at len header overflow entries
      → named_entries entries ≡ Ok named → each_result (entry_file volume header overflow) named ≡ Ok files → each_result (special_file volume header overflow) (special_files header) ≡ Ok specials
      → most_runs < run_count (files ++ specials) → IsOver image at len volume Runs most_runs

-- what a refusal says of a volume with the magic holds of it
abbrev pub IsWrong : List ℕ → ℕ → ℕ → ℕ → Refusal → Type 0
IsWrong image at len volume NotThis = ⊥
IsWrong image at len volume (Damaged sort place) = IsFalseAt image at len sort place
IsWrong image at len volume (Unsupported what place) = IsUnsupportedAt image at len what place
IsWrong image at len volume (Limit bound number) = IsOver image at len volume bound number

-- A volume without the magic is something else, and one with it isn't. What refuses a volume with the magic is wrong with
-- it, nothing is wrong with one that has a tree, and one with which nothing is wrong has a tree.
pub record RefusalsAreTrue (image : List ℕ) (at len volume : ℕ) : Type 0 where
  pub other : (HasMagic image at len → ⊥) → result_of image (volume_tree (length image) at len volume) ≡ Err NotThis
  pub refuses : (fault : Refusal) → HasMagic image at len → result_of image (volume_tree (length image) at len volume) ≡ Err fault → IsWrong image at len volume fault
  pub accepts : (tree : TreeValue) (fault : Refusal) → result_of image (volume_tree (length image) at len volume) ≡ Ok tree → IsWrong image at len volume fault → ⊥
  pub complete : HasMagic image at len → ((fault : Refusal) → IsWrong image at len volume fault → ⊥) → (tree : TreeValue) × (result_of image (volume_tree (length image) at len volume) ≡ Ok tree)

abbrev pub HfsDamageLaw : Type 0
HfsDamageLaw = (image : List ℕ) (at len volume : ℕ) → RefusalsAreTrue image at len volume
