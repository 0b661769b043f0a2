-- The names that are reached from the root.
use Rattle.std.specs.Prelude.{ℕ, zero, suc, ◌+◌, ◌*◌, ◌%◌, Bool, not, ◌&&◌, ◌==◌, nat_le, Option, Some, None, Result, Ok, Err, List, [], ◌∷◌, ◌++◌, length, drop}
use Rattle.std.specs.List.{list_any, filter, sum_by}
use Rattle.image_defs.specs.Ask.{Ask, Done, Stop, look, check, given, ◌>>=◌, ◌>>◌}
use Rattle.image_defs.specs.Results.{each_result}
use Rattle.image_defs.specs.Through.{through}
use Rattle.rx_ranges.specs.declared.pieces.Piece.{Piece}
use Rattle.piece_defs.specs.Places.{place_through}
use Rattle.rx_tree.specs.Path.{joined_path}
use Rattle.name_defs.specs.Texts.{bytes_text}
use Rattle.fault_defs.specs.declared.Refusal.{Refusal}
use Rattle.fault_defs.specs.declared.Refusal.TheVariants.{Damaged, Limit}
use Rattle.fault_defs.specs.declared.Sort.TheVariants.{RootKind, DirSize, DirEntry, DirTwice}
use Rattle.fault_defs.specs.declared.Bound.TheVariants.{Names, PathBytes, Path, Depth}
use Rattle.ufs_inode_defs.specs.Numbers.{numbers_from}
use Rattle.ufs_inode_defs.specs.Superblock.{block_size, super_place}
use Rattle.ufs_inode_defs.specs.Inode.{is_directory, size_place, inode_named}
use Rattle.ufs_inode_defs.specs.Stream.{content_stream, block_count, content_len}
use Rattle.ufs_inode_defs.specs.Blocks.{runs_of, stream_blocks}
use Rattle.ufs_inode_defs.specs.declared.superblock.Super.{Super}
use Rattle.ufs_inode_defs.specs.declared.inode.Inode.{Inode}
use Rattle.ufs_volume_defs.specs.Directory.{Entry, entries_of, leading_entries}

-- ---- names

-- a name: the number and the inode that it is given to, the path, and the entry that gives it, which stands in the directory of
-- a number at a byte of its content
pub record Named : Type 0 where
  pub number : ℕ
  pub inode : Inode
  pub path : List ℕ
  pub directory : ℕ
  pub offset : ℕ

-- the names that were found, in the order of the walk, and the runs that were counted
pub record Walk : Type 0 where
  pub names : List Named
  pub runs : ℕ

abbrev pub with_name : Walk → Named → Walk
with_name walk name = record walk { names = walk.names ++ name ∷ [] }

abbrev pub with_runs : Walk → ℕ → Walk
with_runs walk count = record walk { runs = count }

-- the bytes of all paths together
abbrev pub path_bytes : List Named → ℕ
path_bytes names = sum_by (λ name. length name.path) names

-- the inode of a number has a name
abbrev pub is_known : ℕ → List Named → Bool
is_known number names = list_any (λ name. name.number == number) names

abbrev pub names_directory : Named → Bool
names_directory name = is_directory name.inode

-- ---- limits

abbrev pub longest_path : ℕ
longest_path = 65535

abbrev pub most_names : ℕ
most_names = 1000000

abbrev pub most_path_bytes : ℕ
most_path_bytes = 1073741824

abbrev pub deepest : ℕ
deepest = 1024

-- one more name within the limits
unfoldable pub counted_name : Walk → Named → Ask Refusal Walk
counted_name walk name = do
  check (nat_le (length name.path) longest_path) (Limit Path longest_path)
  check (nat_le (length walk.names + 1) most_names) (Limit Names most_names)
  check (nat_le (path_bytes walk.names + length name.path) most_path_bytes) (Limit PathBytes most_path_bytes)
  Done (with_name walk name)

-- ---- the entries of a directory

-- a block of a directory's content: its number there, and its place in the image
pub record Block : Type 0 where
  pub index : ℕ
  pub at : ℕ

-- the name that an entry in a block of a directory gives an inode
abbrev pub name_by : Super → Named → Block → Entry → Inode → Named
name_by sup directory block entry inode = record {
  number = entry.inode;
  inode = inode;
  path = joined_path directory.path (bytes_text entry.name);
  directory = directory.number;
  offset = block.index * block_size sup + entry.at;
}

-- an inode that an entry names: a directory has no other name
abbrev pub found_name : Super → Named → Block → Walk → Entry → Inode → Ask Refusal Walk
found_name sup directory block walk entry inode =
    check (not (is_directory inode && is_known entry.inode walk.names)) (Damaged DirTwice (block.at + entry.at))
    >> counted_name walk (name_by sup directory block entry inode)

unfoldable pub entry_name : Super → Named → Block → Walk → Entry → Ask Refusal Walk
entry_name sup directory block walk entry =
    inode_named sup entry.inode (block.at + entry.at) >>= (λ inode. found_name sup directory block walk entry inode)

-- the entries that lead on, or the first record that is no entry
abbrev pub leading : ℕ → Result (List Entry) ℕ → Result (List Entry) Refusal
leading at (Ok entries) = Ok (leading_entries entries)
leading at (Err place) = Err (Damaged DirEntry (at + place))

-- the names that the entries of a block give
unfoldable pub block_names : Super → Named → Walk → Block → Ask Refusal Walk
block_names sup directory walk block = do
  bytes ← look block.at (content_len sup directory.inode.size block.index)
  entries ← given (leading block.at (entries_of sup.order bytes))
  through (entry_name sup directory block) walk entries

-- a block of a directory is no hole
abbrev pub placed_block : Super → Inode → ℕ → Option ℕ → Result Block Refusal
placed_block sup inode index (Some at) = Ok (record { index = index; at = at })
placed_block sup inode index None = Err (Damaged DirSize (size_place sup inode))

unfoldable pub directory_blocks : Super → Inode → List Piece → Result (List Block) Refusal
directory_blocks sup inode pieces =
    each_result (λ index. placed_block sup inode index (place_through pieces (index * block_size sup))) (numbers_from 0 (block_count sup inode.size))

-- the names that the entries of a directory give
unfoldable pub directory_names : Super → Walk → Named → Ask Refusal Walk
directory_names sup walk directory = do
  check (directory.inode.size % 512 == 0) (Damaged DirSize (size_place sup directory.inode))
  laid ← stream_blocks sup (content_stream sup directory.inode) walk.runs
  blocks ← given (directory_blocks sup directory.inode laid.pieces)
  through (block_names sup directory) (with_runs walk (runs_of laid)) blocks

-- ---- the walk

-- the directories among the names behind a number of them
abbrev pub directories_behind : ℕ → List Named → List Named
directories_behind count names = filter names_directory (drop count names)

-- the names below the directories of one depth, and then those below the directories among them, down so many depths
unfoldable pub names_below : ℕ → Super → Walk → List Named → Ask Refusal Walk
names_below depths sup walk [] = Done walk
names_below zero sup walk (directory ∷ directories) = Stop (Limit Depth deepest)
names_below (suc depths) sup walk (directory ∷ directories) =
    through (directory_names sup) walk (directory ∷ directories) >>= (λ after. names_below depths sup after (directories_behind (length walk.names) after.names))

-- the root
unfoldable pub root_inode : Super → Ask Refusal Inode
root_inode sup = do
  inode ← inode_named sup 2 (super_place sup)
  check (is_directory inode) (Damaged RootKind inode.at)
  Done inode

abbrev pub root_name : Inode → Named
root_name inode = record { number = 2; inode = inode; path = 47 ∷ []; directory = 0; offset = 0 }

abbrev pub names_from : Super → Inode → Ask Refusal Walk
names_from sup inode = names_below (suc deepest) sup (record { names = root_name inode ∷ []; runs = 0 }) (root_name inode ∷ [])

-- the names of a volume
unfoldable pub volume_names : Super → Ask Refusal Walk
volume_names sup = root_inode sup >>= names_from sup
