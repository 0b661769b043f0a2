-- The extents file and the catalog as tree files: they are asked for as a whole, piece by piece.
use Rattle.std.specs.Prelude.{ℕ, ◌+◌, ◌==◌, List, [], replicate}
use Rattle.std.specs.List.{flat_map}
use Rattle.image_defs.specs.Ask.{Ask, Done, look, check, given, each, ◌>>=◌, ◌>>◌}
use Rattle.rx_ranges.specs.declared.pieces.Piece.{Piece}
use Rattle.rx_ranges.specs.declared.pieces.PieceKind.{PieceKind}
use Rattle.rx_ranges.specs.declared.pieces.PieceKind.TheVariants.{Disk, Zero}
use Rattle.hfs_defs.specs.Forks.{blocks_in, found_fork}
use Rattle.hfs_defs.specs.Leaves.{LeafList, tree_file, leaves_of}
use Rattle.hfs_defs.specs.Overflow.{overflow_records}
use Rattle.fault_defs.specs.declared.Refusal.{Refusal}
use Rattle.fault_defs.specs.declared.Refusal.TheVariants.{Unsupported}
use Rattle.fault_defs.specs.declared.What.TheVariants.{ExtentsFork}
use Rattle.hfs_defs.specs.declared.forks.Fork.{Fork}
use Rattle.hfs_defs.specs.declared.forks.OverflowRecord.{OverflowRecord}
use Rattle.hfs_defs.specs.declared.header.Header.{Header}

-- the bytes of a piece: one look, or zeros
abbrev pub look_of_kind : PieceKind → ℕ → ℕ → Ask Refusal (List ℕ)
look_of_kind Disk at len = look at len
look_of_kind Zero at len = Done (replicate len 0)

-- the bytes of a file that pieces cover
unfoldable pub look_through : List Piece → Ask Refusal (List ℕ)
look_through pieces = do
  bytes ← each (λ piece. look_of_kind piece.kind piece.at piece.len) pieces
  Done (flat_map (λ list. list) bytes)

-- the places of the fork data of the extents file and of the catalog
abbrev pub extents_at : Header → ℕ
extents_at header = header.at + 1216

abbrev pub catalog_at : Header → ℕ
catalog_at header = header.at + 1296

-- the leaf records of the tree file that these pieces cover, whose fork data stand at a place
unfoldable pub tree_leaves : ℕ → List Piece → Ask Refusal LeafList
tree_leaves place pieces = do
  bytes ← look_through pieces
  Done (leaves_of (tree_file bytes pieces place))

-- the leaf records of the tree file that a fork with these overflow records is
unfoldable pub fork_leaves : Header → List OverflowRecord → Fork → ℕ → Ask Refusal LeafList
fork_leaves header records fork place = do
  found ← given (found_fork header records fork place)
  tree_leaves place found.pieces

-- the overflow records of a volume. The extents file has its eight extents alone.
unfoldable pub volume_overflow : Header → Ask Refusal (List OverflowRecord)
volume_overflow header = do
  check (blocks_in header.extents.extents == header.extents.total_blocks) (Unsupported ExtentsFork (extents_at header))
  leaves ← fork_leaves header [] header.extents (extents_at header)
  given (overflow_records leaves)
