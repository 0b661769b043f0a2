-- Where the bytes of an inode's streams stand, as what is found says it.
use Rattle.std.specs.Prelude.{◌≡◌, ℕ, ◌+◌, ◌*◌, ◌≤◌, Some, List, [], ◌∷◌, ◌++◌}
use Rattle.rx_ranges.specs.declared.pieces.Piece.{Piece}
use Rattle.rx_tree.specs.PartValue.{PartValue}
use Rattle.piece_defs.specs.Places.{place_through}
use Rattle.ufs_inode_defs.specs.Superblock.{block_size}
use Rattle.ufs_inode_defs.specs.Stream.{content_len}
use Rattle.ufs_inode_defs.specs.BlockPlace.{AreStreamPieces, slack_of}
use Rattle.ufs_inode_defs.specs.declared.superblock.Super.{Super}
use Rattle.ufs_volume_defs.specs.Files.{Section}

-- where pieces of a stream of so many bytes put a block at a place, what the stream has in it lies whole in the volume
pub record DoBlocksLieWithin (sup : Super) (size : ℕ) (pieces : List Piece) : Type 0 where
  pub lies : (index at : ℕ) → place_through pieces (index * block_size sup) ≡ Some at → at + content_len sup size index ≤ sup.at + sup.len

-- A part is a stream of an image: it has the stream's role, name and size, its pieces put each byte where that stands, and
-- its slack is what the last block has behind the end.
pub record IsPartOf (image : List ℕ) (sup : Super) (section : Section) (part : PartValue) : Type 0 where
  pub role : part.role ≡ section.role
  pub name : part.name ≡ section.name
  pub size : part.size ≡ section.stream.size
  pub placed : AreStreamPieces image sup section.stream part.pieces
  pub behind : part.slack ≡ slack_of image sup section.stream

-- the parts are these streams, one for one
abbrev pub ArePartsOf : List ℕ → Super → List Section → List PartValue → Type 0
ArePartsOf image sup [] [] = Unit {0}
ArePartsOf image sup [] (part ∷ parts) = ⊥
ArePartsOf image sup (section ∷ sections) [] = ⊥
ArePartsOf image sup (section ∷ sections) (part ∷ parts) = IsPartOf image sup section part × ArePartsOf image sup sections parts

-- parts with those of some more streams behind them, in every image
abbrev pub AreExtendedBy : Super → List Section → List PartValue → List PartValue → Type 0
AreExtendedBy sup sections before after = (image : List ℕ) (first : List Section) → ArePartsOf image sup first before → ArePartsOf image sup (first ++ sections) after
