-- The pieces of an inode's streams.
use Rattle.std.specs.Prelude.{◌≡◌, ℕ, None, Ok, List}
use Rattle.image_defs.specs.Ask.{result_of}
use Rattle.ufs_inode_defs.specs.Superblock.{wrong_field}
use Rattle.ufs_inode_defs.specs.Inode.{inode_at}
use Rattle.ufs_inode_defs.specs.Stream.{Stream, content_stream, extended_stream}
use Rattle.ufs_inode_defs.specs.Blocks.{Laid, stream_blocks}
use Rattle.ufs_inode_defs.specs.BlockPlace.{AreStreamPieces, slack_of}
use Rattle.ufs_inode_defs.specs.declared.superblock.Super.{Super}
use Rattle.ufs_inode_defs.specs.declared.inode.Inode.{Inode}

-- the pieces that a walk over the pointers of a stream finds cover it in order, are as long as possible, and put each byte
-- where it stands; the slack is what the last block has behind the end
abbrev pub IsLaidOut : List ℕ → Super → Stream → Type 0
IsLaidOut image sup stream = (runs : ℕ) (laid : Laid) → result_of image (stream_blocks sup stream runs) ≡ Ok laid → AreStreamPieces image sup stream laid.pieces × (laid.slack ≡ slack_of image sup stream)

pub record AreLaidOut (image : List ℕ) (sup : Super) (inode : Inode) : Type 0 where
  pub content : IsLaidOut image sup (content_stream sup inode)
  pub extended : IsLaidOut image sup (extended_stream inode)

-- so it is of both streams of an inode that is read, where nothing is wrong with the superblock
abbrev pub StreamLaw : Type 0
StreamLaw = (image : List ℕ) (sup : Super) (number : ℕ) (inode : Inode) → wrong_field sup ≡ None → result_of image (inode_at sup number) ≡ Ok inode → AreLaidOut image sup inode
