-- The blocks of a stream, as one walks over its pointers.
use Rattle.std.specs.Prelude.{ℕ, zero, suc, ◌+◌, ◌-◌, ◌*◌, min, ℤ, pos, negsuc, Bool, nat_le, nat_lt, if◌then◌else◌, List, [], ◌∷◌, ◌++◌, length}
use Rattle.range_defs.specs.declared.Range.{Range}
use Rattle.rx_ranges.specs.declared.pieces.Piece.{Piece}
use Rattle.rx_ranges.specs.declared.pieces.PieceKind.TheVariants.{Disk, Zero}
use Rattle.image_defs.specs.Ask.{Ask, Done, Stop, look, check, ◌>>=◌, ◌>>◌}
use Rattle.image_defs.specs.Through.{through}
use Rattle.piece_defs.specs.Put.{put}
use Rattle.fault_defs.specs.declared.Refusal.{Refusal}
use Rattle.fault_defs.specs.declared.Refusal.TheVariants.{Damaged, Limit}
use Rattle.fault_defs.specs.declared.Sort.TheVariants.{BlockPointer}
use Rattle.fault_defs.specs.declared.Bound.TheVariants.{Runs}
use Rattle.ufs_inode_defs.specs.Layout.{layout_of, pointer_len}
use Rattle.ufs_inode_defs.specs.Numbers.{signed_row}
use Rattle.ufs_inode_defs.specs.Superblock.{block_size, fragment_size}
use Rattle.ufs_inode_defs.specs.Stream.{Pointer, Stream, pointers_from, span, block_count, content_len, allocated_len}
use Rattle.ufs_inode_defs.specs.declared.superblock.Super.{Super}

-- what was found of a stream: the blocks that were passed, their pieces, the slack, and the blocks of pointers that were
-- visited; and the runs that were counted before
pub record Laid : Type 0 where
  pub block : ℕ
  pub pieces : List Piece
  pub slack : List Range
  pub visited : ℕ
  pub before : ℕ

-- nothing yet
abbrev pub none_laid : ℕ → Laid
none_laid runs = record { block = 0; pieces = []; slack = []; visited = 0; before = runs }

-- the runs with those that were counted before
abbrev pub runs_of : Laid → ℕ
runs_of laid = laid.before + length laid.pieces + laid.visited

-- so many blocks of a hole
abbrev pub with_hole : Super → ℕ → ℕ → Laid → Laid
with_hole sup size blocks laid = record laid {
  block = laid.block + blocks;
  pieces = put laid.pieces (record {
    from = laid.block * block_size sup;
    len = min (blocks * block_size sup) (size - laid.block * block_size sup);
    kind = Zero;
    at = 0;
  });
}

-- what a block has behind its content
abbrev pub behind : ℕ → ℕ → ℕ → List Range
behind at len allocated = if nat_lt len allocated then record { at = at + len; len = allocated - len } ∷ [] else []

-- a block that stands at a place
abbrev pub with_block : Super → ℕ → ℕ → Laid → Laid
with_block sup size at laid = record laid {
  block = laid.block + 1;
  pieces = put laid.pieces (record {
    from = laid.block * block_size sup;
    len = content_len sup size laid.block;
    kind = Disk;
    at = at;
  });
  slack = laid.slack ++ behind at (content_len sup size laid.block) (allocated_len sup size laid.block);
}

-- a block of pointers
abbrev pub with_visit : Laid → Laid
with_visit laid = record laid { visited = laid.visited + 1 }

abbrev pub most_runs : ℕ
most_runs = 4000000

-- no more runs than a limit
abbrev pub counted_runs : Laid → Ask Refusal Laid
counted_runs laid = check (nat_le (runs_of laid) most_runs) (Limit Runs most_runs) >> Done laid

-- the place in the image of a fragment
abbrev pub fragment_place : Super → ℕ → ℕ
fragment_place sup fragment = sup.at + fragment * fragment_size sup

-- so many bytes from a fragment on lie in the volume
abbrev pub lies_within : Super → ℕ → ℕ → Bool
lies_within sup fragment len = nat_le (fragment * fragment_size sup + len) sup.len

-- where a pointer leads: to a hole, or to so many bytes in the volume
abbrev pub led : Super → Pointer → ℕ → Ask Refusal Laid → (ℕ → Ask Refusal Laid) → Ask Refusal Laid
led sup pointer len hole there = by_value pointer.value
  where
    by_value : ℤ → Ask Refusal Laid
    by_value (pos zero) = hole
    by_value (pos (suc before)) = check (lies_within sup (suc before) len) (Damaged BlockPointer pointer.at) >> there (fragment_place sup (suc before))
    by_value (negsuc n) = Stop (Damaged BlockPointer pointer.at)

-- pointers past the end are ignored
abbrev pub unless_past : Super → ℕ → Laid → Ask Refusal Laid → Ask Refusal Laid
unless_past sup size laid goes_further = if nat_le (block_count sup size) laid.block then Done laid else goes_further

-- the pointers of a block of pointers at a place
abbrev pub pointers_in : Super → ℕ → List ℕ → List Pointer
pointers_in sup at bytes = pointers_from at (pointer_len sup.version) (signed_row sup.order (layout_of sup.version).pointer sup.nindir bytes)

-- what a pointer maps: a block, or through a block of pointers what each of them maps
unfoldable pub mapped_blocks : ℕ → Super → ℕ → Laid → Pointer → Ask Refusal Laid
mapped_blocks zero sup size laid pointer =
    unless_past sup size laid
    (led sup pointer (allocated_len sup size laid.block)
    (counted_runs (with_hole sup size 1 laid))
    (λ at. counted_runs (with_block sup size at laid)))
mapped_blocks (suc level) sup size laid pointer =
    unless_past sup size laid
    (led sup pointer (block_size sup)
    (counted_runs (with_hole sup size (span sup (suc level)) laid))
    (λ at. do
      visited ← counted_runs (with_visit laid)
      bytes ← look at (block_size sup)
      through (mapped_blocks level sup size) visited (pointers_in sup at bytes)))

-- what pointers of rising levels map
abbrev pub rising_blocks : ℕ → Super → ℕ → Laid → List Pointer → Ask Refusal Laid
rising_blocks level sup size laid [] = Done laid
rising_blocks level sup size laid (pointer ∷ pointers) =
    mapped_blocks level sup size laid pointer >>= (λ after. rising_blocks (suc level) sup size after pointers)

-- the blocks of a stream, where so many runs were counted before
unfoldable pub stream_blocks : Super → Stream → ℕ → Ask Refusal Laid
stream_blocks sup stream runs =
    through (mapped_blocks 0 sup stream.size) (none_laid runs) stream.direct >>= (λ direct. rising_blocks 1 sup stream.size direct stream.indirect)
