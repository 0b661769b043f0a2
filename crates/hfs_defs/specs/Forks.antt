-- The bytes of a fork: TN1150, "Fork Data Structure" and "Extents Overflow File".
use Rattle.std.specs.Prelude.{◌≡◌, ℕ, ◌<◌, ◌+◌, ◌-◌, ◌*◌, ◌/◌, ◌%◌, Bool, true, ◌&&◌, ◌==◌, nat_lt, nat_le, if◌then◌else◌, Option, Some, None, Result, Ok, Err, List, [], ◌∷◌, ◌++◌, min}
use Rattle.std.specs.List.{filter, flat_map}
use Rattle.range_defs.specs.declared.Range.{Range}
use Rattle.range_defs.specs.Places.{covers, longest_ranges}
use Rattle.rx_ranges.specs.declared.pieces.Piece.{Piece}
use Rattle.rx_ranges.specs.declared.pieces.PieceKind.TheVariants.{Disk}
use Rattle.piece_defs.specs.Joined.{joined_pieces}
use Rattle.piece_defs.specs.Places.{ArePiecesAt}
use Rattle.order_defs.specs.Sorted.{sorted_by}
use Rattle.fault_defs.specs.declared.Refusal.{Refusal}
use Rattle.fault_defs.specs.declared.Refusal.TheVariants.{Damaged}
use Rattle.fault_defs.specs.declared.Sort.TheVariants.{ForkExtent, ForkSum}
use Rattle.hfs_defs.specs.declared.forks.Extent.{Extent}
use Rattle.hfs_defs.specs.declared.forks.Fork.{Fork}
use Rattle.hfs_defs.specs.declared.forks.OverflowRecord.{OverflowRecord}
use Rattle.hfs_defs.specs.declared.header.Header.{Header}

-- ---- the extents of a fork

-- the overflow records of a file's fork are those with its number and the fork's type
abbrev pub is_of : ℕ → ℕ → OverflowRecord → Bool
is_of file fork_type overflow = overflow.file == file && overflow.fork_type == fork_type

-- the overflow records of a fork, by their first block, equal ones in the order of the leaf records. The extents file,
-- number 3, has none.
unfoldable pub records_of : List OverflowRecord → ℕ → ℕ → List OverflowRecord
records_of records file fork_type = if file == 3 then [] else sorted_by (λ overflow. overflow.start) (filter (is_of file fork_type) records)

-- the extents of a fork: its eight, and then those of its overflow records
abbrev pub extents_with : List OverflowRecord → Fork → List Extent
extents_with records fork = fork.extents ++ flat_map (λ overflow. overflow.extents) records

-- ---- the place of one byte

-- the blocks of extents together
abbrev pub blocks_in : List Extent → ℕ
blocks_in [] = 0
blocks_in (extent ∷ extents) = extent.count + blocks_in extents

-- the block of the volume that is a block of extents, counted in their order
abbrev pub block_in : List Extent → ℕ → Option ℕ
block_in [] block = None
block_in (extent ∷ extents) block = if nat_lt block extent.count then Some (extent.start + block) else block_in extents (block - extent.count)

-- the place in the image of a block of the volume
abbrev pub block_place : Header → ℕ → ℕ
block_place header block = header.at + block * header.block_size

-- where a byte at an offset into a block stands: nowhere where there is no block
abbrev pub in_block : Header → Option ℕ → ℕ → Option ℕ
in_block header None offset = None
in_block header (Some block) offset = Some (block_place header block + offset)

-- where a byte of a fork with these extents stands
unfoldable pub byte_place : Header → List Extent → ℕ → Option ℕ
byte_place header extents byte = in_block header (block_in extents (byte / header.block_size)) (byte % header.block_size)

-- ---- damage

-- extents and the places at which they are written, eight bytes apart from a place on
abbrev pub written_from : ℕ → List Extent → List (Extent × ℕ)
written_from at [] = []
written_from at (extent ∷ extents) = (extent, at) ∷ written_from (at + 8) extents

-- the extents of a fork, whose fork data stand at a place, and the places at which they are written
abbrev pub written_extents : List OverflowRecord → Fork → ℕ → List (Extent × ℕ)
written_extents records fork place = written_from (place + 16) fork.extents ++ flat_map (λ overflow. written_from (overflow.at + 12) overflow.extents) records

-- an extent that isn't empty passes the end of so many blocks
abbrev pub passes : ℕ → Extent → Bool
passes total extent = nat_lt 0 extent.count && nat_lt total (extent.start + extent.count)

-- the place of the first extent that does
abbrev pub first_passing : ℕ → List (Extent × ℕ) → Option ℕ
first_passing total [] = None
first_passing total (written ∷ rest) = if passes total written.0 then Some written.1 else first_passing total rest

-- each overflow record begins with the block behind those in front of it
abbrev pub follow_on : ℕ → List OverflowRecord → Bool
follow_on sum [] = true
follow_on sum (overflow ∷ records) = overflow.start == sum && follow_on (sum + blocks_in overflow.extents) records

-- the extents are all blocks of the fork, and hold its bytes
abbrev pub is_whole : Header → List OverflowRecord → Fork → Bool
is_whole header records fork =
    follow_on (blocks_in fork.extents) records
    && (blocks_in (extents_with records fork) == fork.total_blocks && nat_le fork.logical_size (fork.total_blocks * header.block_size))

-- the first of the two damages of a fork
abbrev pub first_damage : ℕ → Option ℕ → Bool → Option Refusal
first_damage place (Some at) whole = Some (Damaged ForkExtent at)
first_damage place None whole = if whole then None else Some (Damaged ForkSum place)

-- what is wrong with a fork whose fork data stand at a place, if anything is
unfoldable pub fork_fault : Header → List OverflowRecord → Fork → ℕ → Option Refusal
fork_fault header records fork place =
    first_damage place (first_passing header.total_blocks (written_extents records fork place)) (is_whole header records fork)

-- ---- pieces and slack

-- the bytes of an extent
abbrev pub extent_bytes : Header → Extent → ℕ
extent_bytes header extent = extent.count * header.block_size

-- those of them that belong to a content of `size` bytes, of which byte `from` is the first of the extent
abbrev pub content_bytes : Header → ℕ → ℕ → Extent → ℕ
content_bytes header size from extent = min (extent_bytes header extent) (size - from)

abbrev pub extent_piece : Header → ℕ → ℕ → Extent → Piece
extent_piece header size from extent = record {
  from = from;
  len = content_bytes header size from extent;
  kind = Disk;
  at = block_place header extent.start;
}

-- what an extent has behind the content
abbrev pub extent_rest : Header → ℕ → ℕ → Extent → Range
extent_rest header size from extent = record {
  at = block_place header extent.start + content_bytes header size from extent;
  len = extent_bytes header extent - content_bytes header size from extent;
}

-- a piece, and a range, in front of others where it isn't empty
abbrev pub piece_in_front : Piece → List Piece → List Piece
piece_in_front piece pieces = if nat_lt 0 piece.len then piece ∷ pieces else pieces

abbrev pub range_in_front : Range → List Range → List Range
range_in_front range ranges = if nat_lt 0 range.len then range ∷ ranges else ranges

-- the pieces of a content from byte `from` on, which is the first of these extents
abbrev pub pieces_from : Header → ℕ → ℕ → List Extent → List Piece
pieces_from header size from [] = []
pieces_from header size from (extent ∷ extents) =
    piece_in_front (extent_piece header size from extent) (pieces_from header size (from + extent_bytes header extent) extents)

-- what extents have behind the content
abbrev pub rests_from : Header → ℕ → ℕ → List Extent → List Range
rests_from header size from [] = []
rests_from header size from (extent ∷ extents) =
    range_in_front (extent_rest header size from extent) (rests_from header size (from + extent_bytes header extent) extents)

-- the pieces of a content of `size` bytes in extents, joined to the longest
unfoldable pub pieces_of : Header → ℕ → List Extent → List Piece
pieces_of header size extents = joined_pieces (pieces_from header size 0 extents)

-- its slack: the bytes of the extents' blocks behind the content, as the longest ranges
unfoldable pub slack_of : Header → ℕ → List Extent → List Range
slack_of header size extents = longest_ranges (covers (rests_from header size 0 extents)) 0 (header.at + header.len)

-- what is found of a fork
pub record FoundFork : Type 0 where
  pub pieces : List Piece
  pub slack : List Range

abbrev pub found_or : Header → List OverflowRecord → Fork → Option Refusal → Result FoundFork Refusal
found_or header records fork (Some fault) = Err fault
found_or header records fork None = Ok (record {
  pieces = pieces_of header fork.logical_size (extents_with records fork);
  slack = slack_of header fork.logical_size (extents_with records fork);
})

-- the pieces and the slack of a fork with these overflow records, whose fork data stand at a place
unfoldable pub found_fork : Header → List OverflowRecord → Fork → ℕ → Result FoundFork Refusal
found_fork header records fork place = found_or header records fork (fork_fault header records fork place)

-- The pieces that are found of a fork without a fault are those of its bytes: they cover it in order, are as long as
-- possible, and put each byte where it stands.
abbrev pub ForkLaw : Type 0
ForkLaw = (header : Header) (records : List OverflowRecord) (fork : Fork) (place : ℕ) → 0 < header.block_size → fork_fault header records fork place ≡ None
    → ArePiecesAt (byte_place header (extents_with records fork)) fork.logical_size (pieces_of header fork.logical_size (extents_with records fork))
