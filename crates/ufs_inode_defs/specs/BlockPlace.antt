-- Where one byte of a stream stands in an image.
use Rattle.std.specs.Prelude.{ℕ, zero, suc, ◌+◌, ◌-◌, ◌*◌, ◌/◌, ◌%◌, ℤ, pos, negsuc, nat_lt, if◌then◌else◌, Option, Some, None, List, [], ◌∷◌}
use Rattle.range_defs.specs.declared.Range.{Range}
use Rattle.rx_ranges.specs.declared.pieces.Piece.{Piece}
use Rattle.bytes_defs.specs.Numbers.{signed_at}
use Rattle.piece_defs.specs.Places.{ArePiecesAt}
use Rattle.ufs_inode_defs.specs.Layout.{layout_of, pointer_len}
use Rattle.ufs_inode_defs.specs.Superblock.{block_size}
use Rattle.ufs_inode_defs.specs.Stream.{Pointer, Stream, span, block_count, content_len, allocated_len}
use Rattle.ufs_inode_defs.specs.Blocks.{behind, fragment_place}
use Rattle.ufs_inode_defs.specs.declared.superblock.Super.{Super}

-- the pointer of a number in the block of pointers at a place
abbrev pub pointer_at : List ℕ → Super → ℕ → ℕ → ℤ
pointer_at image sup at number = signed_at sup.order (layout_of sup.version).pointer image (at + number * pointer_len sup.version)

-- the pointer to a block, of those that a pointer maps through so many levels: a hole maps holes
abbrev pub mapped_pointer : ℕ → List ℕ → Super → ℤ → ℕ → ℤ
mapped_pointer zero image sup value number = value
mapped_pointer (suc level) image sup (pos zero) number = pos zero
mapped_pointer (suc level) image sup (pos (suc before)) number =
    mapped_pointer level image sup (pointer_at image sup (fragment_place sup (suc before)) (number / span sup level)) (number % span sup level)
mapped_pointer (suc level) image sup (negsuc n) number = pos zero

-- the value of a pointer of a list
abbrev pub value_of : List Pointer → ℕ → ℤ
value_of [] number = pos zero
value_of (pointer ∷ pointers) zero = pointer.value
value_of (pointer ∷ pointers) (suc number) = value_of pointers number

-- the pointer to a block of a stream: the first twelve are direct, and then come one, two and three levels
unfoldable pub block_pointer : List ℕ → Super → Stream → ℕ → ℤ
block_pointer image sup stream block =
    if nat_lt block 12 then value_of stream.direct block
    else (if nat_lt block (12 + span sup 1) then mapped_pointer 1 image sup (value_of stream.indirect 0) (block - 12)
    else (if nat_lt block (12 + span sup 1 + span sup 2) then mapped_pointer 2 image sup (value_of stream.indirect 1) (block - (12 + span sup 1))
    else mapped_pointer 3 image sup (value_of stream.indirect 2) (block - (12 + span sup 1 + span sup 2))))

-- the place in the image to which a pointer leads, some bytes on: None in a hole
abbrev pub led_place : Super → ℤ → ℕ → Option ℕ
led_place sup (pos zero) offset = None
led_place sup (pos (suc before)) offset = Some (fragment_place sup (suc before) + offset)
led_place sup (negsuc n) offset = None

-- the place in the image of a byte of a stream, None in a hole
unfoldable pub byte_place : List ℕ → Super → Stream → ℕ → Option ℕ
byte_place image sup stream byte = led_place sup (block_pointer image sup stream (byte / block_size sup)) (byte % block_size sup)

-- pieces that cover a stream in order, each as long as possible, and put each byte where it stands
abbrev pub AreStreamPieces : List ℕ → Super → Stream → List Piece → Type 0
AreStreamPieces image sup stream pieces = ArePiecesAt (byte_place image sup stream) stream.size pieces

-- what a block has behind the content's end, if the block stands at a place
abbrev pub behind_place : Super → ℕ → ℕ → Option ℕ → List Range
behind_place sup size block None = []
behind_place sup size block (Some at) = behind at (content_len sup size block) (allocated_len sup size block)

abbrev pub behind_last : List ℕ → Super → Stream → ℕ → List Range
behind_last image sup stream zero = []
behind_last image sup stream (suc last) = behind_place sup stream.size last (byte_place image sup stream (last * block_size sup))

-- the slack of a stream: what its last block has behind the end
unfoldable pub slack_of : List ℕ → Super → Stream → List Range
slack_of image sup stream = behind_last image sup stream (block_count sup stream.size)
