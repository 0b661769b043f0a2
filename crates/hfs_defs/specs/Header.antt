-- The volume header: TN1150, "Volume Header" and "Fork Data Structure". All its numbers have the highest byte first.
use Rattle.std.specs.Prelude.{◌≡◌, ℕ, ◌≤◌, ◌+◌, ◌*◌, Bool, not, ◌&&◌, ◌||◌, nat_le, nat_lt, if◌then◌else◌, Option, Some, None, Result, Ok, Err, List, [], ◌∷◌}
use Rattle.std.specs.Int.{is_power_of_two}
use Rattle.std.specs.Str.{bytes_eq}
use Rattle.image_defs.specs.Ask.{Ask, look, check, given, ◌>>=◌, ◌>>◌}
use Rattle.bytes_defs.specs.Numbers.{big_at}
use Rattle.fault_defs.specs.declared.Refusal.{Refusal}
use Rattle.fault_defs.specs.declared.Refusal.TheVariants.{NotThis, Damaged}
use Rattle.fault_defs.specs.declared.Sort.TheVariants.{HeaderField}
use Rattle.hfs_defs.specs.declared.forks.Extent.{Extent}
use Rattle.hfs_defs.specs.declared.forks.Fork.{Fork}
use Rattle.hfs_defs.specs.declared.header.Header.{Header}

-- the extent at a place
abbrev pub extent_of : List ℕ → ℕ → Extent
extent_of bytes at = record { start = big_at 4 bytes at; count = big_at 4 bytes (at + 4) }

-- eight extents from a place on
abbrev pub extents_of : List ℕ → ℕ → List Extent
extents_of bytes at =
    extent_of bytes at
    ∷ extent_of bytes (at + 8)
    ∷ extent_of bytes (at + 16)
    ∷ extent_of bytes (at + 24)
    ∷ extent_of bytes (at + 32)
    ∷ extent_of bytes (at + 40)
    ∷ extent_of bytes (at + 48)
    ∷ extent_of bytes (at + 56)
    ∷ []

-- the fork data of 80 bytes at a place
unfoldable pub fork_of : List ℕ → ℕ → Fork
fork_of bytes at = record {
  logical_size = big_at 8 bytes at;
  total_blocks = big_at 4 bytes (at + 12);
  extents = extents_of bytes (at + 16);
}

-- the header that 512 bytes hold, of a volume of `len` bytes at `at`
unfoldable pub header_of : ℕ → ℕ → List ℕ → Header
header_of at len bytes = record {
  at = at;
  len = len;
  signature = big_at 2 bytes 0;
  version = big_at 2 bytes 2;
  block_size = big_at 4 bytes 40;
  total_blocks = big_at 4 bytes 44;
  allocation = fork_of bytes 112;
  extents = fork_of bytes 192;
  catalog = fork_of bytes 272;
  attributes = fork_of bytes 352;
  startup = fork_of bytes 432;
}

-- "H+" with version 4, or "HX" with version 5
abbrev pub is_magic : List ℕ → Bool
is_magic bytes = bytes_eq bytes (0x48 ∷ 0x2B ∷ 0 ∷ 4 ∷ []) || bytes_eq bytes (0x48 ∷ 0x58 ∷ 0 ∷ 5 ∷ [])

-- a block has a power of two of bytes, at least 512
unfoldable pub is_block_size : ℕ → Bool
is_block_size size = is_power_of_two size && nat_le 512 size

-- the place in the header of the field that is wrong, if one is: the size of a block, or the number of blocks, which
-- have to lie in the volume
unfoldable pub wrong_field : Header → Option ℕ
wrong_field header =
    if not (is_block_size header.block_size)
    then Some 40
    else (if nat_lt header.len (header.total_blocks * header.block_size) then Some 44 else None)

-- a header whose fields are right, of a volume that is long enough to have one
pub record IsSoundHeader (header : Header) : Type 0 where
  pub right : wrong_field header ≡ None
  pub long : 2560 ≤ header.len

-- the header, where no field of it is wrong
abbrev pub checked : Header → Option ℕ → Result Header Refusal
checked header None = Ok header
checked header (Some place) = Err (Damaged HeaderField (header.at + 1024 + place))

-- the header of a volume of `len` bytes at `at`
unfoldable pub volume_header : ℕ → ℕ → Ask Refusal Header
volume_header at len = do
  check (nat_le 1028 len) NotThis
  magic ← look (at + 1024) 4
  check (is_magic magic) NotThis
  check (nat_le 2560 len) (Damaged HeaderField (at + 1024))
  bytes ← look (at + 1024) 512
  given (checked (header_of at len bytes) (wrong_field (header_of at len bytes)))
