-- What is wrong with a volume header, in the words of the table of damage.
use Rattle.std.specs.Prelude.{◌≡◌, ◌⊎◌, ℕ, ◌+◌, ◌*◌, ◌<◌, ◌≤◌, true, false, Ok, Err, List}
use Rattle.bytes_defs.specs.Bytes.{part}
use Rattle.image_defs.specs.Ask.{result_of}
use Rattle.hfs_defs.specs.Damage.{IsDamage}
use Rattle.hfs_defs.specs.Header.{is_magic, header_of, is_block_size, volume_header}
use Rattle.fault_defs.specs.declared.Refusal.{Refusal}
use Rattle.fault_defs.specs.declared.Refusal.TheVariants.{NotThis}
use Rattle.fault_defs.specs.declared.Sort.{Sort}
use Rattle.fault_defs.specs.declared.Sort.TheVariants.{HeaderField}
use Rattle.hfs_defs.specs.declared.header.Header.{Header}

-- a volume of `len` bytes at a place has the magic of HFS+
pub record HasMagic (image : List ℕ) (at len : ℕ) : Type 0 where
  pub enough : 1028 ≤ len
  pub fits : is_magic (part image (at + 1024) 4) ≡ true

-- the fields of its header, right or wrong
abbrev pub header_in : List ℕ → ℕ → ℕ → Header
header_in image at len = header_of at len (part image (at + 1024) 512)

-- the clauses of the header that are false, and where
pub data IsFalseInHeader (image : List ℕ) (at len : ℕ) : Sort → ℕ → Type 0 where
  ShortVolume : len < 2560 → IsFalseInHeader image at len HeaderField (at + 1024)
  OtherBlockSize : 2560 ≤ len → is_block_size (header_in image at len).block_size ≡ false → IsFalseInHeader image at len HeaderField (at + 1064)
  BlocksPassVolume : 2560 ≤ len → len < (header_in image at len).total_blocks * (header_in image at len).block_size → IsFalseInHeader image at len HeaderField (at + 1068)

-- A header is that of the volume, which has the magic, and no clause of it is false. What is refused hasn't the magic, and is
-- something else, or has a clause that is false at its place.
pub record HeaderIsTrue (image : List ℕ) (at len : ℕ) : Type 0 where
  pub other : (HasMagic image at len → ⊥) → result_of image (volume_header at len) ≡ Err NotThis
  pub refuses : (fault : Refusal) → result_of image (volume_header at len) ≡ Err fault → ((NotThis ≡ fault) × (HasMagic image at len → ⊥)) ⊎ (HasMagic image at len × IsDamage (IsFalseInHeader image at len) fault)
  pub accepts : (header : Header) → result_of image (volume_header at len) ≡ Ok header
      → HasMagic image at len × (header ≡ header_in image at len) × ((sort : Sort) (place : ℕ) → IsFalseInHeader image at len sort place → ⊥)

abbrev pub HeaderLaw : Type 0
HeaderLaw = (image : List ℕ) (at len : ℕ) → HeaderIsTrue image at len
