-- Numbers at places of a list of bytes, in either order of their bytes.
use Rattle.std.specs.Prelude.{ℕ, zero, suc, ◌+◌, ◌*◌, ◌^◌, ℤ, List, slice_index}
use Rattle.std.specs.Int.{Width, w8, w16, w32, w64, w128, cast_signed}
use Rattle.bytes_defs.specs.declared.order.Order.{Order}
use Rattle.bytes_defs.specs.declared.order.Order.TheVariants.{Little, Big}

-- the number of a byte and of the number in the n bytes behind it
abbrev pub with_byte : Order → ℕ → ℕ → ℕ → ℕ
with_byte Little n byte rest = byte + 256 * rest
with_byte Big n byte rest = byte * 256 ^ n + rest

-- the number in the n bytes at a place
unfoldable pub number_at : Order → ℕ → List ℕ → ℕ → ℕ
number_at order zero bytes at = 0
number_at order (suc n) bytes at = with_byte order n (slice_index bytes at) (number_at order n bytes (suc at))

-- the bytes of a number of a width
abbrev pub bytes_of_width : Width → ℕ
bytes_of_width w8 = 1
bytes_of_width w16 = 2
bytes_of_width w32 = 4
bytes_of_width w64 = 8
bytes_of_width w128 = 16

-- the signed number of a width at a place, in two's complement
unfoldable pub signed_at : Order → Width → List ℕ → ℕ → ℤ
signed_at order width bytes at = cast_signed width (number_at order (bytes_of_width width) bytes at)

-- the same for one order
abbrev pub little_at : ℕ → List ℕ → ℕ → ℕ
little_at n bytes at = number_at Little n bytes at

abbrev pub big_at : ℕ → List ℕ → ℕ → ℕ
big_at n bytes at = number_at Big n bytes at

abbrev pub little_signed_at : Width → List ℕ → ℕ → ℤ
little_signed_at width bytes at = signed_at Little width bytes at
