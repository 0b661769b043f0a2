-- Rows of numbers, one behind the other.
use Rattle.std.specs.Prelude.{ℕ, zero, suc, ◌+◌, ℤ, pos, negsuc, List, [], ◌∷◌, drop}
use Rattle.std.specs.Int.{Width}
use Rattle.bytes_defs.specs.Numbers.{signed_at, bytes_of_width}
use Rattle.bytes_defs.specs.declared.order.Order.{Order}

-- what a signed field counts: nothing where it is below 0
abbrev pub non_negative : ℤ → ℕ
non_negative (pos n) = n
non_negative (negsuc n) = 0

-- so many numbers from one on
abbrev pub numbers_from : ℕ → ℕ → List ℕ
numbers_from first zero = []
numbers_from first (suc count) = first ∷ numbers_from (suc first) count

-- so many signed numbers of some bytes
abbrev pub signed_row : Order → Width → ℕ → List ℕ → List ℤ
signed_row order width zero bytes = []
signed_row order width (suc count) bytes = signed_at order width bytes 0 ∷ signed_row order width count (drop (bytes_of_width width) bytes)

-- so many signed numbers from a place on: few of them, at places that are written out
abbrev pub signed_fields : Order → Width → ℕ → List ℕ → ℕ → List ℤ
signed_fields order width zero bytes at = []
signed_fields order width (suc count) bytes at = signed_at order width bytes at ∷ signed_fields order width count bytes (at + bytes_of_width width)
