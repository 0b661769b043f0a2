-- The bytes of a range.
use Rattle.std.specs.Prelude.{ℕ, List, take, drop}

-- the bytes from a place on, `len` of them, as far as there are so many
unfoldable pub part : List ℕ → ℕ → ℕ → List ℕ
part bytes at len = take len (drop at bytes)
