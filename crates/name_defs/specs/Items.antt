-- What a stored name holds, read from its front: characters, and what is none.
use Rattle.std.specs.Prelude.{ℕ, zero, suc, ◌-◌, Bool, ◌&&◌, List, [], ◌∷◌, take, length, slice_index, find, Option, encode_utf8, if◌then◌else◌}
use Rattle.std.specs.Option.{option_map_or}
use Rattle.std.specs.Int.{is_in_range}
use Rattle.std.specs.Str.{is_utf8, chars}
use Rattle.std.specs.Char.Escape.{encode_utf16}
use Rattle.std.specs.Char.Utf16.{is_high_surrogate, is_low_surrogate, surrogate_pair_char}

-- one thing that a name holds: a character, a byte at which no character of UTF-8 begins, or a surrogate of UTF-16 that
-- is in no pair
pub data Item : Type 0 where
  Character : ℕ → Item
  Byte : ℕ → Item
  Surrogate : ℕ → Item

-- the bytes of an item in a name of bytes
abbrev pub item_bytes : Item → List ℕ
item_bytes (Character c) = encode_utf8 c
item_bytes (Byte byte) = byte ∷ []
item_bytes (Surrogate unit) = []

-- the units of an item in a name of units
abbrev pub item_units : Item → List ℕ
item_units (Character c) = encode_utf16 c
item_units (Byte byte) = []
item_units (Surrogate unit) = unit ∷ []

-- how many bytes the character at the front takes: the least of 1 to 4 for which so many bytes are UTF-8; None where no
-- character begins
abbrev pub front_len : List ℕ → Option ℕ
front_len bytes = find (λ n. is_utf8 (take n bytes)) (1 ∷ 2 ∷ 3 ∷ 4 ∷ [])

-- the item at the front of bytes
unfoldable pub item_of_bytes : List ℕ → Item
item_of_bytes bytes =
    option_map_or (λ n. Character (slice_index (chars (take n bytes)) 0)) (front_len bytes) (Byte (slice_index bytes 0))

-- the units begin with a pair of surrogates
abbrev pub begins_pair : List ℕ → Bool
begins_pair units = is_high_surrogate (slice_index units 0) && is_low_surrogate (slice_index units 1)

-- the item at the front of units: a pair of surrogates is one character
unfoldable pub item_of_units : List ℕ → Item
item_of_units units =
    let first = slice_index units 0 in
    let second = slice_index units 1 in
    if begins_pair units then Character (surrogate_pair_char first second)
    else (if is_in_range 0xD800 0xDFFF first then Surrogate first else Character first)

module _ (front : List ℕ → Item) (stored : Item → List ℕ) where
  -- the items of a stored name one after another, past the first `inside` numbers, which belong to an item in front:
  -- `front` tells the item that stands first, and `stored` what it takes
  abbrev pub items_past : ℕ → List ℕ → List Item
  items_past inside [] = []
  items_past (suc inside) (x ∷ xs) = items_past inside xs
  items_past zero (x ∷ xs) = let item = front (x ∷ xs) in item ∷ items_past (length (stored item) - 1) xs

-- the items of a name of bytes
unfoldable pub byte_items : List ℕ → List Item
byte_items bytes = items_past item_of_bytes item_bytes 0 bytes

-- the items of a name of units
unfoldable pub unit_items : List ℕ → List Item
unit_items units = items_past item_of_units item_units 0 units
