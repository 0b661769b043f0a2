-- The printed texts, as bytes of UTF-8.
use Rattle.std.specs.Prelude.{ℕ, ◌≤◌, ◌≢◌, List, flat_map}
use Rattle.std.specs.Str.{encode_utf8_all, chars}
use Rattle.name_defs.specs.Spelling.{slash, byte_escape, unit_escape, word_spelling, name_spelling, xml_spelling}
use Rattle.name_defs.specs.Items.{Item, Character, Byte, Surrogate, byte_items, unit_items}

-- how a name's text spells an item
abbrev pub item_spelling : Item → List ℕ
item_spelling (Character c) = name_spelling c
item_spelling (Byte byte) = byte_escape byte
item_spelling (Surrogate unit) = unit_escape unit

-- the text of items
unfoldable pub items_text : List Item → List ℕ
items_text items = encode_utf8_all (flat_map item_spelling items)

-- the text of a name of bytes
abbrev pub bytes_text : List ℕ → List ℕ
bytes_text bytes = items_text (byte_items bytes)

-- the text of a name of units
abbrev pub units_text : List ℕ → List ℕ
units_text units = items_text (unit_items units)

-- the text of a word
unfoldable pub word_text : List ℕ → List ℕ
word_text word = encode_utf8_all (flat_map word_spelling (chars word))

-- a text as the text of an XML element
unfoldable pub xml_text : List ℕ → List ℕ
xml_text text = encode_utf8_all (flat_map xml_spelling (chars text))

-- a byte of printed text: no control character
abbrev pub IsShown : ℕ → Type 0
IsShown byte = (0x20 ≤ byte) × (byte ≢ 0x7F)

-- a byte of a printed name: no `/` either
abbrev pub IsShownInName : ℕ → Type 0
IsShownInName byte = (0x20 ≤ byte) × (byte ≢ 0x7F) × (byte ≢ slash)
