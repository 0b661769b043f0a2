-- How printed text spells a character: lists of characters.
use Rattle.std.specs.Prelude.{ℕ, ◌+◌, ◌/◌, ◌%◌, Bool, ◌||◌, ◌==◌, nat_lt, List, [], ◌∷◌, codes, if◌then◌else◌}
use Rattle.std.specs.Char.{is_ascii_control}

-- the upper-case hexadecimal digit of a number below 16
unfoldable pub hex_digit : ℕ → ℕ
hex_digit n = if nat_lt n 10 then 48 + n else 55 + n

-- the character `\`
abbrev pub backslash : ℕ
backslash = 92

-- the character `/`
abbrev pub slash : ℕ
slash = 47

-- a number below 256 as `\xHH`
unfoldable pub byte_escape : ℕ → List ℕ
byte_escape byte = backslash ∷ 120 ∷ hex_digit (byte / 16) ∷ hex_digit (byte % 16) ∷ []

-- a number below 65536 as `\uHHHH`
unfoldable pub unit_escape : ℕ → List ℕ
unit_escape unit = backslash ∷ 117 ∷ hex_digit (unit / 4096) ∷ hex_digit (unit / 256 % 16) ∷ hex_digit (unit / 16 % 16) ∷ hex_digit (unit % 16) ∷ []

-- U+FFFE and U+FFFF, which stand for no character
abbrev pub is_noncharacter : ℕ → Bool
is_noncharacter c = c == 0xFFFE || c == 0xFFFF

-- a character of a word: as it is, but for the backslash, control characters and noncharacters
unfoldable pub word_spelling : ℕ → List ℕ
word_spelling c =
    if c == backslash then backslash ∷ backslash ∷ []
    else (if is_ascii_control c then byte_escape c
    else (if is_noncharacter c then unit_escape c
    else c ∷ []))

-- a character of a name: as that of a word, and `/` is escaped
unfoldable pub name_spelling : ℕ → List ℕ
name_spelling c = if c == slash then byte_escape c else word_spelling c

-- a character of XML text: `&`, `<`, `>` and `"` by their entities
unfoldable pub xml_spelling : ℕ → List ℕ
xml_spelling c =
    if c == 38 then codes "&amp;"
    else (if c == 60 then codes "&lt;"
    else (if c == 62 then codes "&gt;"
    else (if c == 34 then codes "&quot;"
    else c ∷ [])))
