-- Worked rows: what short names, words and texts print as.
use Rattle.std.specs.Prelude.{◌≡◌, [], ◌∷◌, codes, refl}
use Rattle.std.specs.Char.{encode_utf8}
use Rattle.std.specs.Str.{is_utf8, chars}
use Rattle.name_defs.specs.Spelling.{hex_digit, byte_escape, unit_escape, word_spelling, name_spelling, xml_spelling}
use Rattle.name_defs.specs.Items.{item_of_bytes, item_of_units, byte_items, unit_items}
use Rattle.name_defs.specs.Texts.{items_text, bytes_text, units_text, word_text, xml_text}

-- `unfolding computing` opens how names and texts are read and spelled
unfoldable computing : Unit {0}
unfolding encode_utf8 is_utf8 chars hex_digit byte_escape unit_escape word_spelling name_spelling xml_spelling item_of_bytes item_of_units byte_items unit_items items_text word_text xml_text
computing = tt

printed :
    (bytes_text (0x61 ∷ 0xFF ∷ 0x5C ∷ 0x0A ∷ []) ≡ codes "a\\xFF\\\\\\x0A")  -- a letter, a byte that begins no character, a backslash and a line feed
    × (units_text (0xD800 ∷ 0x002F ∷ []) ≡ codes "\\uD800\\x2F")  -- a lone surrogate and a slash
    × (xml_text (codes "a<&\">") ≡ codes "a&lt;&amp;&quot;&gt;")  -- the four entities
    × (word_text (codes "a/\\") ≡ codes "a/\\\\")  -- a word keeps its slash
    × (bytes_text [] ≡ [])  -- an empty name prints as nothing
    × (units_text [] ≡ [])  -- empty units
    × (bytes_text (0x1F ∷ 0x20 ∷ 0x7E ∷ 0x7F ∷ []) ≡ codes "\\x1F ~\\x7F")  -- the last control character, U+007F and the first character behind each
    -- overlong forms of U+0000, U+002F, U+07FF and U+FFFF are no characters
    × (bytes_text (0xC0 ∷ 0x80 ∷ 0xC1 ∷ 0xBF ∷ []) ≡ codes "\\xC0\\x80\\xC1\\xBF")
    × (bytes_text (0xE0 ∷ 0x9F ∷ 0xBF ∷ []) ≡ codes "\\xE0\\x9F\\xBF")  -- overlong three
    × (bytes_text (0xF0 ∷ 0x8F ∷ 0xBF ∷ 0xBF ∷ []) ≡ codes "\\xF0\\x8F\\xBF\\xBF")  -- overlong four
    × (bytes_text (0xED ∷ 0xA0 ∷ 0x80 ∷ []) ≡ codes "\\xED\\xA0\\x80")  -- an encoded surrogate prints byte by byte
    × (bytes_text (0xF4 ∷ 0x8F ∷ 0xBF ∷ 0xBF ∷ []) ≡ 0xF4 ∷ 0x8F ∷ 0xBF ∷ 0xBF ∷ [])  -- the last character, U+10FFFF, and what would be the next
    × (bytes_text (0xF4 ∷ 0x90 ∷ 0x80 ∷ 0x80 ∷ []) ≡ codes "\\xF4\\x90\\x80\\x80")  -- above the last
    × (bytes_text (0x61 ∷ 0xE2 ∷ 0x82 ∷ []) ≡ codes "a\\xE2\\x82")  -- a sequence that the end cuts
    × (bytes_text (0xEF ∷ 0xBF ∷ 0xBE ∷ []) ≡ codes "\\uFFFE")  -- an encoded U+FFFE
    × (units_text (0xD83D ∷ 0xDE00 ∷ []) ≡ 0xF0 ∷ 0x9F ∷ 0x98 ∷ 0x80 ∷ [])  -- a pair of surrogates is U+1F600
    -- a lone surrogate at the end, the second of a pair in front of the first, and U+FFFF
    × (units_text (0xDE00 ∷ 0xFFFF ∷ 0xD83D ∷ []) ≡ codes "\\uDE00\\uFFFF\\uD83D")
unfolding computing
printed = (refl, refl, refl, refl, refl, refl, refl, refl, refl, refl, refl, refl, refl, refl, refl, refl, refl)
