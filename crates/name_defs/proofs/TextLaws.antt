-- The text of a name is that of what is read first, and that of the rest behind it.
use Rattle.std.specs.Prelude.{◌≡◌, ℕ, suc, ◌<◌, true, false, List, [], ◌∷◌, ◌++◌, length, drop, map, flat_map, slice_index, refl}
use Rattle.std.proofs.Common.{ap, ◌∙◌, arith, append_assoc}
use Rattle.std.proofs.lemmas.Bool.{and_parts, false≢true}
use Rattle.std.proofs.lemmas.Bool.Decides.{nat_tests}
use Rattle.std.proofs.lemmas.Grind.{flat_map-append}
use Rattle.std.proofs.lemmas.List.Folds.{flat_map-map}
use Rattle.std.proofs.lemmas.Str.{encodes-append}
use Rattle.std.specs.Char.{encode_utf8}
use Rattle.std.specs.Char.Utf16.{surrogate_pair_char}
use Rattle.std.specs.Str.{encode_utf8_all, all_scalars, StartsWithNoChar}
use Rattle.name_defs.specs.Spelling.{byte_escape, unit_escape, name_spelling}
use Rattle.name_defs.specs.Items.{Item, Character, Byte, Surrogate, begins_pair, byte_items, unit_items}
use Rattle.name_defs.specs.Texts.{item_spelling, items_text, bytes_text, units_text}
use Rattle.name_defs.proofs.ByteLaws.{byte_items-encode, byte_items-no_char}
use Rattle.name_defs.proofs.UnitLaws.{is_surrogate, unit_items-pair, unit_items-one, unit_items-surrogate}

pub items_text-append : (xs ys : List Item) → items_text (xs ++ ys) ≡ items_text xs ++ items_text ys
unfolding items_text
items_text-append xs ys = ap encode_utf8_all (flat_map-append item_spelling xs ys) ∙ encodes-append (flat_map item_spelling xs) (flat_map item_spelling ys)

items_text-map : (item : ℕ → Item) (xs : List ℕ) → items_text (map item xs) ≡ encode_utf8_all (flat_map (λ x. item_spelling (item x)) xs)
unfolding items_text
items_text-map item xs = ap encode_utf8_all (flat_map-map item_spelling item xs)

-- one item and others
items_text-cons : (item : Item) (items : List Item) → items_text (item ∷ items) ≡ encode_utf8_all (item_spelling item) ++ items_text items
unfolding items_text
items_text-cons item items = encodes-append (item_spelling item) (flat_map item_spelling items)

pub items_text-nil : items_text [] ≡ []
unfolding items_text
items_text-nil = refl

-- characters in front are read as those characters
byte_items-characters : (cs rest : List ℕ) → all_scalars cs ≡ true → byte_items (encode_utf8_all cs ++ rest) ≡ map Character cs ++ byte_items rest
byte_items-characters [] rest all = refl
byte_items-characters (c ∷ cs) rest all =
    let both = and_parts _ _ all in
    ap byte_items (append_assoc (encode_utf8 c) (encode_utf8_all cs) rest)
    ∙ byte_items-encode c (encode_utf8_all cs ++ rest) both.0
    ∙ ap (λ t. Character c ∷ t) (byte_items-characters cs rest both.1)

-- bytes in front at which no character begins are read one by one
byte_items-bad : (bad rest : List ℕ) → ((k : ℕ) → k < length bad → StartsWithNoChar (drop k (bad ++ rest))) → byte_items (bad ++ rest) ≡ map Byte bad ++ byte_items rest
byte_items-bad [] rest none = refl
byte_items-bad (byte ∷ bad) rest none =
    byte_items-no_char byte (bad ++ rest) (none 0 (omega arith))
    ∙ ap (λ t. Byte byte ∷ t) (byte_items-bad bad rest (λ k less. none (suc k) (omega arith)))

pub bytes_text-characters : (cs rest : List ℕ) → all_scalars cs ≡ true → bytes_text (encode_utf8_all cs ++ rest) ≡ encode_utf8_all (flat_map name_spelling cs) ++ bytes_text rest
bytes_text-characters cs rest all =
    ap items_text (byte_items-characters cs rest all) ∙ items_text-append (map Character cs) (byte_items rest)
    ∙ ap (λ t. t ++ bytes_text rest) (items_text-map Character cs)

pub bytes_text-bad : (bad rest : List ℕ) → ((k : ℕ) → k < length bad → StartsWithNoChar (drop k (bad ++ rest))) → bytes_text (bad ++ rest) ≡ encode_utf8_all (flat_map byte_escape bad) ++ bytes_text rest
bytes_text-bad bad rest none =
    ap items_text (byte_items-bad bad rest none) ∙ items_text-append (map Byte bad) (byte_items rest)
    ∙ ap (λ t. t ++ bytes_text rest) (items_text-map Byte bad)

-- a pair of surrogates in front
pub units_text-pair : (first : ℕ) (rest : List ℕ) → begins_pair (first ∷ rest) ≡ true → units_text (first ∷ rest) ≡ encode_utf8_all (name_spelling (surrogate_pair_char first (slice_index rest 0))) ++ units_text (drop 1 rest)
units_text-pair first [] pair = absurd (false≢true (and_parts _ _ pair).1)
units_text-pair first (second ∷ rest) pair =
    ap items_text (unit_items-pair first second rest pair) ∙ items_text-cons (Character (surrogate_pair_char first second)) (unit_items rest)

-- a unit in front that is no surrogate
pub units_text-one : (unit : ℕ) (rest : List ℕ) → unit < 0x1_0000 → is_surrogate unit ≡ false → units_text (unit ∷ rest) ≡ encode_utf8_all (name_spelling unit) ++ units_text rest
units_text-one unit rest small none = ap items_text (unit_items-one unit rest small none) ∙ items_text-cons (Character unit) (unit_items rest)

-- a surrogate in front that begins no pair
pub units_text-surrogate : (unit : ℕ) (rest : List ℕ) → is_surrogate unit ≡ true → begins_pair (unit ∷ rest) ≡ false → units_text (unit ∷ rest) ≡ encode_utf8_all (unit_escape unit) ++ units_text rest
units_text-surrogate unit rest is alone =
    ap items_text (unit_items-surrogate unit rest (grind (arith, nat_tests)) (grind (arith, nat_tests)) alone) ∙ items_text-cons (Surrogate unit) (unit_items rest)
