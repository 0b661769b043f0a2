-- Printed text shows: it has no control character, and that of a name has no `/`.
use Rattle.std.specs.Prelude.{◌≡◌, ℕ, ◌/◌, ◌%◌, ◌<◌, ◌≤◌, Bool, false, ◌||◌, ◌==◌, List, [], ◌∷◌, ◌++◌, length, slice_index, flat_map, All, ⊤, refl}
use Rattle.std.proofs.Common.{arith, ⊎_elim}
use Rattle.std.proofs.lemmas.Bool.{cond_both, or_from, or_parts, cases_lt, eqb-false}
use Rattle.std.proofs.lemmas.Bool.Decides.{nat_tests}
use Rattle.std.proofs.lemmas.List.Elements.{All-from_get_or, recursion_from_All}
use Rattle.std.proofs.lemmas.Str.{NoCharPasses-byte}
use Rattle.std.specs.Char.{is_ascii_control}
use Rattle.std.specs.List.{AllByRecursion}
use Rattle.std.specs.Str.{NonePass, NoCharPasses, chars}
use Rattle.name_defs.specs.Spelling.{hex_digit, byte_escape, unit_escape, word_spelling, name_spelling, backslash, slash, is_noncharacter}
use Rattle.name_defs.specs.Items.{Item, Character, Byte, Surrogate, item_of_bytes, item_bytes, item_of_units, item_units, byte_items, unit_items}
use Rattle.name_defs.specs.Texts.{IsShown, IsShownInName, item_spelling, items_text, bytes_text, units_text, word_text}
use Rattle.name_defs.proofs.WalkLaws.{items_past-all}
use Rattle.name_defs.proofs.ByteLaws.{byte_fronts}
use Rattle.name_defs.proofs.UnitLaws.{IsUnit, unit_fronts}

-- a character that doesn't stand in a printed name
abbrev is_kept_out : ℕ → Bool
is_kept_out c = is_ascii_control c || c == slash

none_pass-append : (p : ℕ → Bool) (xs ys : List ℕ) → NonePass p xs → NonePass p ys → NonePass p (xs ++ ys)
none_pass-append p [] ys a b = b
none_pass-append p (x ∷ xs) ys a b = (a.0, none_pass-append p xs ys a.1 b)

-- what passes no character of each spelling passes none of all
none_pass-flat_map : {X : Type 0} (p : ℕ → Bool) (spelling : X → List ℕ) (xs : List X) → AllByRecursion (λ x. NonePass p (spelling x)) xs → NonePass p (flat_map spelling xs)
none_pass-flat_map p spelling [] all = tt
none_pass-flat_map p spelling (x ∷ xs) all = none_pass-append p (spelling x) (flat_map spelling xs) all.0 (none_pass-flat_map p spelling xs all.1)

digit_shown : (n : ℕ) → n < 16 → is_kept_out (hex_digit n) ≡ false
unfolding hex_digit
digit_shown n small = grind (arith, nat_tests)

byte_escape_shown : (byte : ℕ) → byte < 256 → NonePass is_kept_out (byte_escape byte)
unfolding byte_escape
byte_escape_shown byte small = (refl, (refl, (digit_shown (byte / 16) (omega arith), (digit_shown (byte % 16) (omega arith), tt))))

unit_escape_shown : (unit : ℕ) → unit < 65536 → NonePass is_kept_out (unit_escape unit)
unfolding unit_escape
unit_escape_shown unit small = (refl, (refl, (digit_shown (unit / 4096) (omega arith), (digit_shown (unit / 256 % 16) (omega arith), (digit_shown (unit / 16 % 16) (omega arith), (digit_shown (unit % 16) (omega arith), tt))))))

-- a character of a word, where p passes control characters and others that don't stand there
word_shown : (p : ℕ → Bool) → NonePass p (backslash ∷ backslash ∷ []) → ((n : ℕ) → n < 256 → NonePass p (byte_escape n)) → ((n : ℕ) → n < 65536 → NonePass p (unit_escape n))
    → (c : ℕ) → (is_ascii_control c ≡ false → p c ≡ false) → NonePass p (word_spelling c)
unfolding word_spelling
word_shown p doubled bytes units c kept =
    cond_both (c == backslash) _ _ (NonePass p) (λ is. doubled) (λ _.
    cond_both (is_ascii_control c) _ _ (NonePass p) (λ is. bytes c (grind (arith, nat_tests))) (λ none.
    cond_both (is_noncharacter c) _ _ (NonePass p) (λ is. units c (grind (arith, nat_tests))) (λ _. (kept none, tt))))

character_shown : (c : ℕ) → NonePass is_kept_out (name_spelling c)
unfolding name_spelling
character_shown c =
    cond_both (c == slash) _ _ (NonePass is_kept_out) (λ is. byte_escape_shown c (grind (arith, nat_tests)))
    (λ none. word_shown is_kept_out (refl, (refl, tt)) byte_escape_shown unit_escape_shown c (λ control. or_from _ _ control none))

-- an item whose numbers are those of a byte or a unit
abbrev IsStored : Item → Type 0
IsStored (Character c) = ⊤
IsStored (Byte byte) = byte < 256
IsStored (Surrogate unit) = unit < 65536

item_shown : (item : Item) → IsStored item → NonePass is_kept_out (item_spelling item)
item_shown (Character c) stored = character_shown c
item_shown (Byte byte) stored = byte_escape_shown byte stored
item_shown (Surrogate unit) stored = unit_escape_shown unit stored

items_shown : (items : List Item) → AllByRecursion IsStored items → AllByRecursion (λ item. NonePass is_kept_out (item_spelling item)) items
items_shown [] all = tt
items_shown (item ∷ items) all = (item_shown item all.0, items_shown items all.1)

-- a byte of a text whose characters are kept
byte_shown : (text : List ℕ) (i : ℕ) → NoCharPasses is_kept_out text → i < length text → IsShownInName (slice_index text i)
byte_shown text i none less = ⊎_elim
    (λ (low : slice_index text i < 128).
    let kept = or_parts _ _ (NoCharPasses-byte is_kept_out text i none less low) in
    let control : is_ascii_control (slice_index text i) ≡ false = kept.0 in
    let other : (slice_index text i == slash) ≡ false = kept.1 in
    (grind (arith, nat_tests), grind (arith, nat_tests), eqb-false _ _ other))
    (λ (high : 128 ≤ slice_index text i). (omega arith, λ same. omega arith, λ same. omega arith))
    (cases_lt (slice_index text i) 128)

items_text-shown : (items : List Item) → AllByRecursion IsStored items → All IsShownInName (items_text items)
unfolding items_text
items_text-shown items all =
    let text = items_text items in
    let none : NoCharPasses is_kept_out text = (flat_map item_spelling items, refl, none_pass-flat_map is_kept_out item_spelling items (items_shown items all)) in
    All-from_get_or IsShownInName text 0 (λ i less. byte_shown text i none less)

-- the text of a name of bytes
pub bytes_text_shows : (name : List ℕ) → All (λ byte. byte < 256) name → All IsShownInName (bytes_text name)
unfolding byte_items
bytes_text_shows name all =
    let fronts = byte_fronts (λ byte. byte < 256) IsStored (λ c. tt) (λ byte high stored. stored) in
    items_text-shown (byte_items name) (items_past-all item_of_bytes item_bytes (λ byte. byte < 256) IsStored fronts 0 name (recursion_from_All (λ byte. byte < 256) name all))

-- the text of a name of units
pub units_text_shows : (name : List ℕ) → All IsUnit name → All IsShownInName (units_text name)
unfolding unit_items
units_text_shows name all =
    let fronts = unit_fronts IsStored (λ c. tt) (λ unit is. grind (arith, nat_tests)) in
    items_text-shown (unit_items name) (items_past-all item_of_units item_units IsUnit IsStored fronts 0 name (recursion_from_All IsUnit name all))

-- the texts of names
pub ruleset names_show = (bytes_text_shows, units_text_shows)

-- what passes nothing that another test keeps out
none_pass-weaker : (p q : ℕ → Bool) → ((c : ℕ) → q c ≡ false → p c ≡ false) → (xs : List ℕ) → NonePass q xs → NonePass p xs
none_pass-weaker p q less [] none = tt
none_pass-weaker p q less (x ∷ xs) none = (less x none.0, none_pass-weaker p q less xs none.1)

no_control : (xs : List ℕ) → NonePass is_kept_out xs → NonePass is_ascii_control xs
no_control xs none = none_pass-weaker is_ascii_control is_kept_out (λ c kept. (or_parts _ _ kept).0) xs none

word_characters_shown : (cs : List ℕ) → AllByRecursion (λ c. NonePass is_ascii_control (word_spelling c)) cs
word_characters_shown [] = tt
word_characters_shown (c ∷ cs) = (
  word_shown is_ascii_control (refl, (refl, tt)) (λ n small. no_control (byte_escape n) (byte_escape_shown n small)) (λ n small. no_control (unit_escape n) (unit_escape_shown n small)) c (λ kept. kept),
  word_characters_shown cs,
)

word_byte_shown : (text : List ℕ) (i : ℕ) → NoCharPasses is_ascii_control text → i < length text → IsShown (slice_index text i)
word_byte_shown text i none less = ⊎_elim
    (λ (low : slice_index text i < 128).
    let control : is_ascii_control (slice_index text i) ≡ false = NoCharPasses-byte is_ascii_control text i none less low in
    (grind (arith, nat_tests), grind (arith, nat_tests)))
    (λ (high : 128 ≤ slice_index text i). (omega arith, λ same. omega arith))
    (cases_lt (slice_index text i) 128)

-- the text of a word
pub word_text_shows : (word : List ℕ) → All IsShown (word_text word)
unfolding word_text
word_text_shows word =
    let cs = chars word in
    let text = word_text word in
    let none : NoCharPasses is_ascii_control text = (flat_map word_spelling cs, refl, none_pass-flat_map is_ascii_control word_spelling cs (word_characters_shown cs)) in
    All-from_get_or IsShown text 0 (λ i less. word_byte_shown text i none less)
