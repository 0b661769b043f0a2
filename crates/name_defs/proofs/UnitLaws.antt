-- How a name of units is read: a character of one unit or of a pair, and else a surrogate alone.
use Rattle.std.specs.Prelude.{◌≡◌, ℕ, ◌+◌, ◌-◌, ◌/◌, ◌%◌, ◌<◌, ◌≤◌, Bool, true, false, List, [], ◌∷◌, ◌++◌, length, flat_map, slice_index, refl}
use Rattle.std.proofs.Common.{ap, sym, ◌∙◌, arith, ⊎_elim}
use Rattle.std.proofs.lemmas.Bool.{cases_Bool, cond-true, cond-false, and_parts, and_from, and_left, false≢true, cases_lt, lt-ltb, le-ltb}
use Rattle.std.proofs.lemmas.Bool.Decides.{nat_tests}
use Rattle.std.proofs.Math.Utf8.{scalar_cases}
use Rattle.std.specs.Int.{is_in_range}
use Rattle.std.specs.Char.{IsScalar}
use Rattle.std.specs.Char.Escape.{encode_utf16}
use Rattle.std.specs.Char.Utf16.{is_high_surrogate, is_low_surrogate, surrogate_pair_char}
use Rattle.std.specs.List.{AllByRecursion}
use Rattle.name_defs.specs.Items.{Item, Character, Surrogate, item_units, begins_pair, item_of_units, unit_items, items_past}
use Rattle.name_defs.proofs.WalkLaws.{Fronts}
use Rattle.name_defs.proofs.WalkLaws.{items_past-front, items_past-restored, items_past-all, fronts_from}
use Rattle.name_defs.proofs.SpellingLaws.{IsReadable}

-- the unit is a surrogate
abbrev pub is_surrogate : ℕ → Bool
is_surrogate unit = is_in_range 0xD800 0xDFFF unit

item_of_pair : (units : List ℕ) → begins_pair units ≡ true → item_of_units units ≡ Character (surrogate_pair_char (slice_index units 0) (slice_index units 1))
unfolding item_of_units
item_of_pair units pair = cond-true _ _ _ pair

item_of_surrogate : (units : List ℕ) → begins_pair units ≡ false → is_surrogate (slice_index units 0) ≡ true → item_of_units units ≡ Surrogate (slice_index units 0)
unfolding item_of_units
item_of_surrogate units alone is = cond-false _ _ _ alone ∙ cond-true _ _ _ is

item_of_character : (units : List ℕ) → begins_pair units ≡ false → is_surrogate (slice_index units 0) ≡ false → item_of_units units ≡ Character (slice_index units 0)
unfolding item_of_units
item_of_character units alone is = cond-false _ _ _ alone ∙ cond-false _ _ _ is

-- no pair begins with a unit that is no surrogate
pub alone_from : (units : List ℕ) → is_surrogate (slice_index units 0) ≡ false → begins_pair units ≡ false
alone_from units none = and_left _ _ (let low : is_high_surrogate (slice_index units 0) ≡ false = grind (arith, nat_tests) in low)

one_unit : (c : ℕ) → c < 0x1_0000 → encode_utf16 c ≡ c ∷ []
one_unit c small = cond-true _ _ _ (lt-ltb c 0x1_0000 small)

two_units : (c : ℕ) → 0x1_0000 ≤ c → encode_utf16 c ≡ (0xD800 + (c - 0x1_0000) / 0x400) ∷ (0xDC00 + (c - 0x1_0000) % 0x400) ∷ []
two_units c large = cond-false _ _ _ (le-ltb c 0x1_0000 large)

-- a character takes a unit or two
units_some : (c : ℕ) → 0 < length (encode_utf16 c)
units_some c = ⊎_elim
    (λ (small : c < 0x1_0000). omega (arith, ap length (one_unit c small)))
    (λ large. omega (arith, ap length (two_units c large)))
    (cases_lt c 0x1_0000)

item_of_units-encode : (c : ℕ) (rest : List ℕ) → IsScalar c → item_of_units (encode_utf16 c ++ rest) ≡ Character c
item_of_units-encode c rest scalar =
    let range = scalar_cases c scalar in
    ⊎_elim
    (λ (small : c < 0x1_0000).
    let none : is_surrogate c ≡ false = ⊎_elim (λ low. grind (arith, nat_tests)) (λ high. grind (arith, nat_tests)) range in
    ap (λ t. item_of_units (t ++ rest)) (one_unit c small) ∙ item_of_character (c ∷ rest) (alone_from (c ∷ rest) none) none)
    (λ (large : 0x1_0000 ≤ c).
    let top : c < 0x11_0000 = ⊎_elim (λ low. omega arith) (λ high. high.1) range in
    let first = 0xD800 + (c - 0x1_0000) / 0x400 in
    let second = 0xDC00 + (c - 0x1_0000) % 0x400 in
    let high : is_high_surrogate first ≡ true = grind (arith, nat_tests) in
    let low : is_low_surrogate second ≡ true = grind (arith, nat_tests) in
    let value : surrogate_pair_char first second ≡ c = omega arith in
    ap (λ t. item_of_units (t ++ rest)) (two_units c large) ∙ item_of_pair (first ∷ second ∷ rest) (and_from _ _ high low) ∙ ap Character value)
    (cases_lt c 0x1_0000)

-- a character in front is read as that character
pub unit_items-encode : (c : ℕ) (rest : List ℕ) → IsScalar c → unit_items (encode_utf16 c ++ rest) ≡ Character c ∷ unit_items rest
unfolding unit_items
unit_items-encode c rest scalar = items_past-front item_of_units item_units (Character c) rest (units_some c) (item_of_units-encode c rest scalar)

pub unit_items-nil : unit_items [] ≡ []
unfolding unit_items
unit_items-nil = refl

-- a surrogate that begins no pair is read alone
pub unit_items-surrogate : (unit : ℕ) (rest : List ℕ) → 0xD800 ≤ unit → unit ≤ 0xDFFF → begins_pair (unit ∷ rest) ≡ false → unit_items (unit ∷ rest) ≡ Surrogate unit ∷ unit_items rest
unfolding unit_items
unit_items-surrogate unit rest from to alone =
    let is : is_surrogate unit ≡ true = grind (arith, nat_tests) in
    items_past-front item_of_units item_units (Surrogate unit) rest (omega arith) (item_of_surrogate (unit ∷ rest) alone is)

-- how units are read
pub ruleset unit_reading = (unit_items-nil, unit_items-encode, unit_items-surrogate)

-- a unit of 16 bits
abbrev pub IsUnit : ℕ → Type 0
IsUnit unit = unit < 0x1_0000

-- the units of a pair's character
pair_units : (first second : ℕ) → is_high_surrogate first ≡ true → is_low_surrogate second ≡ true → encode_utf16 (surrogate_pair_char first second) ≡ first ∷ second ∷ []
pair_units first second high low =
    let above : 0xD800 ≤ first = grind (arith, nat_tests) in
    let from : 0xDC00 ≤ second = grind (arith, nat_tests) in
    let below : second < 0xE000 = grind (arith, nat_tests) in
    let c = surrogate_pair_char first second in
    let one : 0xD800 + (c - 0x1_0000) / 0x400 ≡ first = omega arith in
    let two : 0xDC00 + (c - 0x1_0000) % 0x400 ≡ second = omega arith in
    two_units c (omega arith) ∙ ap (λ u. u ∷ (0xDC00 + (c - 0x1_0000) % 0x400) ∷ []) one ∙ ap (λ v. first ∷ v ∷ []) two

-- a pair in front is read as its character
pub unit_items-pair : (first second : ℕ) (rest : List ℕ) → begins_pair (first ∷ second ∷ rest) ≡ true → unit_items (first ∷ second ∷ rest) ≡ Character (surrogate_pair_char first second) ∷ unit_items rest
unfolding unit_items
unit_items-pair first second rest pair =
    let both = and_parts _ _ pair in
    let c = surrogate_pair_char first second in
    let units = pair_units first second both.0 both.1 in
    let front = ap (λ t. item_of_units (t ++ rest)) units ∙ item_of_pair (first ∷ second ∷ rest) pair in
    ap (λ t. items_past item_of_units item_units 0 (t ++ rest)) (sym units) ∙ items_past-front item_of_units item_units (Character c) rest (units_some c) front

-- a unit that is no surrogate is read as its character
pub unit_items-one : (unit : ℕ) (rest : List ℕ) → unit < 0x1_0000 → is_surrogate unit ≡ false → unit_items (unit ∷ rest) ≡ Character unit ∷ unit_items rest
unfolding unit_items
unit_items-one unit rest small none =
    let units = one_unit unit small in
    let front = ap (λ t. item_of_units (t ++ rest)) units ∙ item_of_character (unit ∷ rest) (alone_from (unit ∷ rest) none) none in
    ap (λ t. items_past item_of_units item_units 0 (t ++ rest)) (sym units) ∙ items_past-front item_of_units item_units (Character unit) rest (units_some unit) front

module _ (P : Item → Type 0) (of_character : (c : ℕ) → P (Character c)) (of_surrogate : (unit : ℕ) → is_surrogate unit ≡ true → P (Surrogate unit)) where
  -- a pair in front
  pair_fronts : (unit : ℕ) (rest : List ℕ) → begins_pair (unit ∷ rest) ≡ true → Fronts item_of_units item_units P (unit ∷ rest)
  pair_fronts unit [] pair = absurd (false≢true (and_parts _ _ pair).1)
  pair_fronts unit (second ∷ rest) pair =
      let both = and_parts _ _ pair in
      let c = surrogate_pair_char unit second in
      let units = pair_units unit second both.0 both.1 in
      fronts_from item_of_units item_units P (unit ∷ second ∷ rest) rest (Character c) (item_of_pair (unit ∷ second ∷ rest) pair)
      (units_some c) (ap (λ t. t ++ rest) (sym units)) (of_character c)

  -- units begin with an item of which P holds, where it holds of each character and of each surrogate
  pub unit_fronts : (unit : ℕ) (rest : List ℕ) → AllByRecursion IsUnit (unit ∷ rest) → Fronts item_of_units item_units P (unit ∷ rest)
  unit_fronts unit rest all = ⊎_elim
      (λ pair. pair_fronts unit rest pair)
      (λ (alone : begins_pair (unit ∷ rest) ≡ false). ⊎_elim
      (λ (is : is_surrogate unit ≡ true).
      fronts_from item_of_units item_units P (unit ∷ rest) rest (Surrogate unit) (item_of_surrogate (unit ∷ rest) alone is) (omega arith) refl (of_surrogate unit is))
      (λ (none : is_surrogate unit ≡ false).
      fronts_from item_of_units item_units P (unit ∷ rest) rest (Character unit) (item_of_character (unit ∷ rest) alone none)
      (units_some unit) (ap (λ t. t ++ rest) (sym (one_unit unit all.0))) (of_character unit))
      (cases_Bool (is_surrogate unit)))
      (cases_Bool (begins_pair (unit ∷ rest)))

readable_units : (unit : ℕ) (rest : List ℕ) → AllByRecursion IsUnit (unit ∷ rest) → Fronts item_of_units item_units IsReadable (unit ∷ rest)
readable_units = unit_fronts IsReadable (λ c. tt) (λ unit is. is)

-- the items of units have those units, and no others
pub unit_items-restored : (units : List ℕ) → AllByRecursion IsUnit units → flat_map item_units (unit_items units) ≡ units
unfolding unit_items
unit_items-restored units all = items_past-restored item_of_units item_units IsUnit IsReadable readable_units 0 units all

pub unit_items-readable : (units : List ℕ) → AllByRecursion IsUnit units → AllByRecursion IsReadable (unit_items units)
unfolding unit_items
unit_items-readable units all = items_past-all item_of_units item_units IsUnit IsReadable readable_units 0 units all
