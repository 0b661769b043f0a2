-- A test of whether a pattern matches a text.
use Rattle.std.specs.Prelude.{ℕ, Bool, true, false, ◌&&◌, ◌||◌, List, [], ◌∷◌}
use Rattle.rx_pattern.specs.declared.item.Item.{Item}
use Rattle.rx_pattern.specs.declared.item.Item.TheVariants.{Plain, AnyOne, Star, OneOf}
use Rattle.rx_pattern.specs.Match.{item_takes}

-- whether some rest of a text, the whole one and the empty one too, passes a test
abbrev pub some_rest : (List ℕ → Bool) → List ℕ → Bool
some_rest test [] = test []
some_rest test (c ∷ text) = test (c ∷ text) || some_rest test text

-- whether the text's first character passes a test, and what is behind it another one
abbrev pub first_then : (ℕ → Bool) → (List ℕ → Bool) → List ℕ → Bool
first_then takes later [] = false
first_then takes later (c ∷ text) = takes c && later text

-- whether the text is empty
abbrev pub is_empty : List ℕ → Bool
is_empty [] = true
is_empty (c ∷ text) = false

-- whether an item matches the beginning of a text, and what is behind it passes a test
abbrev pub item_then : Item → (List ℕ → Bool) → List ℕ → Bool
item_then Star later text = some_rest later text
item_then (Plain plain) later text = first_then (item_takes (Plain plain)) later text
item_then AnyOne later text = first_then (item_takes AnyOne) later text
item_then (OneOf class) later text = first_then (item_takes (OneOf class)) later text

-- whether the items match the whole text
unfoldable pub is_match : List Item → List ℕ → Bool
is_match [] = is_empty
is_match (item ∷ items) = item_then item (is_match items)
