-- What a try of a pattern's items at a text meets next.
use Rattle.std.specs.Prelude.{ℕ, Bool, true, false, List, [], ◌∷◌}
use Rattle.rx_pattern.specs.declared.item.Item.{Item}
use Rattle.rx_pattern.specs.declared.item.Item.TheVariants.{Plain, AnyOne, Star, OneOf}
use Rattle.rx_pattern.specs.Match.{item_takes}
use Rattle.rx_pattern.specs.MatchTest.{is_empty}

-- whether there are a first item and a first character, and the one takes the other
abbrev pub first_takes_first : List Item → List ℕ → Bool
first_takes_first [] text = false
first_takes_first (item ∷ items) [] = false
first_takes_first (item ∷ items) (c ∷ text) = item_takes item c

-- whether the first item is a star
abbrev pub begins_with_star : List Item → Bool
begins_with_star [] = false
begins_with_star (Star ∷ items) = true
begins_with_star (Plain plain ∷ items) = false
begins_with_star (AnyOne ∷ items) = false
begins_with_star (OneOf class ∷ items) = false

-- whether items and text have both ended
abbrev pub nothing_left : List Item → List ℕ → Bool
nothing_left [] text = is_empty text
nothing_left (item ∷ items) text = false
