-- The items of a list that keeps one item by itself.
use Rattle.std.specs.Prelude.{List, [], ◌∷◌}
use Rattle.rx_ranges.specs.declared.items.Held.{Held}
use Rattle.rx_ranges.specs.declared.items.Held.TheVariants.{One, Many}

abbrev pub held_items : {T : Type 0} → Held T → List T
held_items (One item) = item ∷ []
held_items (Many items) = items.items
