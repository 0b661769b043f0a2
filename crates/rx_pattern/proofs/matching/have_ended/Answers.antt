use Rattle.std.proofs.Common.{◌≡◌, ◌==◌, ℕ, true, List, [], ◌∷◌, length, refl, sym, ◌∙◌, arith}
use Rattle.std.proofs.lemmas.Bool.{eqb-true}
use Rattle.std.specs.Str.{chars}
use Rattle.rx_pattern.specs.declared.item.Item.{Item}
use Rattle.rx_pattern.specs.MatchTest.{is_empty}
use Rattle.rx_pattern.specs.Tries.{nothing_left}
use Rattle.rx_pattern.proofs.TextEnds.{is_empty-chars}
use Rattle.rx_pattern.proofs.matching.have_ended.Goals as goal

nothing_left-no_items : (items : List Item) (text : List ℕ) → (length items == 0) ≡ true → is_empty text ≡ nothing_left items text
nothing_left-no_items [] text none = refl
nothing_left-no_items (item ∷ items) text none = absurd (omega (arith, eqb-true (length (item ∷ items)) 0 none))

pub returns-then-is_empty : goal.returns-then-is_empty
returns-then-is_empty c =
    c.is_empty-then-is_empty.ensures ∙ is_empty-chars c.args.text.now c.utf8.text
    ∙ nothing_left-no_items c.args.items.now (chars c.args.text.now) (sym c.is_empty.ensures ∙ c.if-is_empty.true)
