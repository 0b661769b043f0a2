-- The test decides whether a pattern matches.
use Rattle.std.proofs.Common.{◌≡◌, ℕ, Bool, true, take, drop, length, List, [], ◌∷◌, ◌↔◌, refl, sym, ◌∙◌, ap}
use Rattle.std.specs.Prelude.{IsTrue}
use Rattle.std.proofs.lemmas.Bool.{false≢true, and_parts, and_from}
use Rattle.std.proofs.lemmas.List.{take-append-drop, drop_at}
use Rattle.rx_pattern.specs.declared.item.Item.{Item}
use Rattle.rx_pattern.specs.declared.item.Item.TheVariants.{Plain, AnyOne, Star, OneOf}
use Rattle.rx_pattern.specs.Match.{item_takes, BeginsWith, Match}
use Rattle.rx_pattern.specs.MatchTest.{is_match, first_then}
use Rattle.rx_pattern.proofs.Tries.{some_rest-shows, some_rest-from}

begins-shown : (item : Item) (items : List Item) (text : List ℕ) → ((rest : List ℕ) → is_match items rest ≡ true → Match items rest)
    → first_then (item_takes item) (is_match items) text ≡ true → BeginsWith item (Match items) text
begins-shown item items [] later passes = absurd (false≢true passes)
begins-shown item items (c ∷ text) later passes =
    let parts = and_parts (item_takes item c) (is_match items text) passes in
    (c, text, refl, parts.0, later text parts.1)

Match-shown : (items : List Item) (text : List ℕ) → is_match items text ≡ true → Match items text
unfolding Match is_match
Match-shown [] [] passes = refl
Match-shown [] (c ∷ text) passes = absurd (false≢true passes)
Match-shown (Star ∷ items) text passes =
    let found = some_rest-shows (is_match items) text passes in
    (take found.0 text, drop found.0 text, sym (take-append-drop found.0 text), Match-shown items (drop found.0 text) found.1)
Match-shown (Plain plain ∷ items) text passes = begins-shown (Plain plain) items text (Match-shown items) passes
Match-shown (AnyOne ∷ items) text passes = begins-shown AnyOne items text (Match-shown items) passes
Match-shown (OneOf class ∷ items) text passes = begins-shown (OneOf class) items text (Match-shown items) passes

begins-tested : (item : Item) (items : List Item) (text : List ℕ) → ((rest : List ℕ) → Match items rest → is_match items rest ≡ true)
    → BeginsWith item (Match items) text → first_then (item_takes item) (is_match items) text ≡ true
begins-tested item items text later begins =
    ap (first_then (item_takes item) (is_match items)) begins.2
    ∙ and_from (item_takes item begins.0) (is_match items begins.1) begins.3 (later begins.1 begins.4)

Match-tested : (items : List Item) (text : List ℕ) → Match items text → is_match items text ≡ true
unfolding Match is_match
Match-tested [] text matches = ap (is_match []) matches
Match-tested (Star ∷ items) text matches =
    some_rest-from (is_match items) text (length matches.0)
    (ap (is_match items) (ap (drop (length matches.0)) matches.2 ∙ drop_at matches.0 matches.1 (length matches.0) refl)
    ∙ Match-tested items matches.1 matches.3)
Match-tested (Plain plain ∷ items) text matches = begins-tested (Plain plain) items text (Match-tested items) matches
Match-tested (AnyOne ∷ items) text matches = begins-tested AnyOne items text (Match-tested items) matches
Match-tested (OneOf class ∷ items) text matches = begins-tested (OneOf class) items text (Match-tested items) matches

pub test_decides : (items : List Item) (text : List ℕ) → IsTrue (is_match items text) ↔ Match items text
test_decides items text = (Match-shown items text, Match-tested items text)

-- an answer of the test
pub decided : (answer : Bool) (items : List Item) (text : List ℕ) → answer ≡ is_match items text → IsTrue answer ↔ Match items text
decided answer items text tested = (λ yes. Match-shown items text (sym tested ∙ yes), λ matches. tested ∙ Match-tested items text matches)
