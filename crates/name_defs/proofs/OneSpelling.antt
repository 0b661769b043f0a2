-- One spelling for each stored name: equal texts come from equal names.
use Rattle.std.specs.Prelude.{◌≡◌, ℕ, List, [], ◌∷◌, length, flat_map, All, refl}
use Rattle.std.proofs.Common.{ap, sym, ◌∙◌, arith, length-append}
use Rattle.std.proofs.lemmas.List.Elements.{recursion_from_All}
use Rattle.std.proofs.lemmas.Str.{encodes_same}
use Rattle.std.specs.List.{AllByRecursion}
use Rattle.name_defs.specs.Items.{Item, item_bytes, item_units, byte_items, unit_items}
use Rattle.name_defs.specs.Texts.{item_spelling, items_text, bytes_text, units_text}
use Rattle.name_defs.proofs.SpellingLaws.{IsReadable, item_spelling-same, item_spelling-some}
use Rattle.name_defs.proofs.ByteLaws.{byte_items-restored, byte_items-readable}
use Rattle.name_defs.proofs.UnitLaws.{IsUnit, unit_items-restored, unit_items-readable}

-- no item is spelled as nothing
spelled_some : (item : Item) (items : List Item) → IsReadable item → [] ≡ flat_map item_spelling (item ∷ items) → ⊥
spelled_some item items readable e = omega (arith, item_spelling-some item readable, ap length e, length-append (item_spelling item) (flat_map item_spelling items))

-- equal spellings are those of equal items
same_items : (xs ys : List Item) → AllByRecursion IsReadable xs → AllByRecursion IsReadable ys → flat_map item_spelling xs ≡ flat_map item_spelling ys → xs ≡ ys
same_items [] [] p q e = refl
same_items [] (y ∷ ys) p q e = absurd (spelled_some y ys q.0 e)
same_items (x ∷ xs) [] p q e = absurd (spelled_some x xs p.0 (sym e))
same_items (x ∷ xs) (y ∷ ys) p q e =
    let same = item_spelling-same x y (flat_map item_spelling xs) (flat_map item_spelling ys) p.0 q.0 e in
    let rest = same_items xs ys p.1 q.1 same.1 in
    ap (λ i. i ∷ xs) same.0 ∙ ap (λ t. y ∷ t) rest

-- equal texts are those of equal items
items_text-same : (xs ys : List Item) → AllByRecursion IsReadable xs → AllByRecursion IsReadable ys → items_text xs ≡ items_text ys → xs ≡ ys
unfolding items_text
items_text-same xs ys p q e = same_items xs ys p q (encodes_same (flat_map item_spelling xs) (flat_map item_spelling ys) e)

-- names of bytes with one text are one name
pub one_spelling_of_bytes : (a b : List ℕ) → bytes_text a ≡ bytes_text b → a ≡ b
one_spelling_of_bytes a b e =
    let same = items_text-same (byte_items a) (byte_items b) (byte_items-readable a) (byte_items-readable b) e in
    sym (byte_items-restored a) ∙ ap (flat_map item_bytes) same ∙ byte_items-restored b

-- names of units with one text are one name
pub one_spelling_of_units : (a b : List ℕ) → All IsUnit a → All IsUnit b → units_text a ≡ units_text b → a ≡ b
one_spelling_of_units a b p q e =
    let all_a = recursion_from_All IsUnit a p in
    let all_b = recursion_from_All IsUnit b q in
    let same = items_text-same (unit_items a) (unit_items b) (unit_items-readable a all_a) (unit_items-readable b all_b) e in
    sym (unit_items-restored a all_a) ∙ ap (flat_map item_units) same ∙ unit_items-restored b all_b
