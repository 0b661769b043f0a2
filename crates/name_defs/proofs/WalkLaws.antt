-- Laws of a reading by items, whatever is read.
use Rattle.std.specs.Prelude.{◌≡◌, ℕ, zero, suc, ◌-◌, ◌<◌, List, [], ◌∷◌, ◌++◌, length, drop, flat_map, refl}
use Rattle.std.proofs.Common.{ap, sym, ◌∙◌, subst, arith}
use Rattle.std.proofs.lemmas.List.{drop_at}
use Rattle.std.specs.List.{AllByRecursion}
use Rattle.name_defs.specs.Items.{Item, items_past}

module _ (front : List ℕ → Item) (stored : Item → List ℕ) where
  -- the numbers of an item in front are passed
  items_past-append : (xs ys : List ℕ) → items_past front stored (length xs) (xs ++ ys) ≡ items_past front stored 0 ys
  items_past-append [] ys = refl
  items_past-append (x ∷ xs) ys = items_past-append xs ys

  -- where the front of the numbers is an item's, that item comes first
  items_past-numbers : (item : Item) (xs ys : List ℕ) → stored item ≡ xs → 0 < length xs → front (xs ++ ys) ≡ item → items_past front stored 0 (xs ++ ys) ≡ item ∷ items_past front stored 0 ys
  items_past-numbers item [] ys is some first = absurd (omega arith)
  items_past-numbers item (x ∷ xs) ys is some first =
      let len : length (stored item) - 1 ≡ length xs = omega (arith, ap length is) in
      ap (λ i. i ∷ items_past front stored (length (stored i) - 1) (xs ++ ys)) first
      ∙ ap (λ n. item ∷ items_past front stored n (xs ++ ys)) len
      ∙ ap (λ t. item ∷ t) (items_past-append xs ys)

  pub items_past-front : (item : Item) (ys : List ℕ) → 0 < length (stored item) → front (stored item ++ ys) ≡ item → items_past front stored 0 (stored item ++ ys) ≡ item ∷ items_past front stored 0 ys
  items_past-front item ys some first = items_past-numbers item (stored item) ys refl some first

  -- what the item in front of numbers is like: its own numbers stand there, and P holds of it
  pub record Fronts (P : Item → Type 0) (xs : List ℕ) : Type 0 where
    pub some : 0 < length (stored (front xs))
    pub splits : xs ≡ stored (front xs) ++ drop (length (stored (front xs))) xs
    pub holds : P (front xs)

  -- numbers that begin with an item's own, and whose front tells that item
  pub fronts_from : (P : Item → Type 0) (xs rest : List ℕ) (item : Item) → front xs ≡ item → 0 < length (stored item) → xs ≡ stored item ++ rest → P item → Fronts P xs
  fronts_from P xs rest item first some split holds =
      let behind : drop (length (stored item)) xs ≡ rest = ap (drop (length (stored item))) split ∙ drop_at (stored item) rest (length (stored item)) refl in
      let splits : xs ≡ stored item ++ drop (length (stored item)) xs = split ∙ ap (λ t. stored item ++ t) (sym behind) in
      record {
        some = subst (λ i. 0 < length (stored i)) (sym first) some;
        splits = subst (λ i. xs ≡ stored i ++ drop (length (stored i)) xs) (sym first) splits;
        holds = subst P (sym first) holds;
      }

  module _ (IsStored : ℕ → Type 0) (P : Item → Type 0) (fronts : (x : ℕ) (xs : List ℕ) → AllByRecursion IsStored (x ∷ xs) → Fronts P (x ∷ xs)) where
    -- the items have the numbers that were read, and no others
    pub items_past-restored : (inside : ℕ) (xs : List ℕ) → AllByRecursion IsStored xs → flat_map stored (items_past front stored inside xs) ≡ drop inside xs
    items_past-restored zero [] all = refl
    items_past-restored (suc inside) [] all = refl
    items_past-restored (suc inside) (x ∷ xs) all = items_past-restored inside xs all.1
    items_past-restored zero (x ∷ xs) all =
        let there = fronts x xs all in
        let item = front (x ∷ xs) in
        let behind = items_past-restored (length (stored item) - 1) xs all.1 in
        let len : suc (length (stored item) - 1) ≡ length (stored item) = omega (arith, there.some) in
        ap (λ t. stored item ++ t) behind ∙ ap (λ n. stored item ++ drop n (x ∷ xs)) len ∙ sym there.splits

    -- P holds of each item
    pub items_past-all : (inside : ℕ) (xs : List ℕ) → AllByRecursion IsStored xs → AllByRecursion P (items_past front stored inside xs)
    items_past-all inside [] all = tt
    items_past-all (suc inside) (x ∷ xs) all = items_past-all inside xs all.1
    items_past-all zero (x ∷ xs) all = ((fronts x xs all).holds, items_past-all (length (stored (front (x ∷ xs))) - 1) xs all.1)
