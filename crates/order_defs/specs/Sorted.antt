-- Lists in order: sorted, where equal items stay, and distinct, where each stands once. An order is one of the library's
-- (`IsTotalOrder`): two items may be level in it.
use Rattle.std.specs.Prelude.{ℕ, if◌then◌else◌, List, [], ◌∷◌}
use Rattle.std.specs.BTreeSet.{insert_key}
use Rattle.std.specs.Cmp.Lexicographic.{slice_cmp}
use Rattle.std.specs.Ordering.{nat_cmp, is_lt}
use Rattle.std.specs.declared.cmp.Ordering.{Ordering}

module _ {X : Type 0} (cmp : X → X → Ordering) where
  -- an item among sorted ones, in front of the first that doesn't stand before it
  abbrev pub placed : X → List X → List X
  placed x [] = x ∷ []
  placed x (y ∷ ys) = if is_lt (cmp y x) then (y ∷ placed x ys) else (x ∷ y ∷ ys)

  -- the items in order, level ones as they stood
  unfoldable pub sorted_by_order : List X → List X
  sorted_by_order [] = []
  sorted_by_order (x ∷ xs) = placed x (sorted_by_order xs)

  -- the items in order, each once
  unfoldable pub distinct : List X → List X
  distinct [] = []
  distinct (x ∷ xs) = insert_key cmp (distinct xs) x

-- by a number of theirs, items of one number as they stood
abbrev pub sorted_by : {X : Type 0} → (X → ℕ) → List X → List X
sorted_by key = sorted_by_order (λ x y. nat_cmp (key x) (key y))

-- names by their bytes
abbrev pub sorted_names : List (List ℕ) → List (List ℕ)
sorted_names = sorted_by_order (slice_cmp nat_cmp)

-- numbers by rising value, each once
abbrev pub rising_numbers : List ℕ → List ℕ
rising_numbers = distinct nat_cmp
