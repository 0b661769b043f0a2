-- A list sorted by an order is the one list that is in order and has level items as they stood.
use Rattle.std.specs.Prelude.{◌≡◌, List, IsSorted}
use Rattle.std.specs.Cmp.{IsTotalOrder}
use Rattle.std.specs.FinMap.{IsAntisymmetric}
use Rattle.std.specs.List.Sorted.{IsPermutation, IsStable}
use Rattle.std.specs.declared.cmp.Ordering.{Ordering}
use Rattle.order_defs.specs.Sorted.{sorted_by_order}

-- a list is another in order, where level items stand as they do there
pub record AreSortedOf {X : Type 0} (cmp : X → X → Ordering) (xs list : List X) : Type 0 where
  pub sorted : IsSorted cmp list
  pub stable : IsStable cmp xs list

-- the sorted list is in order, has level items as they stood and the same items, and there is one such list; where only
-- equal items are level, any order of the items that is sorted is it
pub record IsOneSortedList {X : Type 0} (cmp : X → X → Ordering) (xs : List X) : Type 0 where
  pub is : AreSortedOf cmp xs (sorted_by_order cmp xs)
  pub moved : IsPermutation xs (sorted_by_order cmp xs)
  pub one : (list : List X) → AreSortedOf cmp xs list → list ≡ sorted_by_order cmp xs
  pub one_moved : IsAntisymmetric cmp → (list : List X) → IsSorted cmp list → IsPermutation xs list → list ≡ sorted_by_order cmp xs

abbrev pub SortedLaw : Type 0 → Type 0
SortedLaw X = (cmp : X → X → Ordering) → IsTotalOrder cmp → (xs : List X) → IsOneSortedList cmp xs
