-- The distinct items of a list are the one list that rises and has the list's items.
use Rattle.std.specs.Prelude.{◌≡◌, ℕ, List, IsSorted}
use Rattle.std.specs.Cmp.{IsTotalOrder}
use Rattle.std.specs.Cmp.Lexicographic.{slice_cmp}
use Rattle.std.specs.FinMap.{IsAntisymmetric}
use Rattle.std.specs.List.{Contains}
use Rattle.std.specs.List.Sorted.{IsPermutation, IsStrictlySortedBy, IsStrictlyIncreasing}
use Rattle.std.specs.Ordering.{nat_cmp}
use Rattle.std.specs.declared.cmp.Ordering.{Ordering}
use Rattle.order_defs.specs.Sorted.{distinct, rising_numbers, sorted_names}

-- two lists have the same items
pub record HaveSameItems {X : Type 0} (xs list : List X) : Type 0 where
  pub within : (x : X) → Contains list x → Contains xs x
  pub all : (x : X) → Contains xs x → Contains list x

-- a list rises in an order, and has another's items
pub record AreDistinctOf {X : Type 0} (cmp : X → X → Ordering) (xs list : List X) : Type 0 where
  pub rise : IsStrictlySortedBy cmp list
  pub same : HaveSameItems xs list

-- where only equal items are level, the distinct items rise and are the list's, and there is one such list
abbrev pub DistinctLaw : Type 0 → Type 0
DistinctLaw X = (cmp : X → X → Ordering) → IsTotalOrder cmp → IsAntisymmetric cmp → (xs : List X)
    → AreDistinctOf cmp xs (distinct cmp xs) × ((list : List X) → AreDistinctOf cmp xs list → list ≡ distinct cmp xs)

-- the rising numbers of a list increase strictly, and are its numbers
abbrev pub RisingNumbersLaw : Type 0
RisingNumbersLaw = (numbers : List ℕ) → IsStrictlyIncreasing (rising_numbers numbers) × HaveSameItems numbers (rising_numbers numbers)

-- the sorted names of a list are sorted by their bytes, and are the list in another order
abbrev pub SortedNamesLaw : Type 0
SortedNamesLaw = (names : List (List ℕ)) → IsSorted (slice_cmp nat_cmp) (sorted_names names) × IsPermutation names (sorted_names names)
