-- Laws behind SortedLaws: a list sorted by an order is the one list that is in order and has level items as they stood.
use Rattle.std.specs.Prelude.{◌≡◌, ℕ, zero, suc, ◌+◌, Bool, true, false, cond, not, ◌&&◌, if◌then◌else◌, List, [], ◌∷◌, get_or, replicate, refl, IsSorted}
use Rattle.std.specs.Cmp.{IsTotalOrder, IsStrictWeakOrder}
use Rattle.std.specs.FinMap.{IsAntisymmetric}
use Rattle.std.specs.List.{All, filter, sum_by}
use Rattle.std.specs.List.Sorted.{IsPermutation, IsStable, ties}
use Rattle.std.specs.Ordering.{is_lt, is_eq, eq_by_cmp, ordering_reverse}
use Rattle.std.specs.declared.cmp.Ordering.{Ordering}
use Rattle.std.specs.declared.cmp.Ordering.TheVariants.{Less, Equal, Greater}
use Rattle.std.proofs.Common.{ap, sym, ◌∙◌, arith}
use Rattle.std.proofs.lemmas.List.Elements.{All-nil, All-cons, All-head, All-tail, All-weaker}
use Rattle.std.proofs.lemmas.List.Sums.{sum_by-cons}
use Rattle.std.proofs.lemmas.List.Sorted.{ranks_by, sorted_far, sum_by-IsPermutation, All-permutation, IsPermutation-refl, IsPermutation-sym, IsPermutation-cons, IsPermutation-trans, IsPermutation-middle}
use Rattle.order_defs.specs.Sorted.{placed, sorted_by_order}
use Rattle.order_defs.specs.SortedLaws.{AreSortedOf, SortedLaw}

module _ {X : Type 0} {cmp : X → X → Ordering} (o : IsTotalOrder cmp) where
  abbrev pub before : X → X → Bool
  before x y = is_lt (cmp x y)

  abbrev pub level : X → X → Bool
  level = ties before

  pub ranks : IsStrictWeakOrder before
  ranks = ranks_by o (λ x. x)

  -- no item stands before one in front of it
  abbrev pub IsInOrder : List X → Type 0
  IsInOrder [] = Unit {0}
  IsInOrder (x ∷ xs) = All (λ y. before y x ≡ false) xs × IsInOrder xs

  -- ---- in order, in the words of the library
  pub order_is_sorted : (xs : List X) → IsInOrder xs → IsSorted cmp xs
  order_is_sorted [] order k d low inside = absurd (omega (arith, inside))
  order_is_sorted (x ∷ xs) order zero d low inside = order.0 0 d (omega (arith, inside))
  order_is_sorted (x ∷ xs) order (suc k) d low inside =
      let one_more : suc k + 1 ≡ suc (k + 1) = omega arith in
      ap (λ i. before (get_or (x ∷ xs) i d) (get_or xs k d)) one_more ∙ order_is_sorted xs order.1 k d (omega arith) (omega (arith, inside))

  pub sorted_is_order : (xs : List X) → IsSorted cmp xs → IsInOrder xs
  sorted_is_order [] sorted = tt
  sorted_is_order (x ∷ xs) sorted = (
    λ k d inside. sorted_far before ranks (x ∷ xs) sorted 0 (suc k) d (omega arith) (omega (arith, inside)),
    sorted_is_order xs
        (λ k d low inside.
        let one_more : suc (k + 1) ≡ suc k + 1 = omega arith in
        ap (λ i. before (get_or (x ∷ xs) i d) (get_or xs k d)) one_more ∙ sorted (suc k) d (omega arith) (omega (arith, inside))),
  )

  -- ---- the sorted items are the items
  placed_moves : (x : X) (xs : List X) → IsPermutation (x ∷ xs) (placed cmp x xs)
  placed_moves x [] = IsPermutation-refl (x ∷ [])
  placed_moves x (y ∷ ys) = either (before y x) (placed_moves x ys)
    where
      either : (later : Bool) → IsPermutation (x ∷ ys) (placed cmp x ys) → IsPermutation (x ∷ y ∷ ys) (if later then (y ∷ placed cmp x ys) else (x ∷ y ∷ ys))
      either true behind =
          IsPermutation-trans (x ∷ y ∷ ys) (y ∷ x ∷ ys) (y ∷ placed cmp x ys)
          (IsPermutation-sym (y ∷ x ∷ ys) (x ∷ y ∷ ys) (IsPermutation-middle (y ∷ []) x ys))
          (IsPermutation-cons y (x ∷ ys) (placed cmp x ys) behind)
      either false behind = IsPermutation-refl (x ∷ y ∷ ys)

  pub sorted_moves : (xs : List X) → IsPermutation xs (sorted_by_order cmp xs)
  unfolding sorted_by_order
  sorted_moves [] = IsPermutation-refl []
  sorted_moves (x ∷ xs) =
      IsPermutation-trans (x ∷ xs) (x ∷ sorted_by_order cmp xs) (placed cmp x (sorted_by_order cmp xs))
      (IsPermutation-cons x xs (sorted_by_order cmp xs) (sorted_moves xs))
      (placed_moves x (sorted_by_order cmp xs))

  -- ---- they are in order
  placed_in_order : (x : X) (xs : List X) → IsInOrder xs → IsInOrder (placed cmp x xs)
  placed_in_order x [] order = (All-nil (λ y. before y x ≡ false), tt)
  placed_in_order x (y ∷ ys) order = either (before y x) refl (placed_in_order x ys order.1)
    where
      either : (later : Bool) → before y x ≡ later → IsInOrder (placed cmp x ys) → IsInOrder (if later then (y ∷ placed cmp x ys) else (x ∷ y ∷ ys))
      either true is behind = (
        All-permutation (λ z. before z y ≡ false) (x ∷ ys) (placed cmp x ys) (placed_moves x ys) (All-cons (λ z. before z y ≡ false) x ys (ranks.one_way y x is) order.0),
        behind,
      )
      either false is behind = (
        All-cons (λ z. before z x ≡ false) y ys is (All-weaker (λ z. before z y ≡ false) (λ z. before z x ≡ false) (λ z first. ranks.chain z y x first is) ys order.0),
        order,
      )

  pub sorted_in_order : (xs : List X) → IsInOrder (sorted_by_order cmp xs)
  unfolding sorted_by_order
  sorted_in_order [] = tt
  sorted_in_order (x ∷ xs) = placed_in_order x (sorted_by_order cmp xs) (sorted_in_order xs)

  -- ---- level items are as they stood
  both_not : (first second : Bool) → (not first && not second) ≡ true → (first ≡ false) × (second ≡ false)
  both_not true second both = absurd cc
  both_not false true both = absurd cc
  both_not false false both = (refl, refl)

  apart : (x y z : X) → before y x ≡ true → level z x ≡ true → level z y ≡ true → ⊥
  apart x y z later one other =
      let wrong : true ≡ false = sym later ∙ ranks.chain y z x (both_not (before z y) (before y z) other).1 (both_not (before z x) (before x z) one).0 in
      absurd cc

  placed_stable : (x : X) (xs : List X) (z : X) → filter (level z) (placed cmp x xs) ≡ filter (level z) (x ∷ xs)
  placed_stable x [] z = refl
  placed_stable x (y ∷ ys) z = either (before y x) refl (placed_stable x ys z)
    where
      swapped : (first second : Bool) (rest : List X) → (first ≡ true → second ≡ true → ⊥)
          → cond second (y ∷ cond first (x ∷ rest) rest) (cond first (x ∷ rest) rest) ≡ cond first (x ∷ cond second (y ∷ rest) rest) (cond second (y ∷ rest) rest)
      swapped true true rest never = absurd (never refl refl)
      swapped true false rest never = refl
      swapped false true rest never = refl
      swapped false false rest never = refl

      either : (later : Bool) → before y x ≡ later → filter (level z) (placed cmp x ys) ≡ filter (level z) (x ∷ ys)
          → filter (level z) (if later then (y ∷ placed cmp x ys) else (x ∷ y ∷ ys)) ≡ filter (level z) (x ∷ y ∷ ys)
      either true is behind = ap (λ rest. cond (level z y) (y ∷ rest) rest) behind ∙ swapped (level z x) (level z y) (filter (level z) ys) (apart x y z is)
      either false is behind = refl

  pub sorted_stable : (xs : List X) → IsStable cmp xs (sorted_by_order cmp xs)
  unfolding sorted_by_order
  sorted_stable [] z = refl
  sorted_stable (x ∷ xs) z = placed_stable x (sorted_by_order cmp xs) z ∙ ap (λ rest. cond (level z x) (x ∷ rest) rest) (sorted_stable xs z)

  -- ---- and there is one such list
  level_itself : (x : X) → level x x ≡ true
  level_itself x = tested (before x x) refl
    where
      tested : (first : Bool) → before x x ≡ first → (not first && not first) ≡ true
      tested true is = let wrong : true ≡ false = sym is ∙ ranks.one_way x x is in absurd cc
      tested false is = refl

  pub none_level : (x : X) (xs : List X) → All (λ y. before x y ≡ true) xs → filter (level x) xs ≡ []
  none_level x [] behind = refl
  none_level x (y ∷ ys) behind =
      let first : before x y ≡ true = All-head (λ z. before x z ≡ true) y ys behind in
      rw first (none_level x ys (All-tail (λ z. before x z ≡ true) y ys behind))

  all_behind : (x y : X) (ys : List X) → before x y ≡ true → All (λ z. before z y ≡ false) ys → All (λ z. before x z ≡ true) (y ∷ ys)
  all_behind x y ys first order =
      All-cons (λ z. before x z ≡ true) y ys first (All-weaker (λ z. before z y ≡ false) (λ z. before x z ≡ true) (λ z behind. tested z behind (before x z) refl) ys order)
    where
      tested : (z : X) → before z y ≡ false → (here : Bool) → before x z ≡ here → here ≡ true
      tested z behind true is = refl
      tested z behind false is = let wrong : true ≡ false = sym first ∙ ranks.chain x z y is behind in absurd cc

  not_empty : (x : X) (xs ys : List X) → filter (level x) (x ∷ xs) ≡ ys → ys ≡ [] → ⊥
  not_empty x xs ys is none =
      let wrong : x ∷ filter (level x) xs ≡ [] = ap (λ test. cond test (x ∷ filter (level x) xs) (filter (level x) xs)) (sym (level_itself x)) ∙ is ∙ none in
      absurd cc

  pub same_order : (xs ys : List X) → IsInOrder xs → IsInOrder ys → ((z : X) → filter (level z) xs ≡ filter (level z) ys) → xs ≡ ys
  same_order [] [] one other same = refl
  same_order [] (y ∷ ys) one other same = absurd (not_empty y ys (filter (level y) []) (sym (same y)) refl)
  same_order (x ∷ xs) [] one other same = absurd (not_empty x xs (filter (level x) []) (same x) refl)
  same_order (x ∷ xs) (y ∷ ys) one other same = tested (before x y) (before y x) refl refl (same_order xs ys one.1 other.1)
    where
      cancel : (test : Bool) (rest others : List X) → cond test (y ∷ rest) rest ≡ cond test (y ∷ others) others → rest ≡ others
      cancel true rest others is = cc
      cancel false rest others is = is

      heads : (test : Bool) (rest others : List X) → test ≡ true → x ∷ rest ≡ cond test (y ∷ others) others → x ≡ y
      heads true rest others meets is = cc
      heads false rest others meets is = absurd cc

      tested : (first second : Bool) → before x y ≡ first → before y x ≡ second → (((z : X) → filter (level z) xs ≡ filter (level z) ys) → xs ≡ ys) → x ∷ xs ≡ y ∷ ys
      tested true second is over rest = absurd (not_empty x xs (filter (level x) (y ∷ ys)) (same x) (none_level x (y ∷ ys) (all_behind x y ys is other.0)))
      tested false true is over rest = absurd (not_empty y ys (filter (level y) (x ∷ xs)) (sym (same y)) (none_level y (x ∷ xs) (all_behind y x xs over one.0)))
      tested false false is over rest =
          let meets : level x y ≡ true = rw (is, over) refl in
          let first : x ≡ y =
          heads (level x y) (filter (level x) xs) (filter (level x) ys) meets (ap (λ test. cond test (x ∷ filter (level x) xs) (filter (level x) xs)) (sym (level_itself x)) ∙ same x) in
          ap (λ head. head ∷ xs) first
          ∙ ap (λ list. y ∷ list)
          (rest (λ z. cancel (level z y) (filter (level z) xs) (filter (level z) ys) (ap (λ head. filter (level z) (head ∷ xs)) (sym first) ∙ same z)))

  -- ---- where only equal items are level
  module _ (alone : IsAntisymmetric cmp) where
    pub level_equal : (x y : X) → level x y ≡ eq_by_cmp cmp x y
    level_equal x y = ap (λ other. not (before x y) && not (is_lt other)) (o.antisymm y x) ∙ tested (cmp x y)
      where
        tested : (here : Ordering) → (not (is_lt here) && not (is_lt (ordering_reverse here))) ≡ is_eq here
        tested Less = refl
        tested Equal = refl
        tested Greater = refl

    level_is : (x y : X) → level x y ≡ true → x ≡ y
    level_is x y meets = alone x y (equal (cmp x y) (sym (level_equal x y) ∙ meets))
      where
        equal : (here : Ordering) → is_eq here ≡ true → here ≡ Equal
        equal Less is = absurd cc
        equal Equal is = refl
        equal Greater is = absurd cc

    abbrev copies : X → List X → ℕ
    copies x xs = sum_by (λ y. if level x y then 1 else 0) xs

    one_more : (x y : X) (ys : List X) (meets : Bool) → level x y ≡ meets → copies x (y ∷ ys) ≡ (if meets then 1 else 0) + copies x ys
    one_more x y ys meets is = sum_by-cons (λ z. if level x z then 1 else 0) y ys ∙ ap (λ test. (if test then 1 else 0) + copies x ys) is

    -- the items level with one are so many of it
    level_items : (x : X) (xs : List X) → filter (level x) xs ≡ replicate (copies x xs) x
    level_items x [] = refl
    level_items x (y ∷ ys) = tested (level x y) refl (level_items x ys)
      where
        tested : (meets : Bool) → level x y ≡ meets → filter (level x) ys ≡ replicate (copies x ys) x → cond meets (y ∷ filter (level x) ys) (filter (level x) ys) ≡ replicate (copies x (y ∷ ys)) x
        tested true is rest =
            let count : suc (copies x ys) ≡ copies x (y ∷ ys) = omega (arith, one_more x y ys true is) in
            ap (λ item. item ∷ filter (level x) ys) (sym (level_is x y is)) ∙ ap (λ items. x ∷ items) rest ∙ ap (λ n. replicate n x) count
        tested false is rest =
            let count : copies x ys ≡ copies x (y ∷ ys) = omega (arith, one_more x y ys false is) in
            rest ∙ ap (λ n. replicate n x) count

    pub moved_stable : (xs ys : List X) → IsPermutation xs ys → IsStable cmp xs ys
    moved_stable xs ys moves x =
        level_items x ys
        ∙ ap (λ count. replicate count x) (sum_by-IsPermutation (λ y. if level x y then 1 else 0) xs ys moves)
        ∙ sym (level_items x xs)

pub sorted_law : {X : Type 0} → SortedLaw X
sorted_law {X = X} cmp o xs = record {
  is = record {
    sorted = order_is_sorted o (sorted_by_order cmp xs) (sorted_in_order o xs);
    stable = sorted_stable o xs;
  };
  moved = sorted_moves o xs;
  one = one;
  one_moved = λ alone list sorted moves. one list (record { sorted = sorted; stable = moved_stable o alone xs list moves });
}
  where
    one : (list : List X) → AreSortedOf cmp xs list → list ≡ sorted_by_order cmp xs
    one list are = same_order o list (sorted_by_order cmp xs) (sorted_is_order o list are.sorted) (sorted_in_order o xs) (λ z. are.stable z ∙ sym (sorted_stable o xs z))
