-- Laws behind DistinctLaws: the distinct items of a list are the one list that rises and has the list's items.
use Rattle.std.specs.Prelude.{◌≡◌, Bool, true, false, cond, ◌||◌, List, [], ◌∷◌, ◌++◌, refl}
use Rattle.std.specs.BTreeSet.{insert_key}
use Rattle.std.specs.Cmp.{IsTotalOrder, eq_by_cmp_equiv, both_ways}
use Rattle.std.specs.Cmp.Lexicographic.{slice_cmp}
use Rattle.std.specs.FinMap.{IsAntisymmetric, nat_cmp-IsAntisymmetric}
use Rattle.std.specs.List.{All, Contains, list_any, filter}
use Rattle.std.specs.List.Sorted.{IsPermutation, IsStrictlySortedBy}
use Rattle.std.specs.Ordering.{nat_cmp, is_lt, is_eq, eq_by_cmp, ordering_reverse, match_ordering}
use Rattle.std.specs.declared.cmp.Ordering.{Ordering}
use Rattle.std.specs.declared.cmp.Ordering.TheVariants.{Less, Equal, Greater}
use Rattle.std.proofs.Common.{ap, sym, ◌∙◌}
use Rattle.std.proofs.lemmas.Cmp.{nat_cmp_total, nat_list_cmp_total}
use Rattle.std.proofs.lemmas.List.Elements.{All-nil, All-head, All-tail, All-weaker, All-from_recursion, recursion_from_All}
use Rattle.std.proofs.lemmas.List.Sorted.{list_any-IsPermutation, IsPermutation-to_front}
use Rattle.std.proofs.lemmas.Map.Keys.{IsStrictlyIncreasing-from_sorted}
use Rattle.std.proofs.lemmas.Map.Views.{All-insert_key, Contains-from_any, list_any-from_Contains}
use Rattle.order_defs.specs.Sorted.{distinct, rising_numbers}
use Rattle.order_defs.proofs.SortedLaws.{IsInOrder, same_order, none_level, level, level_equal, sorted_law}
use Rattle.order_defs.specs.DistinctLaws.{DistinctLaw, RisingNumbersLaw, SortedNamesLaw}

module _ {X : Type 0} (cmp : X → X → Ordering) where
  by_rank : (P : List X → Type 0) (rank : Ordering) (front same behind : List X) → (rank ≡ Less → P front) → (rank ≡ Equal → P same) → (rank ≡ Greater → P behind)
      → P (match_ordering rank front same behind)
  by_rank P Less front same behind first second third = first refl
  by_rank P Equal front same behind first second third = second refl
  by_rank P Greater front same behind first second third = third refl

  -- what holds of each item holds of the distinct ones
  pub distinct_all : (P : X → Type 0) (xs : List X) → All P xs → All P (distinct cmp xs)
  unfolding distinct
  distinct_all P [] all = All-nil P
  distinct_all P (x ∷ xs) all = All-insert_key cmp x P (distinct cmp xs) (distinct_all P xs (All-tail P x xs all)) (All-head P x xs all)

  abbrev has : X → List X → Bool
  has q xs = list_any (eq_by_cmp cmp q) xs

  equal_rank : (rank : Ordering) → is_eq rank ≡ true → rank ≡ Equal
  equal_rank Less is = absurd cc
  equal_rank Equal is = refl
  equal_rank Greater is = absurd cc

  module _ (o : IsTotalOrder cmp) where
    -- ---- they rise
    all_behind : (x y : X) (ys : List X) → cmp x y ≡ Less → All (λ z. cmp y z ≡ Less) ys → All (λ z. cmp x z ≡ Less) ys
    all_behind x y ys first = All-weaker (λ z. cmp y z ≡ Less) (λ z. cmp x z ≡ Less) (λ z behind. o.trans x y z first behind) ys

    inserted_sorted : (xs : List X) (x : X) → IsStrictlySortedBy cmp xs → IsStrictlySortedBy cmp (insert_key cmp xs x)
    unfolding IsStrictlySortedBy
    inserted_sorted [] x sorted = (tt, tt)
    inserted_sorted (y ∷ ys) x sorted =
        let behind : All (λ z. cmp y z ≡ Less) ys = All-from_recursion (λ z. cmp y z ≡ Less) ys sorted.0 in
        by_rank (IsStrictlySortedBy cmp) (cmp x y) (x ∷ y ∷ ys) (y ∷ ys) (y ∷ insert_key cmp ys x)
        (λ less. ((less, recursion_from_All (λ z. cmp x z ≡ Less) ys (all_behind x y ys less behind)), sorted))
        (λ same. sorted)
        (λ greater. (
          recursion_from_All (λ z. cmp y z ≡ Less) (insert_key cmp ys x) (All-insert_key cmp x (λ z. cmp y z ≡ Less) ys behind (o.antisymm y x ∙ ap ordering_reverse greater)),
          inserted_sorted ys x sorted.1,
        ))

    pub distinct_sorted : (xs : List X) → IsStrictlySortedBy cmp (distinct cmp xs)
    unfolding distinct IsStrictlySortedBy
    distinct_sorted [] = tt
    distinct_sorted (x ∷ xs) = inserted_sorted (distinct cmp xs) x (distinct_sorted xs)

    rise_in_order : (xs : List X) → IsStrictlySortedBy cmp xs → IsInOrder o xs
    unfolding IsStrictlySortedBy
    rise_in_order [] sorted = tt
    rise_in_order (x ∷ xs) sorted = (
      All-weaker (λ y. cmp x y ≡ Less) (λ y. is_lt (cmp y x) ≡ false) (λ y less. ap is_lt (o.antisymm y x ∙ ap ordering_reverse less)) xs (All-from_recursion (λ y. cmp x y ≡ Less) xs sorted.0),
      rise_in_order xs sorted.1,
    )

    module _ (alone : IsAntisymmetric cmp) where
      -- ---- they are the same items
      or_twice : (first rest : Bool) → (first || rest) ≡ (first || (first || rest))
      or_twice true rest = refl
      or_twice false rest = refl

      or_other : (first second rest : Bool) → (first || (second || rest)) ≡ (second || (first || rest))
      or_other true true rest = refl
      or_other true false rest = refl
      or_other false second rest = refl

      has_inserted : (q : X) (xs : List X) (x : X) → has q (insert_key cmp xs x) ≡ has q (x ∷ xs)
      has_inserted q [] x = refl
      has_inserted q (y ∷ ys) x =
          by_rank (λ list. has q list ≡ has q (x ∷ y ∷ ys)) (cmp x y) (x ∷ y ∷ ys) (y ∷ ys) (y ∷ insert_key cmp ys x)
          (λ less. refl)
          (λ same. or_twice (eq_by_cmp cmp q y) (has q ys) ∙ ap (λ first. has q (first ∷ y ∷ ys)) (sym (alone x y same)))
          (λ greater. ap (λ here. eq_by_cmp cmp q y || here) (has_inserted q ys x) ∙ or_other (eq_by_cmp cmp q y) (eq_by_cmp cmp q x) (has q ys))

      has_distinct : (q : X) (xs : List X) → has q (distinct cmp xs) ≡ has q xs
      unfolding distinct
      has_distinct q [] = refl
      has_distinct q (x ∷ xs) = has_inserted q (distinct cmp xs) x ∙ ap (λ here. eq_by_cmp cmp q x || here) (has_distinct q xs)

      -- ---- and there is one such list
      once : (q : X) (xs : List X) → IsStrictlySortedBy cmp xs → filter (level o q) xs ≡ cond (has q xs) (q ∷ []) []
      unfolding IsStrictlySortedBy
      once q [] sorted = refl
      once q (y ∷ ys) sorted = ap (λ test. cond test (y ∷ filter (level o q) ys) (filter (level o q) ys)) (level_equal o alone q y) ∙ tested (eq_by_cmp cmp q y) refl (once q ys sorted.1)
        where
          tested : (same : Bool) → eq_by_cmp cmp q y ≡ same → filter (level o q) ys ≡ cond (has q ys) (q ∷ []) []
              → cond same (y ∷ filter (level o q) ys) (filter (level o q) ys) ≡ cond (same || has q ys) (q ∷ []) []
          tested true is rest =
              let one : q ≡ y = alone q y (equal_rank (cmp q y) is) in
              let behind : All (λ z. is_lt (cmp q z) ≡ true) ys =
              All-weaker (λ z. cmp y z ≡ Less) (λ z. is_lt (cmp q z) ≡ true) (λ z less. ap (λ first. is_lt (cmp first z)) one ∙ ap is_lt less) ys (All-from_recursion (λ z. cmp y z ≡ Less) ys sorted.0) in
              ap (λ first. first ∷ filter (level o q) ys) (sym one) ∙ ap (λ list. q ∷ list) (none_level o q ys behind)
          tested false is rest = rest

      pub same_distinct : (xs ys : List X) → IsStrictlySortedBy cmp xs → IsStrictlySortedBy cmp ys → ((q : X) → has q xs ≡ has q ys) → xs ≡ ys
      same_distinct xs ys one other same =
          same_order o xs ys (rise_in_order xs one) (rise_in_order ys other)
          (λ q. once q xs one ∙ ap (λ here. cond here (q ∷ []) []) (same q) ∙ sym (once q ys other))

      -- in whatever order the items stand
      pub distinct_moved : (xs ys : List X) → IsPermutation xs ys → distinct cmp xs ≡ distinct cmp ys
      distinct_moved xs ys moves =
          same_distinct (distinct cmp xs) (distinct cmp ys) (distinct_sorted xs) (distinct_sorted ys)
          (λ q. has_distinct q xs ∙ list_any-IsPermutation (eq_by_cmp cmp q) xs ys moves ∙ sym (has_distinct q ys))

      -- one more item at the end of the list goes to its place
      pub distinct_push : (xs : List X) (x : X) → distinct cmp (xs ++ x ∷ []) ≡ insert_key cmp (distinct cmp xs) x
      unfolding distinct
      distinct_push xs x = distinct_moved (xs ++ x ∷ []) (x ∷ xs) (IsPermutation-to_front xs x)

      is_level : (x y : X) → eq_by_cmp cmp x y ≡ true → x ≡ y
      is_level x y same = alone x y (equal_rank (cmp x y) same)

      has_contained : (q : X) (xs : List X) → Contains xs q → has q xs ≡ true
      has_contained q xs contains = list_any-from_Contains (eq_by_cmp_equiv o) q xs contains

      contained_has : (q : X) (xs : List X) → has q xs ≡ true → Contains xs q
      contained_has q xs here = Contains-from_any is_level q xs here

pub distinct_law : {X : Type 0} → DistinctLaw X
distinct_law cmp o alone xs = (
  record {
    rise = distinct_sorted cmp o xs;
    same = record {
      within = λ x contains. contained_has cmp o alone x xs (sym (has_distinct cmp o alone x xs) ∙ has_contained cmp o alone x (distinct cmp xs) contains);
      all = λ x contains. contained_has cmp o alone x (distinct cmp xs) (has_distinct cmp o alone x xs ∙ has_contained cmp o alone x xs contains);
    };
  },
  λ list are. same_distinct cmp o alone list (distinct cmp xs) are.rise (distinct_sorted cmp o xs)
      (λ q. both_ways (has cmp q list) (has cmp q xs)
      (λ here. has_contained cmp o alone q xs (are.same.within q (contained_has cmp o alone q list here)))
      (λ here. has_contained cmp o alone q list (are.same.all q (contained_has cmp o alone q xs here)))
      ∙ sym (has_distinct cmp o alone q xs)),
)

pub rising_numbers_law : RisingNumbersLaw
rising_numbers_law numbers =
    let are = (distinct_law nat_cmp nat_cmp_total nat_cmp-IsAntisymmetric numbers).0 in
    (IsStrictlyIncreasing-from_sorted (rising_numbers numbers) are.rise, are.same)

pub sorted_names_law : SortedNamesLaw
sorted_names_law names = let one = sorted_law (slice_cmp nat_cmp) nat_list_cmp_total names in (one.is.sorted, one.moved)
