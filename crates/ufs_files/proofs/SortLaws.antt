-- Names that were sorted by their numbers.
use Rattle.std.specs.Prelude.{Bool, ◌≡◌, ℕ, ◌<◌, ◌≤◌, ◌==◌, not, ◌&&◌, List, map, length, get_or}
use Rattle.std.specs.Borrow.{Bor}
use Rattle.std.specs.Cmp.{IsStrictWeakOrder}
use Rattle.std.specs.Cmp.Lexicographic.{slice_cmp}
use Rattle.std.specs.FinMap.{nat_cmp-IsAntisymmetric, slice_cmp-IsAntisymmetric}
use Rattle.std.specs.Fn.{Mut, Called, ComputesKey, ComparesAs}
use Rattle.std.specs.List.{All}
use Rattle.std.specs.List.Sorted.{IsPermutation, IsSorted, IsSortedBy, IsSortedByKey, IsStableByKey}
use Rattle.std.specs.Ordering.{nat_cmp, is_lt}
use Rattle.std.specs.declared.cmp.Ordering.{Ordering}
use Rattle.std.proofs.Common.{ap, sym, ◌∙◌, subst, arith, take}
use Rattle.std.proofs.lemmas.Bool.Decides.{nat_tests}
use Rattle.std.proofs.lemmas.Cmp.{nat_cmp_total, nat_list_cmp_total}
use Rattle.std.proofs.lemmas.Fn.{always_returns_same}
use Rattle.std.proofs.lemmas.List.{get_or-take, get_or_read, length-take}
use Rattle.std.proofs.lemmas.List.Elements.{All-weaker, filter_agree}
use Rattle.std.proofs.lemmas.List.Sorted.{IsNonDecreasingBy-from_sort, IsPermutation-map, IsPermutation-sym, Contains-permutation, ranks_by, length_permutation, sum_by-IsPermutation}
use Rattle.order_defs.specs.Sorted.{sorted_names}
use Rattle.order_defs.proofs.DistinctLaws.{distinct_moved}
use Rattle.order_defs.proofs.SortedLaws.{sorted_law}
use Rattle.ufs_volume_defs.specs.Names.{Named}
use Rattle.ufs_volume_defs.specs.Files.{paths_of}
use Rattle.ufs_files.specs.Groups.{Group, IsGroupOf, AreGroupsOf}

abbrev number_of : Named → ℕ
number_of name = name.number

-- names in another order, in which their numbers never fall, and in which those of one number stand as they stood
pub record IsByNumber (names list : List Named) : Type 0 where
  pub moved : IsPermutation names list
  pub sorted : IsSortedByKey number_of nat_cmp list
  pub stable : IsStableByKey number_of nat_cmp names list

-- what `sort_by_key` ensures, where each call of its closure gives the number
pub by_number : {F : Type 0} {g : Mut F (Bor Named × Unit {0}) ℕ} {f : F} (names list : List Named) → IsPermutation names list
    → ((by : Named → ℕ) → ComputesKey g by f → IsSortedByKey by nat_cmp list) → ((by : Named → ℕ) → ComputesKey g by f → IsStableByKey by nat_cmp names list)
    → ((a : Bor Named × Unit {0}) (r : ℕ) (f' : F) → Called g f a r f' → (r ≡ number_of a.0.now) × (f' ≡ f)) → IsByNumber names list
by_number {F} {g} {f} names list moved sorted stable gives =
    let computes : ComputesKey g number_of f = always_returns_same g (λ a r. r ≡ number_of a.0.now) f gives in
    record { moved = moved; sorted = sorted number_of computes; stable = stable number_of computes }

-- the numbers of the names in front of one are no greater than its own
pub none_above : (names list done : List Named) (name : Named) → IsByNumber names list → done ≡ take (length done) list → (length done < length list) × (name ≡ get_or list (length done) name)
    → All (λ one. one.number ≤ name.number) done
none_above names list done name is front here =
    let P : List Named → Type 0 = λ some. All (λ one. one.number ≤ name.number) some in
    subst P (sym front)
    (λ k d inside.
    let low : k < length done = omega (arith, inside, length-take (length done) list) in
    let rise = IsNonDecreasingBy-from_sort number_of list is.sorted k (length done) d (omega (arith, low)) here.0 in
    let at : get_or (take (length done) list) k d ≡ get_or list k d = get_or-take (length done) list k d low in
    let last : name ≡ get_or list (length done) d = get_or_read list (length done) name here.0 here.1 d in
    omega (arith, rise, ap number_of at, ap number_of last))

-- ---- the groups of sorted names are those of the names

tied : (number : ℕ) (z y : Named) → z.number ≡ number → (not (is_lt (nat_cmp z.number y.number)) && not (is_lt (nat_cmp y.number z.number))) ≡ (y.number == number)
tied number z y same = grind (arith, nat_tests)

same_paths : (names list : List Named) (name : Named) (number : ℕ) → IsByNumber names list → name.number ≡ number → paths_of list number ≡ paths_of names number
same_paths names list name number is same =
    ap (map (λ (one : Named). one.path))
    (sym (filter_agree (λ y. not (is_lt (nat_cmp name.number y.number)) && not (is_lt (nat_cmp y.number name.number))) (λ (y : Named). y.number == number) (λ y. tied number name y same) list)
    ∙ is.stable name
    ∙ filter_agree (λ y. not (is_lt (nat_cmp name.number y.number)) && not (is_lt (nat_cmp y.number name.number))) (λ (y : Named). y.number == number) (λ y. tied number name y same) names)

same_group : (names list : List Named) (group : Group) → IsByNumber names list → IsGroupOf list group → IsGroupOf names group
same_group names list group is of = record {
  paths = of.paths ∙ same_paths names list of.inode.name group.number is of.inode.number_is;
  inode = record {
    name = of.inode.name;
    among = Contains-permutation list names of.inode.name (IsPermutation-sym names list is.moved) of.inode.among;
    number_is = of.inode.number_is;
    inode_is = of.inode.inode_is;
  };
}

pub same_groups : (names list done : List Named) (groups : List Group) → IsByNumber names list → done ≡ list → AreGroupsOf done groups → AreGroupsOf names groups
same_groups names list done groups is whole of =
    let P : List Named → Type 0 = λ some. AreGroupsOf some groups in
    let all : AreGroupsOf list groups = subst P whole of in
    record {
      numbers =
          all.numbers
          ∙ sym (distinct_moved nat_cmp nat_cmp_total nat_cmp-IsAntisymmetric (map number_of names) (map number_of list) (IsPermutation-map number_of names list is.moved));
      each = All-weaker (IsGroupOf list) (IsGroupOf names) (λ group of. same_group names list group is of) groups all.each;
      count = all.count ∙ length_permutation names list is.moved;
      bytes = all.bytes ∙ sum_by-IsPermutation (λ (name : Named). length name.path) names list is.moved;
    }

-- ---- the paths of a file

-- what `sort_unstable_by` ensures, where each call of its closure compares the bytes of two paths
pub sorted_by_bytes : {F : Type 0} {g : Mut F (Bor (List ℕ) × (Bor (List ℕ) × Unit {0})) Ordering} {f : F} (list : List (List ℕ))
    → ((lt : List ℕ → List ℕ → Bool) → IsStrictWeakOrder lt → ComparesAs g lt f → IsSortedBy lt list)
    → ((a : Bor (List ℕ) × (Bor (List ℕ) × Unit {0})) (r : Ordering) (f' : F) → Called g f a r f' → (r ≡ slice_cmp nat_cmp a.0.now a.1.0.now) × (f' ≡ f)) → IsSorted (slice_cmp nat_cmp) list
sorted_by_bytes {F} {g} {f} list sorted gives =
    sorted (λ x y. is_lt (slice_cmp nat_cmp x y)) (ranks_by nat_list_cmp_total (λ x. x))
    (always_returns_same g (λ a r. is_lt r ≡ is_lt (slice_cmp nat_cmp a.0.now a.1.0.now)) f (λ a r f' k. (ap is_lt (gives a r f' k).0, (gives a r f' k).1)))

-- paths in the order of their bytes are the sorted names
pub names_are : (paths list : List (List ℕ)) → IsPermutation paths list → IsSorted (slice_cmp nat_cmp) list → list ≡ sorted_names paths
names_are paths list moved sorted =
    (sorted_law (slice_cmp nat_cmp) nat_list_cmp_total paths).one_moved (slice_cmp-IsAntisymmetric nat_cmp-IsAntisymmetric) list sorted moved
