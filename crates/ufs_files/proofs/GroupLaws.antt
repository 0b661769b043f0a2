-- The groups of names whose numbers never fall.
use Rattle.std.specs.Prelude.{◌+◌, ◌≡◌, ℕ, zero, suc, ◌-◌, ◌<◌, ◌≤◌, Bool, true, false, ◌==◌, if◌then◌else◌, IsTrue, ◌↔◌, List, [], ◌∷◌, ◌++◌, map, length, get_or, refl}
use Rattle.std.specs.BTreeSet.{insert_key}
use Rattle.std.specs.FinMap.{nat_cmp-IsAntisymmetric}
use Rattle.std.specs.List.{All, Contains, filter, sum_by}
use Rattle.std.specs.List.Sorted.{IsStrictlySortedBy}
use Rattle.std.specs.Ordering.{nat_cmp}
use Rattle.std.specs.declared.cmp.Ordering.TheVariants.{Less, Greater}
use Rattle.std.proofs.Common.{ap, sym, ◌∙◌, subst, arith, set, cond, append-nil, length-append}
use Rattle.std.proofs.lemmas.Bool.Decides.{Decides-eqb, nat_tests}
use Rattle.std.proofs.lemmas.Cmp.{nat_cmp_total}
use Rattle.std.proofs.lemmas.List.{map-append, get_or_read, set-get_or}
use Rattle.std.proofs.lemmas.List.Elements.{All-nil, All-cons, All-head, All-tail, All-map, All-weaker, All-contains, All-contains_itself, All-from_recursion, Contains-append_left, Contains-push, filter-append}
use Rattle.std.proofs.lemmas.List.Sums.{sum_by-append, sum_by-cons}
use Rattle.order_defs.specs.Sorted.{distinct, rising_numbers}
use Rattle.order_defs.proofs.DistinctLaws.{distinct_all, distinct_push, distinct_sorted, rising_numbers_law}
use Rattle.ufs_damage_defs.proofs.FileDamage.{number_among}
use Rattle.ufs_inode_defs.specs.declared.inode.Inode.{Inode}
use Rattle.ufs_volume_defs.specs.Names.{Named, path_bytes}
use Rattle.ufs_volume_defs.specs.Files.{numbers_of, paths_of}
use Rattle.ufs_files.specs.Groups.{Group, IsNamedInode, IsGroupOf, AreGroupsOf, group_of, with_next, with_name}

same_number : (a b : ℕ) → a ≡ b → (a == b) ≡ true
same_number a b same = (Decides-eqb a b).1 same

other_number : (a b : ℕ) → (a ≡ b → ⊥) → (a == b) ≡ false
other_number a b other = grind (arith, nat_tests)

-- ---- one more name at the last group

-- the last group has one more name
pub at_last : (groups : List Group) (i : ℕ) (after : Group) (name : Named) → suc i ≡ length groups → (get_or groups i after).number ≡ name.number
    → after ≡ record (get_or groups i after) { paths = (get_or groups i after).paths ++ name.path ∷ [] } → set groups i after ≡ with_name groups name
at_last [] i after name last same is = absurd (omega (arith, last))
at_last (group ∷ []) zero after name last same is = ap (λ one. one ∷ []) is ∙ sym (ap (λ test. if test then (record group { paths = group.paths ++ name.path ∷ [] } ∷ []) else (group ∷ group_of name ∷ [])) (same_number group.number name.number same))
at_last (group ∷ []) (suc i) after name last same is = absurd (omega (arith, last))
at_last (group ∷ next ∷ groups) zero after name last same is = absurd (omega (arith, last))
at_last (group ∷ next ∷ groups) (suc i) after name last same is = ap (λ rest. group ∷ rest) (at_last (next ∷ groups) i after name (omega (arith, last)) same is)

-- or a new group stands behind it
pub behind_last : (groups : List Group) (i : ℕ) (d : Group) (name : Named) → suc i ≡ length groups → ((get_or groups i d).number ≡ name.number → ⊥) → groups ++ group_of name ∷ [] ≡ with_name groups name
behind_last [] i d name last other = absurd (omega (arith, last))
behind_last (group ∷ []) zero d name last other = sym (ap (λ test. if test then (record group { paths = group.paths ++ name.path ∷ [] } ∷ []) else (group ∷ group_of name ∷ [])) (other_number group.number name.number other))
behind_last (group ∷ []) (suc i) d name last other = absurd (omega (arith, last))
behind_last (group ∷ next ∷ groups) zero d name last other = absurd (omega (arith, last))
behind_last (group ∷ next ∷ groups) (suc i) d name last other = ap (λ rest. group ∷ rest) (behind_last (next ∷ groups) i d name (omega (arith, last)) other)

-- ---- the numbers

abbrev pub group_number : Group → ℕ
group_number group = group.number

abbrev AreAtMost : ℕ → List Group → Type 0
AreAtMost number = All (λ group. group.number ≤ number)

pub less_is : (a b : ℕ) → nat_cmp a b ≡ Less → a < b
less_is a b less = grind (arith, nat_tests)

greater_is : (a b : ℕ) → b < a → nat_cmp a b ≡ Greater
greater_is a b greater = grind (arith, nat_tests)

first_below : (group next : Group) (groups : List Group) (number : ℕ) → IsStrictlySortedBy nat_cmp (map group_number (group ∷ next ∷ groups)) → AreAtMost number (group ∷ next ∷ groups) → group.number < number
unfolding IsStrictlySortedBy
first_below group next groups number rise below =
    let one : group.number < next.number = less_is group.number next.number (All-head (λ n. nat_cmp group.number n ≡ Less) next.number (map group_number groups) (All-from_recursion (λ n. nat_cmp group.number n ≡ Less) (map group_number (next ∷ groups)) rise.0)) in
    let other : next.number ≤ number = All-head (λ (g : Group). g.number ≤ number) next groups (All-tail (λ (g : Group). g.number ≤ number) group (next ∷ groups) below) in
    omega (arith, one, other)

rise_behind : (group : Group) (groups : List Group) → IsStrictlySortedBy nat_cmp (map group_number (group ∷ groups)) → IsStrictlySortedBy nat_cmp (map group_number groups)
unfolding IsStrictlySortedBy
rise_behind group groups rise = rise.1

one_number : (group : Group) (name : Named) → group.number ≤ name.number → map group_number (with_next group name) ≡ insert_key nat_cmp (group.number ∷ []) name.number
one_number group name below = tested (group.number == name.number) refl
  where
    tested : (test : Bool) → (group.number == name.number) ≡ test
        → map group_number (if test then (record group { paths = group.paths ++ name.path ∷ [] } ∷ []) else (group ∷ group_of name ∷ [])) ≡ insert_key nat_cmp (group.number ∷ []) name.number
    tested true is = let same : group.number ≡ name.number = (Decides-eqb group.number name.number).0 is in grind (arith, nat_tests)
    tested false is = let greater : group.number < name.number = grind (arith, nat_tests) in rw (greater_is name.number group.number greater) refl

with_name-numbers : (groups : List Group) (name : Named) → IsStrictlySortedBy nat_cmp (map group_number groups) → AreAtMost name.number groups
    → map group_number (with_name groups name) ≡ insert_key nat_cmp (map group_number groups) name.number
with_name-numbers [] name rise below = refl
with_name-numbers (group ∷ []) name rise below = one_number group name (All-head (λ (g : Group). g.number ≤ name.number) group [] below)
with_name-numbers (group ∷ next ∷ groups) name rise below =
    let greater = greater_is name.number group.number (first_below group next groups name.number rise below) in
    rw greater
    (ap (λ numbers. group.number ∷ numbers)
    (with_name-numbers (next ∷ groups) name (rise_behind group (next ∷ groups) rise) (All-tail (λ (g : Group). g.number ≤ name.number) group (next ∷ groups) below)))

-- ---- the paths

paths_more : (done : List Named) (name : Named) (number : ℕ) → paths_of (done ++ name ∷ []) number ≡ paths_of done number ++ (if name.number == number then name.path ∷ [] else [])
paths_more done name number =
    ap (map (λ (one : Named). one.path)) (filter-append (λ (one : Named). one.number == number) done (name ∷ []))
    ∙ map-append (λ (one : Named). one.path) (filter (λ one. one.number == number) done) (filter (λ one. one.number == number) (name ∷ []))
    ∙ ap (λ more. paths_of done number ++ more) (tested (name.number == number))
  where
    tested : (test : Bool) → map (λ (one : Named). one.path) (cond test (name ∷ []) []) ≡ (if test then name.path ∷ [] else [])
    tested true = refl
    tested false = refl

no_paths : (done : List Named) (number : ℕ) → All (λ name. name.number ≡ number → ⊥) done → paths_of done number ≡ []
no_paths [] number other = refl
no_paths (name ∷ names) number other =
    rw (other_number name.number number (All-head (λ (n : Named). n.number ≡ number → ⊥) name names other))
    (no_paths names number (All-tail (λ (n : Named). n.number ≡ number → ⊥) name names other))

-- what one more name makes of the groups, as the code has it
pub pushed_last : (groups : List Group) (len : ℕ) (last inside : Group) (paths : List (List ℕ)) (name given : Named) → len ≡ length groups → 0 < len → last ≡ get_or groups (len - 1) last → inside ≡ last → given ≡ name
    → inside.number ≡ given.number → paths ≡ inside.paths ++ given.path ∷ [] → set groups (len - 1) (record inside { paths = paths }) ≡ with_name groups name
pushed_last groups len last inside paths name given long some is opened same_name same more =
    let after : Group = record inside { paths = paths } in
    let here : get_or groups (len - 1) after ≡ last = sym (get_or_read groups (len - 1) last (omega (arith, long, some)) is after) in
    let Q : Named → Type 0 = λ n. set groups (len - 1) after ≡ with_name groups n in
    subst Q same_name
    (at_last groups (len - 1) after given (omega (arith, long, some)) (ap (λ g. g.number) (here ∙ sym opened) ∙ same)
    (ap (λ list. record inside { paths = list }) more ∙ ap (λ (g : Group). record g { paths = g.paths ++ given.path ∷ [] }) (opened ∙ sym here)))

pub pushed_first : (groups : List Group) (len : ℕ) (name given : Named) → len ≡ length groups → (0 < len → ⊥) → given ≡ name → groups ++ group_of given ∷ [] ≡ with_name groups name
pushed_first [] len name given long none same_name = ap (λ one. group_of one ∷ []) same_name
pushed_first (group ∷ groups) len name given long none same_name = absurd (none (omega (arith, long)))

pub pushed_behind : (groups : List Group) (len : ℕ) (last inside : Group) (name given : Named) → len ≡ length groups → 0 < len → last ≡ get_or groups (len - 1) last → inside ≡ last → given ≡ name
    → (inside.number ≡ given.number → ⊥) → set groups (len - 1) last ++ group_of given ∷ [] ≡ with_name groups name
pushed_behind groups len last inside name given long some is opened same_name other =
    let Q : Named → Type 0 = λ n. groups ++ group_of given ∷ [] ≡ with_name groups n in
    ap (λ list. list ++ group_of given ∷ []) (ap (set groups (len - 1)) is ∙ set-get_or groups (len - 1) last)
    ∙ subst Q same_name
    (behind_last groups (len - 1) last given (omega (arith, long, some)) (λ same. other (ap (λ g. g.number) (opened ∙ is) ∙ same)))

-- there is a last group
pub some_last : (len : ℕ) → IsTrue true ↔ (0 < len) → 0 < len
some_last len has = has.0 refl

-- ---- the groups of the names so far

more_inode : (done : List Named) (name : Named) (number : ℕ) (inode : Inode) → IsNamedInode done number inode → IsNamedInode (done ++ name ∷ []) number inode
more_inode done name number inode is = record { name = is.name; among = Contains-append_left done (name ∷ []) is.name is.among; number_is = is.number_is; inode_is = is.inode_is }

-- a group of another number stays
stays : (done : List Named) (name : Named) (group : Group) → (group.number ≡ name.number → ⊥) → IsGroupOf done group → IsGroupOf (done ++ name ∷ []) group
stays done name group other is = record {
  paths =
      is.paths ∙ sym (append-nil (paths_of done group.number))
      ∙ ap (λ test. paths_of done group.number ++ (if test then name.path ∷ [] else [])) (sym (other_number name.number group.number (λ same. other (sym same))))
      ∙ sym (paths_more done name group.number);
  inode = more_inode done name group.number group.inode is.inode;
}

-- a group of the name's number has one more path
grows : (done : List Named) (name : Named) (group : Group) → group.number ≡ name.number → IsGroupOf done group → IsGroupOf (done ++ name ∷ []) (record group { paths = group.paths ++ name.path ∷ [] })
grows done name group same is = record {
  paths =
      ap (λ list. list ++ name.path ∷ []) is.paths
      ∙ ap (λ test. paths_of done group.number ++ (if test then name.path ∷ [] else [])) (sym (same_number name.number group.number (sym same)))
      ∙ sym (paths_more done name group.number);
  inode = more_inode done name group.number group.inode is.inode;
}

-- a number that had no path has a group
begins : (done : List Named) (name : Named) → paths_of done name.number ≡ [] → IsGroupOf (done ++ name ∷ []) (group_of name)
begins done name none = record {
  paths =
      sym (ap (λ list. list ++ name.path ∷ []) none)
      ∙ ap (λ test. paths_of done name.number ++ (if test then name.path ∷ [] else [])) (sym (same_number name.number name.number refl))
      ∙ sym (paths_more done name name.number);
  inode = record { name = name; among = Contains-push done name; number_is = refl; inode_is = refl };
}

abbrev AreApart : ℕ → List Group → Type 0
AreApart number = All (λ group. group.number ≡ number → ⊥)

with_name-each : (done : List Named) (groups : List Group) (name : Named) → IsStrictlySortedBy nat_cmp (map group_number groups) → AreAtMost name.number groups → (AreApart name.number groups → paths_of done name.number ≡ [])
    → All (IsGroupOf done) groups → All (IsGroupOf (done ++ name ∷ [])) (with_name groups name)
with_name-each done [] name rise below fresh each =
    All-cons (IsGroupOf (done ++ name ∷ [])) (group_of name) [] (begins done name (fresh (All-nil (λ (g : Group). g.number ≡ name.number → ⊥)))) (All-nil (IsGroupOf (done ++ name ∷ [])))
with_name-each done (group ∷ []) name rise below fresh each = tested (group.number == name.number) refl
  where
    is : IsGroupOf done group
    is = All-head (IsGroupOf done) group [] each

    tested : (test : Bool) → (group.number == name.number) ≡ test → All (IsGroupOf (done ++ name ∷ [])) (if test then (record group { paths = group.paths ++ name.path ∷ [] } ∷ []) else (group ∷ group_of name ∷ []))
    tested true same =
        All-cons (IsGroupOf (done ++ name ∷ [])) (record group { paths = group.paths ++ name.path ∷ [] }) [] (grows done name group ((Decides-eqb group.number name.number).0 same) is) (All-nil (IsGroupOf (done ++ name ∷ [])))
    tested false differ =
        let other : group.number ≡ name.number → ⊥ = λ same. grind (arith, nat_tests) in
        All-cons (IsGroupOf (done ++ name ∷ [])) group (group_of name ∷ []) (stays done name group other is)
        (All-cons (IsGroupOf (done ++ name ∷ [])) (group_of name) []
        (begins done name (fresh (All-cons (λ (g : Group). g.number ≡ name.number → ⊥) group [] other (All-nil (λ (g : Group). g.number ≡ name.number → ⊥)))))
        (All-nil (IsGroupOf (done ++ name ∷ []))))
with_name-each done (group ∷ next ∷ groups) name rise below fresh each =
    let lower = first_below group next groups name.number rise below in
    let other : group.number ≡ name.number → ⊥ = λ same. omega (arith, lower, same) in
    All-cons (IsGroupOf (done ++ name ∷ [])) group (with_name (next ∷ groups) name) (stays done name group other (All-head (IsGroupOf done) group (next ∷ groups) each))
    (with_name-each done (next ∷ groups) name (rise_behind group (next ∷ groups) rise) (All-tail (λ (g : Group). g.number ≤ name.number) group (next ∷ groups) below)
    (λ apart. fresh (All-cons (λ (g : Group). g.number ≡ name.number → ⊥) group (next ∷ groups) other apart))
    (All-tail (IsGroupOf done) group (next ∷ groups) each))

-- a number that no group has has no path
fresh_number : (done : List Named) (groups : List Group) (number : ℕ) → map group_number groups ≡ numbers_of done → AreApart number groups → paths_of done number ≡ []
fresh_number done groups number are apart =
    let P : List ℕ → Type 0 = λ numbers. All (λ n. n ≡ number → ⊥) numbers in
    let others : All (λ n. n ≡ number → ⊥) (numbers_of done) = subst P are (All-map (λ n. n ≡ number → ⊥) group_number groups apart) in
    no_paths done number
    (All-weaker (Contains done) (λ (n : Named). n.number ≡ number → ⊥)
    (λ name among. All-contains (λ n. n ≡ number → ⊥) (numbers_of done) name.number others
    ((rising_numbers_law (map (λ (n : Named). n.number) done)).1.all name.number (number_among name done among)))
    done (All-contains_itself done))

-- the groups rise, and their numbers are those of names
pub groups_rise : (done : List Named) (groups : List Group) → map group_number groups ≡ numbers_of done → IsStrictlySortedBy nat_cmp (map group_number groups)
groups_rise done groups are = subst (IsStrictlySortedBy nat_cmp) (sym are) (distinct_sorted nat_cmp nat_cmp_total (map (λ (n : Named). n.number) done))

unmapped : (P : ℕ → Type 0) (groups : List Group) → All P (map group_number groups) → All (λ group. P group.number) groups
unmapped P [] all = All-nil (λ (group : Group). P group.number)
unmapped P (group ∷ groups) all =
    All-cons (λ (one : Group). P one.number) group groups (All-head P group.number (map group_number groups) all) (unmapped P groups (All-tail P group.number (map group_number groups) all))

groups_below : (done : List Named) (groups : List Group) (number : ℕ) → map group_number groups ≡ numbers_of done → All (λ name. name.number ≤ number) done → AreAtMost number groups
groups_below done groups number are below =
    unmapped (λ n. n ≤ number) groups
    (subst (All (λ n. n ≤ number)) (sym are) (distinct_all nat_cmp (λ n. n ≤ number) (map (λ (n : Named). n.number) done) (All-map (λ n. n ≤ number) (λ (n : Named). n.number) done below)))

-- ---- how many paths there are, and their bytes

module _ (f : List ℕ → ℕ) where
  abbrev total : List Group → ℕ
  total groups = sum_by (λ group. sum_by f group.paths) groups

  one_total : (paths : List (List ℕ)) (path : List ℕ) → sum_by f (paths ++ path ∷ []) ≡ sum_by f paths + f path
  one_total paths path =
      let whole = sum_by-append f paths (path ∷ []) in
      let one = sum_by-cons f path [] in
      omega (arith, whole, one)

  next_total : (group : Group) (name : Named) → total (with_next group name) ≡ sum_by f group.paths + f name.path
  next_total group name = tested (group.number == name.number)
    where
      tested : (test : Bool) → total (if test then (record group { paths = group.paths ++ name.path ∷ [] } ∷ []) else (group ∷ group_of name ∷ [])) ≡ sum_by f group.paths + f name.path
      tested true =
          let whole = sum_by-cons (λ (g : Group). sum_by f g.paths) (record group { paths = group.paths ++ name.path ∷ [] }) [] in
          let one = one_total group.paths name.path in
          omega (arith, whole, one)
      tested false =
          let whole = sum_by-cons (λ (g : Group). sum_by f g.paths) group (group_of name ∷ []) in
          let rest = sum_by-cons (λ (g : Group). sum_by f g.paths) (group_of name) [] in
          let one = sum_by-cons f name.path [] in
          omega (arith, whole, rest, one)

  with_name-total : (groups : List Group) (name : Named) → total (with_name groups name) ≡ total groups + f name.path
  with_name-total [] name =
      let whole = sum_by-cons (λ (g : Group). sum_by f g.paths) (group_of name) [] in
      let one = sum_by-cons f name.path [] in
      omega (arith, whole, one)
  with_name-total (group ∷ []) name =
      let whole = sum_by-cons (λ (g : Group). sum_by f g.paths) group [] in
      let one = next_total group name in
      omega (arith, whole, one)
  with_name-total (group ∷ next ∷ groups) name =
      let whole = sum_by-cons (λ (g : Group). sum_by f g.paths) group (with_name (next ∷ groups) name) in
      let before = sum_by-cons (λ (g : Group). sum_by f g.paths) group (next ∷ groups) in
      let rest = with_name-total (next ∷ groups) name in
      omega (arith, whole, before, rest)

counted : {X : Type 0} (xs : List X) → sum_by (λ _. 1) xs ≡ length xs
counted [] = refl
counted (x ∷ xs) = let whole = sum_by-cons (λ _. 1) x xs in let rest = counted xs in omega (arith, whole, rest)

total_count : (groups : List Group) → total (λ _. 1) groups ≡ sum_by (λ group. length group.paths) groups
total_count [] = refl
total_count (group ∷ groups) =
    let whole = sum_by-cons (λ (g : Group). sum_by (λ _. 1) g.paths) group groups in
    let other = sum_by-cons (λ (g : Group). length g.paths) group groups in
    let one = counted group.paths in
    let rest = total_count groups in
    omega (arith, whole, other, one, rest)

count_more : (groups : List Group) (name : Named) → sum_by (λ group. length group.paths) (with_name groups name) ≡ sum_by (λ group. length group.paths) groups + 1
count_more groups name =
    let now = total_count (with_name groups name) in
    let before = total_count groups in
    let more = with_name-total (λ _. 1) groups name in
    omega (arith, now, before, more)

pub no_groups : AreGroupsOf [] []
unfolding distinct
no_groups = record { numbers = refl; each = All-nil (IsGroupOf []); count = refl; bytes = refl }

plus_none : (n : ℕ) → n + 0 ≡ n
plus_none n = omega arith

pub groups_more : (done : List Named) (groups : List Group) (name : Named) → All (λ one. one.number ≤ name.number) done → AreGroupsOf done groups → AreGroupsOf (done ++ name ∷ []) (with_name groups name)
groups_more done groups name below are =
    let rise = groups_rise done groups are.numbers in
    let low = groups_below done groups name.number are.numbers below in
    record {
      numbers =
          with_name-numbers groups name rise low
          ∙ ap (λ keys. insert_key nat_cmp keys name.number) are.numbers
          ∙ sym (distinct_push nat_cmp nat_cmp_total nat_cmp-IsAntisymmetric (map (λ (n : Named). n.number) done) name.number)
          ∙ ap rising_numbers (sym (map-append (λ (n : Named). n.number) done (name ∷ [])));
      each = with_name-each done groups name rise low (fresh_number done groups name.number are.numbers) are.each;
      count = count_more groups name ∙ ap (λ n. n + 1) are.count ∙ sym (length-append done (name ∷ []));
      bytes =
          with_name-total length groups name ∙ ap (λ n. n + length name.path) are.bytes
          ∙ ap (λ n. path_bytes done + n) (sym (sum_by-cons (λ (n : Named). length n.path) name [] ∙ plus_none (length name.path)))
          ∙ sym (sum_by-append (λ (n : Named). length n.path) done (name ∷ []));
    }
