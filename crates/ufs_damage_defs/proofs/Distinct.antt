-- Lists in which no item stands twice.
use Rattle.std.specs.Prelude.{◌≡◌, ◌+◌, zero, suc, ◌≤◌, List, [], ◌∷◌, ◌++◌, length, map, refl}
use Rattle.std.specs.List.{AllPairs, Contains, flat_map}
use Rattle.std.proofs.Common.{ap, sym, subst, arith, ⊎_elim, length-append}
use Rattle.std.proofs.lemmas.List.Elements.{All-contains, All-contains_itself, All-map, All-weaker, Contains-append_left, Contains-append_right, Contains-append_cases}
use Rattle.ufs_damage_defs.proofs.NameFacts.{in_none, in_cases, in_head, in_tail}

abbrev pub AreDistinct : {X : Type 0} → List X → Type 0
AreDistinct [] = Unit {0}
AreDistinct (x ∷ xs) = (Contains xs x → ⊥) × AreDistinct xs

pub distinct_of : {X : Type 0} (xs : List X) → AllPairs (λ a b. a ≡ b → ⊥) xs → AreDistinct xs
distinct_of [] apart = tt
distinct_of (x ∷ xs) apart = (
  λ has. apart 0 (suc has.0) x (omega arith) (let inside = has.1 in omega (arith, inside)) (sym has.2),
  distinct_of xs (λ i j d before inside. apart (suc i) (suc j) d (omega (arith, before)) (omega (arith, inside))),
)

pub apart_of : {X : Type 0} (xs : List X) → AreDistinct xs → AllPairs (λ a b. a ≡ b → ⊥) xs
apart_of [] distinct = λ i j d before inside. absurd (omega (arith, inside))
apart_of {X = X} (x ∷ xs) distinct = pairs (apart_of xs distinct.1)
  where
    pairs : AllPairs (λ a b. a ≡ b → ⊥) xs → AllPairs (λ a b. a ≡ b → ⊥) (x ∷ xs)
    pairs rest zero zero d before inside = absurd (omega (arith, before))
    pairs rest zero (suc j) d before inside = λ same. let P : X → Type 0 = λ y. Contains xs y in distinct.0 (subst P (sym same) (All-contains_itself xs j d (omega (arith, inside))))
    pairs rest (suc i) zero d before inside = absurd (omega (arith, before))
    pairs rest (suc i) (suc j) d before inside = rest i j d (omega (arith, before)) (omega (arith, inside))

pub distinct-append : {X : Type 0} (xs ys : List X) → AreDistinct xs → AreDistinct ys → ((x : X) → Contains xs x → Contains ys x → ⊥) → AreDistinct (xs ++ ys)
distinct-append [] ys first second never = second
distinct-append (x ∷ xs) ys first second never = (
  λ has. ⊎_elim (λ front. first.0 front) (λ back. never x (in_head x xs) back) (Contains-append_cases xs ys x has),
  distinct-append xs ys first.1 second (λ y front back. never y (in_tail x y xs front) back),
)

-- ---- what maps give

pub in_map : {X Y : Type 0} (f : X → Y) (xs : List X) (x : X) → Contains xs x → Contains (map f xs) (f x)
in_map f [] x has = absurd (in_none x has)
in_map {Y = Y} f (first ∷ xs) x has =
    ⊎_elim
    (λ same. let P : Y → Type 0 = λ y. Contains (f first ∷ map f xs) y in subst P (ap f same) (in_head (f first) (map f xs)))
    (λ behind. in_tail (f first) (f x) (map f xs) (in_map f xs x behind))
    (in_cases first x xs has)

pub of_map : {X Y : Type 0} (f : X → Y) (xs : List X) (y : Y) → Contains (map f xs) y → (x : X) × Contains xs x × (f x ≡ y)
of_map {X = X} {Y = Y} f xs y has =
    let P : Y → Type 0 = λ z. (x : X) × Contains xs x × (f x ≡ z) in
    All-contains P (map f xs) y (All-map P f xs (All-weaker (Contains xs) (λ x. P (f x)) (λ x among. (x, among, refl)) xs (All-contains_itself xs))) has

pub distinct-map : {X Y : Type 0} (f : X → Y) (xs : List X) → ((a b : X) → f a ≡ f b → a ≡ b) → AreDistinct xs → AreDistinct (map f xs)
distinct-map f [] one distinct = tt
distinct-map {X = X} f (x ∷ xs) one distinct = (
  λ has. let found = of_map f xs (f x) has in let P : X → Type 0 = λ y. Contains xs y in distinct.0 (subst P (one found.0 x found.2) found.1),
  distinct-map f xs one distinct.1,
)

pub in_flat_map : {X Y : Type 0} (f : X → List Y) (xs : List X) (x : X) (y : Y) → Contains xs x → Contains (f x) y → Contains (flat_map f xs) y
in_flat_map f [] x y has gives = absurd (in_none x has)
in_flat_map {X = X} f (first ∷ xs) x y has gives =
    ⊎_elim
    (λ same. let P : X → Type 0 = λ z. Contains (f z) y in Contains-append_left (f first) (flat_map f xs) y (subst P (sym same) gives))
    (λ behind. Contains-append_right (f first) (flat_map f xs) y (in_flat_map f xs x y behind gives))
    (in_cases first x xs has)

-- those of one item more
pub length_more : {X Y : Type 0} (f : X → List Y) (x : X) (xs : List X) → length (flat_map f (x ∷ xs)) ≡ length (f x) + length (flat_map f xs)
length_more f x xs = length-append (f x) (flat_map f xs)

pub of_flat_map : {X Y : Type 0} (f : X → List Y) (xs : List X) (y : Y) → Contains (flat_map f xs) y → (x : X) × Contains xs x × Contains (f x) y
of_flat_map f [] y has = absurd (in_none y has)
of_flat_map f (first ∷ xs) y has =
    ⊎_elim
    (λ here. (first, in_head first xs, here))
    (λ behind. let rest = of_flat_map f xs y behind in (rest.0, in_tail first rest.0 xs rest.1, rest.2))
    (Contains-append_cases (f first) (flat_map f xs) y has)

pub distinct-flat_map : {X Y : Type 0} (f : X → List Y) (xs : List X) → AreDistinct xs → ((x : X) → AreDistinct (f x)) → ((a b : X) (y : Y) → Contains (f a) y → Contains (f b) y → a ≡ b) → AreDistinct (flat_map f xs)
distinct-flat_map f [] distinct each one = tt
distinct-flat_map {X = X} f (x ∷ xs) distinct each one =
    distinct-append (f x) (flat_map f xs) (each x) (distinct-flat_map f xs distinct.1 each one)
    (λ y front back. let found = of_flat_map f xs y back in let P : X → Type 0 = λ z. Contains xs z in distinct.0 (subst P (sym (one x found.0 y front found.2)) found.1))

-- ---- how many there are

-- a list, and an item where it stands
pub record IsSplit {X : Type 0} (xs : List X) (x : X) : Type 0 where
  pub front : List X
  pub back : List X
  pub whole : xs ≡ front ++ x ∷ back

pub split_at : {X : Type 0} (xs : List X) (x : X) → Contains xs x → IsSplit xs x
split_at [] x has = absurd (in_none x has)
split_at (first ∷ xs) x has =
    ⊎_elim
    (λ same. record { front = []; back = xs; whole = ap (λ y. y ∷ xs) same })
    (λ behind. let rest = split_at xs x behind in record { front = first ∷ rest.front; back = rest.back; whole = ap (λ list. first ∷ list) rest.whole })
    (in_cases first x xs has)

-- items of a list that differ are no more than it has
pub distinct_few : {X : Type 0} (xs ys : List X) → AreDistinct xs → ((x : X) → Contains xs x → Contains ys x) → length xs ≤ length ys
distinct_few [] ys distinct within = omega arith
distinct_few {X = X} (x ∷ xs) ys distinct within =
    let split = split_at ys x (within x (in_head x xs)) in
    let Y : List X → Type 0 = λ list. (y : X) → Contains xs y → Contains list y in
    let all : (y : X) → Contains xs y → Contains (split.front ++ x ∷ split.back) y = subst Y split.whole (λ y has. within y (in_tail x y xs has)) in
    let few = distinct_few xs (split.front ++ split.back) distinct.1
    (λ y has.
    ⊎_elim
    (λ front. Contains-append_left split.front split.back y front)
    (λ behind. ⊎_elim
    (λ same. let P : X → Type 0 = λ z. Contains xs z in absurd (distinct.0 (subst P (sym same) has)))
    (λ back. Contains-append_right split.front split.back y back)
    (in_cases x y split.back behind))
    (Contains-append_cases split.front (x ∷ split.back) y (all y has))) in
    let long = ap length split.whole in
    omega (arith, few, simp length-append at long, length-append split.front split.back)
