-- Laws of programs for each item of a list: a fault is that of an item, and a value has one for each.
use Rattle.std.specs.Prelude.{◌≡◌, ℕ, zero, suc, ◌+◌, ◌<◌, ◌≤◌, Bool, true, false, cond, Ok, Err, List, [], ◌∷◌, Contains, refl}
use Rattle.std.specs.List.{All, filter}
use Rattle.std.proofs.Common.{arith, sym, ◌∙◌, subst, ⊎_elim}
use Rattle.std.proofs.lemmas.Bool.{cases_lt, false≢true}
use Rattle.std.proofs.lemmas.List.Elements.{All-cons, All-nil, All-head, All-tail, Contains-append_right}
use Rattle.image_defs.specs.Ask.{Ask, Done, result_of, each, ◌>>=◌}
use Rattle.image_defs.proofs.Looks.{bind_gives, bind_refuses}
use Rattle.ntfs_record_defs.specs.Stored.{count_from}

pub contains_first : {X : Type 0} (x : X) (xs : List X) → Contains (x ∷ xs) x
contains_first x xs = (0, omega arith, refl)

pub contains_later : {X : Type 0} (x y : X) (xs : List X) → Contains xs y → Contains (x ∷ xs) y
contains_later x y xs later = Contains-append_right (x ∷ []) xs y later

-- an item whose program has a fault
pub record Refuses {E X Y : Type 0} (image : List ℕ) (ask : X → Ask E Y) (xs : List X) (fault : E) : Type 0 where
  pub item : X
  pub among : Contains xs item
  pub refuses : result_of image (ask item) ≡ Err fault

pub each_refuses : {E X Y : Type 0} (image : List ℕ) (ask : X → Ask E Y) (xs : List X) (fault : E) → result_of image (each ask xs) ≡ Err fault → Refuses image ask xs fault
each_refuses image ask [] fault refuses = absurd cc
each_refuses {E = E} {Y = Y} image ask (x ∷ xs) fault refuses =
    ⊎_elim
    (λ first. record { item = x; among = contains_first x xs; refuses = first })
    (λ later. ⊎_elim
    (λ rest.
    let found = each_refuses image ask xs fault rest in
    record { item = found.item; among = contains_later x found.item xs found.among; refuses = found.refuses })
    (λ done. absurd (never (later.0 ∷ done.0) done.2))
    (bind_refuses image (each ask xs) (λ ys. Done (later.0 ∷ ys)) fault later.2))
    (bind_refuses image (ask x) (λ y. each ask xs >>= (λ ys. Done (y ∷ ys))) fault refuses)
  where
    never : (values : List Y) → result_of {E = E} image (Done values) ≡ Err fault → ⊥
    never values is = cc

-- the program for an item has a value
pub record Gives {E X Y : Type 0} (image : List ℕ) (ask : X → Ask E Y) (x : X) : Type 0 where
  pub value : Y
  pub gives : result_of image (ask x) ≡ Ok value

pub each_gives_all : {E X Y : Type 0} (image : List ℕ) (ask : X → Ask E Y) (xs : List X) (ys : List Y) → result_of image (each ask xs) ≡ Ok ys → All (Gives image ask) xs
each_gives_all image ask [] ys gives = All-nil (Gives image ask)
each_gives_all image ask (x ∷ xs) ys gives =
    let first = bind_gives image (ask x) (λ y. each ask xs >>= (λ ys. Done (y ∷ ys))) ys gives in
    let rest = bind_gives image (each ask xs) (λ ys. Done (first.0 ∷ ys)) ys first.2 in
    All-cons (Gives image ask) x xs (record { value = first.0; gives = first.1 }) (each_gives_all image ask xs rest.0 rest.1)

-- ---- what passes a test

pub filter_all : {X : Type 0} (test : X → Bool) (P : X → Type 0) (xs : List X) → All P (filter test xs) → All (λ x. test x ≡ true → P x) xs
filter_all test P [] all = All-nil (λ x. test x ≡ true → P x)
filter_all test P (x ∷ xs) all = by_test (test x) refl all (λ rest. filter_all test P xs rest)
  where
    by_test : (passes : Bool) → test x ≡ passes → All P (cond passes (x ∷ filter test xs) (filter test xs)) → (All P (filter test xs) → All (λ x. test x ≡ true → P x) xs) → All (λ x. test x ≡ true → P x) (x ∷ xs)
    by_test true is all later = All-cons (λ x. test x ≡ true → P x) x xs (λ passes. All-head P x (filter test xs) all) (later (All-tail P x (filter test xs) all))
    by_test false is all later = All-cons (λ x. test x ≡ true → P x) x xs (λ passes. absurd (false≢true (sym is ∙ passes))) (later all)

-- ---- numbers in a row

pub count_below : (bound start count : ℕ) → start + count ≤ bound → All (λ number. number < bound) (count_from start count)
count_below bound start zero within = All-nil (λ number. number < bound)
count_below bound start (suc count) within =
    All-cons (λ number. number < bound) start (count_from (suc start) count) (omega (arith, within)) (count_below bound (suc start) count (omega (arith, within)))

pub count_has : (start count number : ℕ) → start ≤ number → number < start + count → Contains (count_from start count) number
count_has start zero number from below = absurd (omega (arith, from, below))
count_has start (suc count) number from below =
    ⊎_elim
    (λ later. contains_later start number (count_from (suc start) count) (count_has (suc start) count number (omega (arith, later)) (omega (arith, below))))
    (λ here.
    let same : start ≡ number = omega (arith, from, here) in
    let P : ℕ → Type 0 = λ number. Contains (count_from start (suc count)) number in
    subst P same (contains_first start (count_from (suc start) count)))
    (cases_lt start number)
