-- Laws behind Looks: what holds of the ranges that a program looks at, and what a value says of the programs that gave it.
use Rattle.std.specs.Prelude.{◌≡◌, ℕ, Bool, true, false, Result, Ok, Err, List, [], ◌∷◌, refl}
use Rattle.std.specs.List.{All}
use Rattle.std.proofs.Common.{ap, sym, ◌∙◌, subst, ◌⊎◌, inl, inr}
use Rattle.std.proofs.lemmas.List.Elements.{All-head, All-tail, All-cons, All-nil, All-same, All-append, All-weaker}
use Rattle.range_defs.specs.declared.Range.{Range}
use Rattle.bytes_defs.specs.Bytes.{part}
use Rattle.image_defs.specs.Ask.{Ask, Done, Stop, Look, result_of, visits, ◌>>=◌, check, given, each}
use Rattle.image_defs.specs.Results.{in_front_of, each_result}
use Rattle.image_defs.proofs.Results.{result_bind, result_next, visits_bind_ok, result_each}
use Rattle.image_defs.specs.Looks.{LooksAt}

-- no range is looked at
pub looks_nowhere : {E X : Type 0} (P : Range → Type 0) (image : List ℕ) (ask : Ask E X) → visits image ask ≡ [] → LooksAt P image ask
looks_nowhere P image ask none = record { all = All-same P (visits image ask) [] none (All-nil P) }

pub looks_done : {E X : Type 0} (P : Range → Type 0) (image : List ℕ) (x : X) → LooksAt {E = E} {X = X} P image (Done x)
looks_done P image x = record { all = All-nil P }

-- a weaker property
pub looks_weaker : {E X : Type 0} (P Q : Range → Type 0) (image : List ℕ) (ask : Ask E X) → ((range : Range) → P range → Q range) → LooksAt P image ask → LooksAt Q image ask
looks_weaker P Q image ask weaker looks = record { all = All-weaker P Q weaker (visits image ask) looks.all }

-- two programs in a row
pub looks_bind : {E X Y : Type 0} (P : Range → Type 0) (image : List ℕ) (ask : Ask E X) (next : X → Ask E Y)
    → LooksAt P image ask → ((x : X) → result_of image ask ≡ Ok x → LooksAt P image (next x)) → LooksAt P image (ask >>= next)
looks_bind P image (Done x) next first later = later x refl
looks_bind P image (Stop e) next first later = record { all = All-nil P }
looks_bind P image (Look at len more) next first later =
    record {
      all =
          All-cons P (record { at = at; len = len }) (visits image (more (part image at len) >>= next))
          (All-head P (record { at = at; len = len }) (visits image (more (part image at len))) first.all)
          (looks_bind P image (more (part image at len)) next (record { all = All-tail P (record { at = at; len = len }) (visits image (more (part image at len))) first.all }) later).all;
    }

-- the same where it is known what the first gives
pub looks_bind_ok : {E X Y : Type 0} (P : Range → Type 0) (image : List ℕ) (ask : Ask E X) (next : X → Ask E Y) (x : X)
    → result_of image ask ≡ Ok x → LooksAt P image ask → LooksAt P image (next x) → LooksAt P image (ask >>= next)
looks_bind_ok P image ask next x is first later =
    record { all = All-same P (visits image (ask >>= next)) _ (visits_bind_ok image ask next x is) (All-append P (visits image ask) (visits image (next x)) first.all later.all) }

-- a test in front of a program: the program looks only where the test holds
pub looks_check : {E Y : Type 0} (P : Range → Type 0) (image : List ℕ) (test : Bool) (fault : E) (next : Unit {0} → Ask E Y)
    → (test ≡ true → LooksAt P image (next tt)) → LooksAt P image (check test fault >>= next)
looks_check P image true fault next later = later refl
looks_check P image false fault next later = record { all = All-nil P }

-- a look in front of a program
pub looks_look : {E Y : Type 0} (P : Range → Type 0) (image : List ℕ) (at len : ℕ) (next : List ℕ → Ask E Y)
    → P (record { at = at; len = len }) → LooksAt P image (next (part image at len)) → LooksAt P image (Look at len next)
looks_look P image at len next first later = record { all = All-cons P (record { at = at; len = len }) (visits image (next (part image at len))) first later.all }

-- a given value in front of a program
pub looks_given : {E X : Type 0} (P : Range → Type 0) (image : List ℕ) (result : Result X E) → LooksAt P image (given result)
looks_given P image (Ok x) = record { all = All-nil P }
looks_given P image (Err e) = record { all = All-nil P }

-- the programs for some items
pub looks_each : {E X Y : Type 0} (P : Range → Type 0) (image : List ℕ) (ask : X → Ask E Y) (xs : List X) → ((x : X) → LooksAt P image (ask x)) → LooksAt P image (each ask xs)
looks_each P image ask [] looks = record { all = All-nil P }
looks_each P image ask (x ∷ xs) looks =
    looks_bind P image (ask x) (λ y. each ask xs >>= (λ ys. Done (y ∷ ys))) (looks x)
    (λ y is. looks_bind P image (each ask xs) (λ ys. Done (y ∷ ys)) (looks_each P image ask xs looks) (λ ys are. record { all = All-nil P }))

-- a value of two programs in a row comes from a value of the first
pub bind_gives : {E X Y : Type 0} (image : List ℕ) (ask : Ask E X) (next : X → Ask E Y) (y : Y) → result_of image (ask >>= next) ≡ Ok y
    → (x : X) × (result_of image ask ≡ Ok x) × (result_of image (next x) ≡ Ok y)
bind_gives image ask next y gives = first_gives image (result_of image ask) next y (sym (result_bind image ask next) ∙ gives)
  where
    first_gives : {E X Y : Type 0} (image : List ℕ) (first : Result X E) (next : X → Ask E Y) (y : Y) → result_next image first next ≡ Ok y → (x : X) × (first ≡ Ok x) × (result_of image (next x) ≡ Ok y)
    first_gives image (Ok x) next y gives = (x, refl, gives)
    first_gives image (Err e) next y gives = absurd cc

-- a value behind a test: the test holds, and the value comes from what follows
pub check_gives : {E Y : Type 0} (image : List ℕ) (test : Bool) (fault : E) (next : Unit {0} → Ask E Y) (y : Y) → result_of image (check test fault >>= next) ≡ Ok y
    → (test ≡ true) × (result_of image (next tt) ≡ Ok y)
check_gives image true fault next y gives = (refl, gives)
check_gives image false fault next y gives = absurd cc

-- a value behind a given value
pub given_gives : {E X Y : Type 0} (image : List ℕ) (result : Result X E) (next : X → Ask E Y) (y : Y) → result_of image (given result >>= next) ≡ Ok y
    → (x : X) × (result ≡ Ok x) × (result_of image (next x) ≡ Ok y)
given_gives image (Ok x) next y gives = (x, refl, gives)
given_gives image (Err e) next y gives = absurd cc

front_gives : {E Y : Type 0} (first : Result Y E) (rest : Result (List Y) E) (values : List Y) → in_front_of first rest ≡ Ok values
    → (y : Y) × (ys : List Y) × (first ≡ Ok y) × (rest ≡ Ok ys) × (values ≡ y ∷ ys)
front_gives (Ok y) (Ok ys) values gives = (y, ys, refl, refl, cc)
front_gives (Ok y) (Err e) values gives = absurd cc
front_gives (Err e) rest values gives = absurd cc

results_hold : {E X Y : Type 0} (P : Y → Type 0) (give : X → Result Y E) (xs : List X) (ys : List Y)
    → ((x : X) (y : Y) → give x ≡ Ok y → P y) → each_result give xs ≡ Ok ys → All P ys
results_hold {Y = Y} P give [] ys holds gives =
    let none : [] ≡ ys = cc in
    let Q : List Y → Type 0 = λ values. All P values in
    subst Q none (All-nil P)
results_hold {Y = Y} P give (x ∷ xs) ys holds gives =
    let found = front_gives (give x) (each_result give xs) ys gives in
    let Q : List Y → Type 0 = λ values. All P values in
    subst Q (sym found.4) (All-cons P found.0 found.1 (holds x found.0 found.2) (results_hold P give xs found.1 holds found.3))

-- each value of the programs for some items comes from one of them
pub each_gives : {E X Y : Type 0} (P : Y → Type 0) (image : List ℕ) (ask : X → Ask E Y) (xs : List X) (ys : List Y)
    → ((x : X) (y : Y) → result_of image (ask x) ≡ Ok y → P y) → result_of image (each ask xs) ≡ Ok ys → All P ys
each_gives P image ask xs ys holds gives = results_hold P (λ x. result_of image (ask x)) xs ys holds (sym (result_each image ask xs) ∙ gives)

same_fault : {E Y : Type 0} (f e : E) → (let one : Result Y E = Err f in let other : Result Y E = Err e in one ≡ other) → f ≡ e
same_fault f e same = cc

-- a fault of two programs in a row is one of the first, or one of the second behind a value of the first
pub bind_refuses : {E X Y : Type 0} (image : List ℕ) (ask : Ask E X) (next : X → Ask E Y) (e : E) → result_of image (ask >>= next) ≡ Err e
    → (result_of image ask ≡ Err e) ⊎ ((x : X) × (result_of image ask ≡ Ok x) × (result_of image (next x) ≡ Err e))
bind_refuses image ask next e refuses = first_refuses image (result_of image ask) next e (sym (result_bind image ask next) ∙ refuses)
  where
    first_refuses : {E X Y : Type 0} (image : List ℕ) (first : Result X E) (next : X → Ask E Y) (e : E) → result_next image first next ≡ Err e
        → (first ≡ Err e) ⊎ ((x : X) × (first ≡ Ok x) × (result_of image (next x) ≡ Err e))
    first_refuses image (Ok x) next e refuses = inr (x, refl, refuses)
    first_refuses {Y = Y} image (Err f) next e refuses = inl (ap Err (same_fault {Y = Y} f e refuses))

-- a fault behind a test: the test fails and the fault is its own, or it holds and the fault comes from what follows
pub check_refuses : {E Y : Type 0} (image : List ℕ) (test : Bool) (fault : E) (next : Unit {0} → Ask E Y) (e : E) → result_of image (check test fault >>= next) ≡ Err e
    → ((test ≡ false) × (fault ≡ e)) ⊎ ((test ≡ true) × (result_of image (next tt) ≡ Err e))
check_refuses image true fault next e refuses = inr (refl, refuses)
check_refuses {Y = Y} image false fault next e refuses = inl (refl, same_fault {Y = Y} fault e refuses)

-- a fault behind a given value
pub given_refuses : {E X Y : Type 0} (image : List ℕ) (result : Result X E) (next : X → Ask E Y) (e : E) → result_of image (given result >>= next) ≡ Err e
    → (result ≡ Err e) ⊎ ((x : X) × (result ≡ Ok x) × (result_of image (next x) ≡ Err e))
given_refuses image (Ok x) next e refuses = inr (x, refl, refuses)
given_refuses {Y = Y} image (Err f) next e refuses = inl (ap Err (same_fault {Y = Y} f e refuses))
