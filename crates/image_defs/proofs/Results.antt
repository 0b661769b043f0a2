-- Laws behind Results: what the parts of a program give and look at, for each way to put programs together.
use Rattle.std.specs.Prelude.{◌≡◌, ℕ, Bool, true, false, Result, Ok, Err, List, [], ◌∷◌, ◌++◌, refl}
use Rattle.std.proofs.Common.{ap, ◌∙◌}
use Rattle.range_defs.specs.declared.Range.{Range}
use Rattle.bytes_defs.specs.Bytes.{part}
use Rattle.image_defs.specs.Ask.{Ask, Done, Stop, Look, result_of, visits, ◌>>=◌, check, given, each}
use Rattle.image_defs.specs.Results.{each_result, in_front_of, with_value}

-- what the next program gives after a first result: a fault stays, and a value goes on
abbrev pub result_next : {E X Y : Type 0} → List ℕ → Result X E → (X → Ask E Y) → Result Y E
result_next image (Ok x) next = result_of image (next x)
result_next image (Err e) next = Err e

-- the ranges that the next program looks at after a first result: none after a fault
abbrev pub visits_next : {E X Y : Type 0} → List ℕ → Result X E → (X → Ask E Y) → List Range
visits_next image (Ok x) next = visits image (next x)
visits_next image (Err e) next = []

-- two programs in a row give what the second gives after the first
pub result_bind : {E X Y : Type 0} (image : List ℕ) (ask : Ask E X) (next : X → Ask E Y) → result_of image (ask >>= next) ≡ result_next image (result_of image ask) next
result_bind image (Done x) next = refl
result_bind image (Stop e) next = refl
result_bind image (Look at len more) next = result_bind image (more (part image at len)) next

-- where the first program gives a value, both give what the second gives for it
pub result_bind_ok : {E X Y : Type 0} (image : List ℕ) (ask : Ask E X) (next : X → Ask E Y) (x : X) → result_of image ask ≡ Ok x → result_of image (ask >>= next) ≡ result_of image (next x)
result_bind_ok image ask next x is = result_bind image ask next ∙ ap (λ r. result_next image r next) is

-- where the first program gives a fault, both give it
pub result_bind_err : {E X Y : Type 0} (image : List ℕ) (ask : Ask E X) (next : X → Ask E Y) (e : E) → result_of image ask ≡ Err e → result_of image (ask >>= next) ≡ Err e
result_bind_err image ask next e is = result_bind image ask next ∙ ap (λ r. result_next image r next) is

-- two programs in a row look at what the first looks at, and then at what the second does
pub visits_bind : {E X Y : Type 0} (image : List ℕ) (ask : Ask E X) (next : X → Ask E Y) → visits image (ask >>= next) ≡ visits image ask ++ visits_next image (result_of image ask) next
visits_bind image (Done x) next = refl
visits_bind image (Stop e) next = refl
visits_bind image (Look at len more) next = ap (λ ranges. record { at = at; len = len } ∷ ranges) (visits_bind image (more (part image at len)) next)

-- where the second program looks at nothing, both look at what the first does
pub visits_bind_quiet : {E X Y : Type 0} (image : List ℕ) (ask : Ask E X) (next : X → Ask E Y) → ((x : X) → visits image (next x) ≡ []) → visits image (ask >>= next) ≡ visits image ask
visits_bind_quiet image (Done x) next quiet = quiet x
visits_bind_quiet image (Stop e) next quiet = refl
visits_bind_quiet image (Look at len more) next quiet = ap (λ ranges. record { at = at; len = len } ∷ ranges) (visits_bind_quiet image (more (part image at len)) next quiet)

-- where the first program gives a value, both look at what the first does, and then at what the second does for it
pub visits_bind_ok : {E X Y : Type 0} (image : List ℕ) (ask : Ask E X) (next : X → Ask E Y) (x : X) → result_of image ask ≡ Ok x → visits image (ask >>= next) ≡ visits image ask ++ visits image (next x)
visits_bind_ok image ask next x is = visits_bind image ask next ∙ ap (λ r. visits image ask ++ visits_next image r next) is

-- a check looks at nothing
pub visits_check : {E : Type 0} (image : List ℕ) (test : Bool) (fault : E) → visits image (check test fault) ≡ []
visits_check image true fault = refl
visits_check image false fault = refl

-- a check that holds goes on, and one that doesn't stops with its fault
pub result_check_true : {E Y : Type 0} (image : List ℕ) (test : Bool) (fault : E) (next : Unit {0} → Ask E Y) → test ≡ true → result_of image (check test fault >>= next) ≡ result_of image (next tt)
result_check_true image test fault next is = ap (λ t. result_of image (check t fault >>= next)) is

pub result_check_false : {E Y : Type 0} (image : List ℕ) (test : Bool) (fault : E) (next : Unit {0} → Ask E Y) → test ≡ false → result_of image (check test fault >>= next) ≡ Err fault
result_check_false image test fault next is = ap (λ t. result_of image (check t fault >>= next)) is

-- behind a check that holds
pub visits_check_true : {E Y : Type 0} (image : List ℕ) (test : Bool) (fault : E) (next : Unit {0} → Ask E Y) → test ≡ true → visits image (check test fault >>= next) ≡ visits image (next tt)
visits_check_true image test fault next is = ap (λ t. visits image (check t fault >>= next)) is

-- a given value is the result
pub result_given : {E X : Type 0} (image : List ℕ) (result : Result X E) → result_of image (given result) ≡ result
result_given image (Ok x) = refl
result_given image (Err e) = refl

-- a given value looks at nothing
pub visits_given : {E X : Type 0} (image : List ℕ) (result : Result X E) → visits image (given result) ≡ []
visits_given image (Ok x) = refl
visits_given image (Err e) = refl

-- a program whose value a function changes gives the changed value
pub result_bind_done : {E X Y : Type 0} (image : List ℕ) (ask : Ask E X) (change : X → Y) → result_of image (ask >>= (λ x. Done (change x))) ≡ with_value change (result_of image ask)
result_bind_done image (Done x) change = refl
result_bind_done image (Stop e) change = refl
result_bind_done image (Look at len more) change = result_bind_done image (more (part image at len)) change

result_next_each : {E X Y : Type 0} (image : List ℕ) (ask : X → Ask E Y) (xs : List X) (first : Result Y E) → result_next image first (λ y. each ask xs >>= (λ ys. Done (y ∷ ys))) ≡ in_front_of first (result_of image (each ask xs))
result_next_each image ask xs (Ok y) = result_bind_done image (each ask xs) (λ ys. y ∷ ys)
result_next_each image ask xs (Err e) = refl

-- the programs for each item give their values in order, or the first fault
pub result_each : {E X Y : Type 0} (image : List ℕ) (ask : X → Ask E Y) (xs : List X) → result_of image (each ask xs) ≡ each_result (λ x. result_of image (ask x)) xs
result_each image ask [] = refl
result_each image ask (x ∷ xs) =
    result_bind image (ask x) (λ y. each ask xs >>= (λ ys. Done (y ∷ ys)))
    ∙ result_next_each image ask xs (result_of image (ask x))
    ∙ ap (λ rest. in_front_of (result_of image (ask x)) rest) (result_each image ask xs)
