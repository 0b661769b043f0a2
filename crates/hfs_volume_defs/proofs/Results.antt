-- Where the fault of several results in a row comes from.
use Rattle.std.specs.Prelude.{◌≡◌, ◌⊎◌, Option, Some, None, Result, Ok, Err, List, [], ◌∷◌, ◌++◌, refl}
use Rattle.std.proofs.Common.{ap, sym, ◌∙◌, inl, inr}
use Rattle.image_defs.specs.Results.{with_value, in_front_of, each_result}
use Rattle.hfs_defs.specs.Overflow.{then_stop}
use Rattle.fault_defs.specs.declared.Refusal.{Refusal}

pub same_error : {X : Type 0} (one other : Refusal) → (let a : Result X Refusal = Err one in let b : Result X Refusal = Err other in a ≡ b) → one ≡ other
same_error one other same = cc

pub same_value : {X : Type 0} (one other : X) → (let a : Result X Refusal = Ok one in let b : Result X Refusal = Ok other in a ≡ b) → one ≡ other
same_value one other same = cc

pub not_both : {X : Type 0} (x : X) (fault : Refusal) (result : Result X Refusal) → result ≡ Ok x → result ≡ Err fault → ⊥
not_both x fault result ok err = absurd cc

pub value_refuses : {X Y : Type 0} (change : X → Y) (result : Result X Refusal) (fault : Refusal) → with_value change result ≡ Err fault → result ≡ Err fault
value_refuses change (Ok x) fault is = absurd cc
value_refuses {Y = Y} change (Err e) fault is = ap Err (same_error {X = Y} e fault is)

pub value_gives : {X Y : Type 0} (change : X → Y) (result : Result X Refusal) (y : Y) → with_value change result ≡ Ok y → (x : X) × (result ≡ Ok x)
value_gives change (Ok x) y is = (x, refl)
value_gives change (Err e) y is = absurd cc

-- an item among others that is refused
pub record IsRefusedIn {X Y : Type 0} (give : X → Result Y Refusal) (xs : List X) (fault : Refusal) : Type 0 where
  pub front : List X
  pub item : X
  pub behind : List X
  pub whole : xs ≡ front ++ item ∷ behind
  pub is : give item ≡ Err fault

pub each_refuses : {X Y : Type 0} (give : X → Result Y Refusal) (xs : List X) (fault : Refusal) → each_result give xs ≡ Err fault → IsRefusedIn give xs fault
each_refuses give [] fault is = absurd cc
each_refuses {X = X} {Y = Y} give (x ∷ xs) fault is = either (give x) (each_result give xs) refl (each_refuses give xs fault) is
  where
    either : (first : Result Y Refusal) (rest : Result (List Y) Refusal) → give x ≡ first → (rest ≡ Err fault → IsRefusedIn give xs fault) → in_front_of first rest ≡ Err fault → IsRefusedIn give (x ∷ xs) fault
    either (Ok y) (Ok ys) first later same = absurd cc
    either (Ok y) (Err e) first later same =
        let found = later (ap Err (same_error {X = List Y} e fault same)) in
        record { front = x ∷ found.front; item = found.item; behind = found.behind; whole = ap (λ list. x ∷ list) found.whole; is = found.is }
    either (Err e) rest first later same = record { front = []; item = x; behind = xs; whole = refl; is = first ∙ ap Err (same_error {X = List Y} e fault same) }

-- the fault of values in front of a stop
pub stop_refuses : {X : Type 0} (stop : Option Refusal) (result : Result X Refusal) (fault : Refusal) → then_stop stop result ≡ Err fault → (result ≡ Err fault) ⊎ (stop ≡ Some fault)
stop_refuses None result fault is = inl is
stop_refuses {X = X} (Some e) (Ok x) fault is = inr (ap Some (same_error {X = X} e fault is))
stop_refuses {X = X} (Some other) (Err e) fault is = inl is

pub stop_gives : {X : Type 0} (stop : Option Refusal) (result : Result X Refusal) (x : X) → then_stop stop result ≡ Ok x → (result ≡ Ok x) × (stop ≡ None)
stop_gives None result x is = (is, refl)
stop_gives (Some e) (Ok y) x is = absurd cc
stop_gives (Some other) (Err e) x is = absurd cc

-- ---- which item a value comes from, and which value comes from an item

record AreBoth {Y : Type 0} (first : Result Y Refusal) (rest : Result (List Y) Refusal) (values : List Y) : Type 0 where
  value : Y
  others : List Y
  is : first ≡ Ok value
  are : rest ≡ Ok others
  all : values ≡ value ∷ others

both : {Y : Type 0} (first : Result Y Refusal) (rest : Result (List Y) Refusal) (values : List Y) → in_front_of first rest ≡ Ok values → AreBoth first rest values
both (Ok y) (Ok ys) values is = record { value = y; others = ys; is = refl; are = refl; all = same_value values (y ∷ ys) (sym is) }
both (Ok y) (Err e) values is = absurd cc
both (Err e) rest values is = absurd cc

pub record IsGivenBy {X Y : Type 0} (give : X → Result Y Refusal) (xs : List X) (y : Y) : Type 0 where
  pub front : List X
  pub item : X
  pub behind : List X
  pub whole : xs ≡ front ++ item ∷ behind
  pub is : give item ≡ Ok y

head_same : {Y : Type 0} (a b : Y) (more others : List Y) → a ∷ more ≡ b ∷ others → (a ≡ b) × (more ≡ others)
head_same a b more others same = (cc, cc)

pub given_by : {X Y : Type 0} (give : X → Result Y Refusal) (xs : List X) (front : List Y) (y : Y) (behind : List Y) → each_result give xs ≡ Ok (front ++ y ∷ behind) → IsGivenBy give xs y
given_by {Y = Y} give [] [] y behind is = absurd cc
given_by {Y = Y} give [] (z ∷ front) y behind is = absurd cc
given_by {Y = Y} give (x ∷ xs) [] y behind is =
    let parts = both (give x) (each_result give xs) (y ∷ behind) is in
    record { front = []; item = x; behind = xs; whole = refl; is = parts.is ∙ ap Ok (sym (head_same y parts.value behind parts.others parts.all).0) }
given_by {Y = Y} give (x ∷ xs) (z ∷ front) y behind is =
    let parts = both (give x) (each_result give xs) (z ∷ front ++ y ∷ behind) is in
    let found = given_by give xs front y behind (parts.are ∙ ap Ok (sym (head_same z parts.value (front ++ y ∷ behind) parts.others parts.all).1)) in
    record { front = x ∷ found.front; item = found.item; behind = found.behind; whole = ap (λ list. x ∷ list) found.whole; is = found.is }

pub record Gives {X Y : Type 0} (give : X → Result Y Refusal) (x : X) (ys : List Y) : Type 0 where
  pub front : List Y
  pub value : Y
  pub behind : List Y
  pub whole : ys ≡ front ++ value ∷ behind
  pub is : give x ≡ Ok value

pub gives_one : {X Y : Type 0} (give : X → Result Y Refusal) (front : List X) (x : X) (behind : List X) (ys : List Y) → each_result give (front ++ x ∷ behind) ≡ Ok ys → Gives give x ys
gives_one give [] x behind ys is =
    let parts = both (give x) (each_result give behind) ys is in
    record { front = []; value = parts.value; behind = parts.others; whole = parts.all; is = parts.is }
gives_one give (one ∷ front) x behind ys is =
    let parts = both (give one) (each_result give (front ++ x ∷ behind)) ys is in
    let found = gives_one give front x behind parts.others parts.are in
    record { front = parts.value ∷ found.front; value = found.value; behind = found.behind; whole = parts.all ∙ ap (λ list. parts.value ∷ list) found.whole; is = found.is }

pub each_gives_item : {X Y : Type 0} (give : X → Result Y Refusal) (front : List X) (x : X) (behind : List X) (ys : List Y) → each_result give (front ++ x ∷ behind) ≡ Ok ys → (y : Y) × (give x ≡ Ok y)
each_gives_item give front x behind ys is = let found = gives_one give front x behind ys is in (found.value, found.is)
