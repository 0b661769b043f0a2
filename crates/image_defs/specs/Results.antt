-- What the parts of a program give, for each way to put programs together.
use Rattle.std.specs.Prelude.{Result, Ok, Err, List, [], ◌∷◌}

-- a result whose value a function changes
abbrev pub with_value : {E X Y : Type 0} → (X → Y) → Result X E → Result Y E
with_value change (Ok x) = Ok (change x)
with_value change (Err e) = Err e

-- a value in front of the values that follow, or the first fault
abbrev pub in_front_of : {E Y : Type 0} → Result Y E → Result (List Y) E → Result (List Y) E
in_front_of (Ok y) rest = with_value (λ ys. y ∷ ys) rest
in_front_of (Err e) rest = Err e

-- the values that a function gives for each item, in order, or the first fault
abbrev pub each_result : {E X Y : Type 0} → (X → Result Y E) → List X → Result (List Y) E
each_result give [] = Ok []
each_result give (x ∷ xs) = in_front_of (give x) (each_result give xs)
