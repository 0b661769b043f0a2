-- A structure on the disk is defined by a program that asks: it is done with a value, it is stopped by a fault,
-- or it looks at a range of the image and goes on with the bytes that stand there.
use Rattle.std.specs.Prelude.{ℕ, Bool, true, false, Result, Ok, Err, List, [], ◌∷◌}
use Rattle.range_defs.specs.declared.Range.{Range}
use Rattle.bytes_defs.specs.Bytes.{part}

pub data Ask (E X : Type 0) : Type 0 where
  Done : X → Ask E X
  Stop : E → Ask E X
  Look : ℕ → ℕ → (List ℕ → Ask E X) → Ask E X

-- what the program gives on an image
abbrev pub result_of : {E X : Type 0} → List ℕ → Ask E X → Result X E
result_of image (Done x) = Ok x
result_of image (Stop e) = Err e
result_of image (Look at len next) = result_of image (next (part image at len))

-- the ranges that it looks at on an image, in order
abbrev pub visits : {E X : Type 0} → List ℕ → Ask E X → List Range
visits image (Done x) = []
visits image (Stop e) = []
visits image (Look at len next) = record { at = at; len = len } ∷ visits image (next (part image at len))

-- first the one program, then with its value the next
infixl 10 ◌>>=◌
abbrev pub ◌>>=◌ : {E X Y : Type 0} → Ask E X → (X → Ask E Y) → Ask E Y
(Done x) >>= next = next x
(Stop e) >>= next = Stop e
(Look at len more) >>= next = Look at len (λ bytes. more bytes >>= next)

-- the same where the first program's value doesn't matter
infixl 10 ◌>>◌
abbrev pub ◌>>◌ : {E X Y : Type 0} → Ask E X → Ask E Y → Ask E Y
first >> next = first >>= (λ x. next)

-- the bytes of a range
abbrev pub look : {E : Type 0} → ℕ → ℕ → Ask E (List ℕ)
look at len = Look at len (λ bytes. Done bytes)

-- the fault where the test is false
abbrev pub check : {E : Type 0} → Bool → E → Ask E (Unit {0})
check true fault = Done tt
check false fault = Stop fault

-- a value that may be a fault
abbrev pub given : {E X : Type 0} → Result X E → Ask E X
given (Ok x) = Done x
given (Err e) = Stop e

-- the values of the programs for each item, in order
abbrev pub each : {E X Y : Type 0} → (X → Ask E Y) → List X → Ask E (List Y)
each ask [] = Done []
each ask (x ∷ xs) = do
  y ← ask x
  ys ← each ask xs
  Done (y ∷ ys)
