-- Where a reader has come to in the program of the definitions. The reader keeps the bytes at which it looked, as a list of ranges.
use Rattle.std.specs.Prelude.{◌≡◌, ℕ, Option, IfSome, List, ◌++◌}
use Rattle.range_defs.specs.declared.Range.{Range}
use Rattle.image_defs.specs.Ask.{Ask, result_of, visits}
use Rattle.fault_defs.specs.declared.Refusal.{Refusal}
use Rattle.image_reads.specs.Steps.{SameBytes}

-- A reader stands in a program: what is left gives what the whole gives, and the whole looks at the bytes that were kept and at
-- those at which what is left looks. Those that were kept before are in front.
pub record StandsIn {X : Type 0} (image : List ℕ) (whole : Ask Refusal X) (before : List Range) (left : Ask Refusal X) (looked : List Range) : Type 0 where
  pub gives : result_of image whole ≡ result_of image left
  pub looks : SameBytes (before ++ visits image whole) (looked ++ visits image left)

-- the same of the image that a store tells, where it tells one
abbrev pub IsCome : {X : Type 0} → Option (List ℕ) → Ask Refusal X → List Range → Ask Refusal X → List Range → Type 0
IsCome told whole before left looked = IfSome told (λ image. StandsIn image whole before left looked)
