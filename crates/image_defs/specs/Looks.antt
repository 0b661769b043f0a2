-- What holds of the ranges that a program looks at, and what a value says of the programs that gave it.
use Rattle.std.specs.Prelude.{ℕ, List}
use Rattle.std.specs.List.{All}
use Rattle.range_defs.specs.declared.Range.{Range}
use Rattle.image_defs.specs.Ask.{Ask, visits}

-- each range that a program looks at has a property
pub record LooksAt {E X : Type 0} (P : Range → Type 0) (image : List ℕ) (ask : Ask E X) : Type 0 where
  pub all : All P (visits image ask)
