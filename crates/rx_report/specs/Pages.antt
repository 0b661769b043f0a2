-- Texts that go out in pages.
use Rattle.std.specs.Prelude.{◌≡◌, ℕ, Option, List, ◌++◌}
use Rattle.disk_defs.specs.Stream.{taken_with}

-- of a text all was taken but its last bytes, which wait in the page
pub record TookAllBut (before after : Option (List ℕ)) (waiting text : List ℕ) : Type 0 where
  pub gone : List ℕ
  pub taken : after ≡ taken_with before gone
  pub whole : gone ++ waiting ≡ text
