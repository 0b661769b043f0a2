-- Laws behind Stream: streams of bytes: what a source still gives, and what a sink took.
use Rattle.std.specs.Prelude.{◌≡◌, ℕ, Option, List, ◌++◌}
use Rattle.std.specs.Option.{option_map}

-- a text and what is to come after it are what was to come before
abbrev pub ReadSoFar : Option (List ℕ) → Option (List ℕ) → List ℕ → Type 0
ReadSoFar before after text = before ≡ option_map (λ rest. text ++ rest) after
