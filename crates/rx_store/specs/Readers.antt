-- A source over a reader: what contracts see of it.
use Rattle.std.specs.Prelude.{ℕ, Bool}

-- whether there is no reader, and how many reads failed
pub record SourceOfReader : Type 0 where
  pub is_missing : Bool
  pub faults : ℕ
