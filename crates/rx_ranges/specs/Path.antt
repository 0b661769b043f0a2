-- Paths.
use Rattle.std.specs.Prelude.{ℕ, ◌≤◌, Bool, false, ◌&&◌, ◌==◌, not, nat_le, IsTrue, List, [], ◌∷◌, length}
use Rattle.std.specs.List.{list_all}
use Rattle.rx_ranges.specs.declared.text.TheConstants.{MAX_PATH}

-- a path begins with a slash
abbrev pub begins_with_slash : List ℕ → Bool
begins_with_slash [] = false
begins_with_slash (byte ∷ bytes) = byte == 0x2F

-- no byte of it is a control character: it is at least 0x20, and not 0x7F
abbrev pub is_printed : ℕ → Bool
is_printed byte = nat_le 0x20 byte && not (byte == 0x7F)

-- what a text must be to be a path; that it is UTF-8 is so of each text
pub record IsPath (path : List ℕ) : Type 0 where
  pub rooted : IsTrue (begins_with_slash path)
  pub printed : IsTrue (list_all is_printed path)
  pub short : length path ≤ MAX_PATH
