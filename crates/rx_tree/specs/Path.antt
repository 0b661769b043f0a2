-- Paths.
use Rattle.std.specs.Prelude.{ℕ, Bool, false, ◌==◌, if◌then◌else◌, List, [], ◌∷◌, ◌++◌}

-- whether a path is that of the root, a slash alone
abbrev pub is_root : List ℕ → Bool
is_root [] = false
is_root (byte ∷ []) = byte == 47
is_root (byte ∷ next ∷ bytes) = false

-- the path of a name in a directory: the directory's path, a slash where that isn't the root's, and the name
abbrev pub joined_path : List ℕ → List ℕ → List ℕ
joined_path parent name = if is_root parent then parent ++ name else (parent ++ 47 ∷ name)
