-- The pointers of an inode as they are kept.
use Rattle.std.specs.Prelude.{ℤ, pos, [], ◌∷◌}
use Rattle.ufs_names.specs.declared.kept.Pointers.{Pointers}
use Rattle.ufs_names.specs.declared.kept.KeptPointers.{KeptPointers}
use Rattle.ufs_names.specs.declared.kept.KeptPointers.TheVariants.{Lone, Many}

-- a pointer to the first block of the content, and no other
abbrev pub lone : ℤ → Pointers
lone first = record {
  ext = pos 0 ∷ pos 0 ∷ [];
  direct = first ∷ pos 0 ∷ pos 0 ∷ pos 0 ∷ pos 0 ∷ pos 0 ∷ pos 0 ∷ pos 0 ∷ pos 0 ∷ pos 0 ∷ pos 0 ∷ pos 0 ∷ [];
  indirect = pos 0 ∷ pos 0 ∷ pos 0 ∷ [];
}

-- the pointers that are kept
abbrev pub pointers_of : KeptPointers → Pointers
pointers_of (Lone first) = lone first
pointers_of (Many pointers) = pointers.value
