-- The ranges at which one looks for the superblock of a volume.
use Rattle.std.specs.Prelude.{ℕ, ◌+◌, ◌==◌, if◌then◌else◌, List, [], ◌∷◌, ◌++◌}
use Rattle.range_defs.specs.declared.Range.{Range}

-- where the magics of other kinds of volumes and the one of UFS1 stand
abbrev pub probes : ℕ → List Range
probes at =
    record { at = at + 3; len = 8 }
    ∷ record { at = at + 510; len = 2 }
    ∷ record { at = at + 1024; len = 4 }
    ∷ record { at = at + 9564; len = 4 }
    ∷ []

-- for a UFS1 its superblock, and for a UFS2 its magic and then its superblock
abbrev pub version_looks : ℕ → ℕ → List Range
version_looks at version =
    if version == 1
    then record { at = at + 8192; len = 1376 } ∷ []
    else record { at = at + 66908; len = 4 } ∷ record { at = at + 65536; len = 1376 } ∷ []

-- all of them, where the volume at a place has a version
abbrev pub super_looks : ℕ → ℕ → List Range
super_looks at version = probes at ++ version_looks at version
