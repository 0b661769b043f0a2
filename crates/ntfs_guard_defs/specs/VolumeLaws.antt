-- The law of the footprint of a volume: an image of the same length and with the same bytes in the guard says the same.
use Rattle.std.specs.Prelude.{◌≡◌, ℕ, Ok, List, length}
use Rattle.image_defs.specs.Ask.{result_of}
use Rattle.image_defs.specs.Agreement.{AgreeOn}
use Rattle.ntfs_volume_defs.specs.Volume.{FoundVolume, volume_at, guard_of}

-- an image of the same length with the same bytes in the guard of a volume has the same volume, with the same guard
abbrev pub FootprintLaw : Type 0
FootprintLaw = (a b : List ℕ) (at len : ℕ) (volume : FoundVolume) → result_of a (volume_at at len) ≡ Ok volume → AgreeOn (guard_of (length a) volume) a b
    → (result_of b (volume_at at len) ≡ Ok volume) × (guard_of (length b) volume ≡ guard_of (length a) volume)
