-- The order in which files and volumes stand.
use Rattle.std.specs.Prelude.{ℕ, ◌<◌, Bool, ◌&&◌, ◌||◌, ◌==◌, All, IsTrue, nat_lt, List, [], ◌∷◌}
use Rattle.std.specs.List.{list_any}
use Rattle.rx_tree.specs.declared.file.FileId.{FileId}
use Rattle.rx_tree.specs.declared.file.FileEntry.{FileEntry}
use Rattle.rx_tree.specs.declared.volume.Volume.{Volume}

-- whether a file stands before another: by volume, and then by number
abbrev pub stands_before : FileId → FileId → Bool
stands_before a b = nat_lt a.volume b.volume || (a.volume == b.volume && nat_lt a.number b.number)

abbrev pub StandsBeforeAll : FileId → List FileEntry → Type 0
StandsBeforeAll id [] = Unit {0}
StandsBeforeAll id (file ∷ files) = IsTrue (stands_before id file.id)

-- files stand by rising id, no two with one id
abbrev pub HaveRisingIds : List FileEntry → Type 0
HaveRisingIds [] = Unit {0}
HaveRisingIds (file ∷ files) = StandsBeforeAll file.id files × HaveRisingIds files

abbrev pub IsBelowFirst : ℕ → List Volume → Type 0
IsBelowFirst number [] = Unit {0}
IsBelowFirst number (volume ∷ volumes) = number < volume.number

-- volumes stand by rising number, no two with one number
abbrev pub HaveRisingNumbers : List Volume → Type 0
HaveRisingNumbers [] = Unit {0}
HaveRisingNumbers (volume ∷ volumes) = IsBelowFirst volume.number volumes × HaveRisingNumbers volumes

-- whether a volume has this number
abbrev pub has_number : ℕ → List Volume → Bool
has_number number volumes = list_any (λ volume. volume.number == number) volumes

-- each file is in one of the volumes
abbrev pub AreInVolumes : List Volume → List FileEntry → Type 0
AreInVolumes volumes files = All (λ file. IsTrue (has_number file.id.volume volumes)) files
