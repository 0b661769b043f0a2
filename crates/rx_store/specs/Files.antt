-- A store over files: what contracts see of it.
use Rattle.std.specs.Prelude.{◌≡◌, ℕ, min, Bool, true, false, ◌&&◌, not, None, is_none, IsTrue}
use Rattle.std.proofs.Common.{arith}
use Rattle.disk_defs.specs.Count.{Faults}
use Rattle.disk_defs.specs.Disk.{State, SizesFit, TellsItsSizes}
use Rattle.disk_defs.specs.declared.Area.{Area}
use Rattle.disk_defs.specs.declared.Area.TheVariants.{Image, Journal}
use Rattle.rx_store.specs.Outside.{Calls}
use Rattle.rx_store.specs.declared.file_store.Opened.{Opened}
use Rattle.rx_store.specs.declared.file_store.Opened.TheVariants.{Absent, Failed, Open}

-- the file of an area: the size that it has, whether there is no file, and whether it couldn't be opened or measured
pub record AreaFile : Type 0 where
  pub size : ℕ
  pub is_absent : Bool
  pub has_failed : Bool

-- the files of both areas, and how many calls failed on each
pub record StoreOfFiles : Type 0 where
  pub image : AreaFile
  pub journal : AreaFile
  pub faults : Faults

-- what is seen of an area over this file, or of one that isn't there, with the size that it has
abbrev pub area_file : {D : Type 0} → Bool → Calls D → ℕ → AreaFile
area_file is_absent calls size = record { size = size; is_absent = is_absent; has_failed = not is_absent && is_none calls.device }

-- what is found of a file when it is measured: an open one may fail then
abbrev pub IsMeasured : Opened → AreaFile → Type 0
IsMeasured Absent file = file ≡ record { size = 0; is_absent = true; has_failed = false }
IsMeasured Failed file = file ≡ record { size = 0; is_absent = false; has_failed = true }
IsMeasured (Open opened) file = (file.is_absent ≡ false) × (IsTrue file.has_failed → file.size ≡ 0)

abbrev pub file_of : Area → StoreOfFiles → AreaFile
file_of Image store = store.image
file_of Journal store = store.journal

-- the size of an area, as the number of 64 bits that it is
abbrev pub size_in : AreaFile → ℕ
size_in file = min file.size 18446744073709551615

-- a store over files tells its sizes and no content
abbrev pub state_of_files : StoreOfFiles → State
state_of_files store = record { sizes = record { image = size_in store.image; journal = size_in store.journal }; told = None }

pub tells_its_sizes_of_files : (store : StoreOfFiles) → TellsItsSizes (state_of_files store)
tells_its_sizes_of_files store Image = tt
tells_its_sizes_of_files store Journal = tt

pub sizes_fit_of_files : (store : StoreOfFiles) → SizesFit (state_of_files store)
sizes_fit_of_files store Image = omega arith
sizes_fit_of_files store Journal = omega arith
