-- The names of a file ($FILE_NAME).
use Rattle.std.specs.Prelude.{ℕ, zero, suc, ◌+◌, ◌*◌, ◌/◌, Bool, not, ◌&&◌, ◌==◌, nat_le, nat_lt, if◌then◌else◌, Result, Ok, Err, List, [], ◌∷◌, length, slice_index}
use Rattle.std.specs.List.{filter}
use Rattle.bytes_defs.specs.Numbers.{little_at}
use Rattle.image_defs.specs.Results.{with_value}
use Rattle.name_defs.specs.Texts.{units_text}
use Rattle.fault_defs.specs.declared.Sort.TheVariants.{BadName}
use Rattle.fault_defs.specs.declared.Refusal.{Refusal}
use Rattle.fault_defs.specs.declared.Refusal.TheVariants.{Damaged}
use Rattle.ntfs_volume_defs.specs.Slots.{Mft}
use Rattle.ntfs_volume_defs.specs.Segments.{Held, kind_of, is_resident, attribute_place}

-- a name that isn't of the DOS space: its whole parent reference, and the name as it is printed
pub record FoundName : Type 0 where
  pub parent : ℕ
  pub name : List ℕ

-- the 16-bit units of bytes, so many, from a place on
abbrev pub units_at : ℕ → List ℕ → ℕ → List ℕ
units_at zero bytes at = []
units_at (suc count) bytes at = little_at 2 bytes at ∷ units_at count bytes (at + 2)

abbrev pub units_in : ℕ → List ℕ → List ℕ
units_in at bytes = units_at (length bytes / 2) bytes at

abbrev pub name_units : List ℕ → ℕ
name_units bytes = slice_index bytes 64

abbrev pub name_space : List ℕ → ℕ
name_space bytes = slice_index bytes 65

-- a $FILE_NAME has a name of at least one unit, and one of four spaces
unfoldable pub is_file_name : List ℕ → Bool
is_file_name bytes =
    nat_le 66 (length bytes) && (nat_lt 0 (name_units bytes) && (nat_le (66 + 2 * name_units bytes) (length bytes) && nat_le (name_space bytes) 3))

abbrev pub is_sound_name : Held → Bool
is_sound_name held = is_resident held && is_file_name held.opened.body

abbrev pub is_dos : List ℕ → Bool
is_dos bytes = name_space bytes == 2

abbrev pub found_name : List ℕ → FoundName
found_name bytes = record { parent = little_at 8 bytes 0; name = units_text (units_at (name_units bytes) bytes 66) }

-- the names that attributes of that type say
abbrev pub names_of : Mft → List Held → Result (List FoundName) Refusal
names_of mft [] = Ok []
names_of mft (held ∷ more) =
    if not (is_sound_name held) then Err (Damaged BadName (attribute_place mft held))
    else with_value (λ names. if is_dos held.opened.body then names else found_name held.opened.body ∷ names) (names_of mft more)

abbrev pub file_names : Mft → List Held → Result (List FoundName) Refusal
file_names mft attributes = names_of mft (filter (λ held. kind_of held == 0x30) attributes)
