-- The checks of a stored record, each by itself, and a record whose stride ends are filled from other places.
use Rattle.std.specs.Prelude.{ℕ, ◌+◌, ◌-◌, ◌*◌, ◌/◌, ◌%◌, ◌≤◌, ◌==◌, nat_lt, nat_le, if◌then◌else◌, Option, Some, Result, Ok, Err, IsOk, List, length}
use Rattle.bytes_defs.specs.Bytes.{part}
use Rattle.image_defs.specs.Ask.{result_of, each}
use Rattle.image_defs.specs.Results.{with_value}
use Rattle.image_defs.specs.Via.{seen}
use Rattle.ntfs_record_defs.specs.declared.fault.RecordFault.{RecordFault}
use Rattle.ntfs_record_defs.specs.declared.fault.RecordFault.TheVariants.{NotFile, BadField}
use Rattle.ntfs_record_defs.specs.Stored.{entries, array_end, is_array, count_from, ends_with}
use Rattle.ntfs_record_defs.specs.Attributes.{attributes_from}
use Rattle.ntfs_record_defs.specs.Record.{header_of, is_file, is_used_size, record_of}

-- whether something was found, or why not
abbrev pub status : {X : Type 0} → Result X RecordFault → Result (Unit {0}) RecordFault
status result = with_value (λ x. tt) result

-- a check behind another
abbrev pub and_check : Result (Unit {0}) RecordFault → Result (Unit {0}) RecordFault → Result (Unit {0}) RecordFault
and_check (Ok passed) next = next
and_check (Err fault) next = Err fault

-- the first bytes, the count of the array and its place
abbrev pub header_check : List ℕ → Result (Unit {0}) RecordFault
header_check bytes =
    if is_file bytes
    then (if (header_of bytes).count == entries (length bytes)
    then (if is_array (length bytes) (header_of bytes).array then Ok tt else Err (BadField 4))
    else Err (BadField 6))
    else Err NotFile

-- the ends of the strides from one on
abbrev pub ends_check_from : List ℕ → ℕ → Result (Unit {0}) RecordFault
ends_check_from bytes stride = status (result_of bytes (each (ends_with (part bytes (header_of bytes).array 2)) (count_from stride (length bytes / 512 - stride))))

abbrev pub ends_check : List ℕ → Result (Unit {0}) RecordFault
ends_check bytes = ends_check_from bytes 0

-- where the first attribute begins, and the used size
abbrev pub sizes_check : List ℕ → Result (Unit {0}) RecordFault
sizes_check bytes =
    if nat_le (array_end (length bytes) (header_of bytes).array) (header_of bytes).first
    then (if is_used_size (length bytes) (header_of bytes) then Ok tt else Err (BadField 24))
    else Err (BadField 20)

-- the attributes of a record whose true bytes stand in place, from a place on
abbrev pub attributes_check_from : List ℕ → ℕ → Result (Unit {0}) RecordFault
attributes_check_from bytes at = status (result_of bytes (attributes_from (header_of bytes).used at))

abbrev pub attributes_check : List ℕ → Result (Unit {0}) RecordFault
attributes_check bytes = attributes_check_from bytes (header_of bytes).first

-- all that is checked before the true bytes are put back
abbrev pub stored_check : List ℕ → Result (Unit {0}) RecordFault
stored_check bytes = and_check (header_check bytes) (and_check (ends_check bytes) (sizes_check bytes))

-- whether stored bytes hold a record
abbrev pub record_check : List ℕ → Result (Unit {0}) RecordFault
record_check stored = status (result_of stored (record_of (length stored)))

-- ---- filled stride ends: the first two bytes stand at `from`, and those of each next stride `step` bytes further

unfoldable pub filling_place : ℕ → ℕ → ℕ → ℕ
filling_place from step i = if nat_lt (i % 512) 510 then i else from + step * (i / 512) + (i % 512 - 510)

abbrev pub filling_at : ℕ → ℕ → ℕ → Option ℕ
filling_at from step i = Some (filling_place from step i)

abbrev pub filled : ℕ → ℕ → List ℕ → List ℕ
filled from step bytes = seen bytes (filling_at from step) (length bytes)

-- ---- a walk over the attributes of a mended record

pub record IsWalk (bytes : List ℕ) (at : ℕ) : Type 0 where
  pub size : 1024 ≤ length bytes
  pub inside : (header_of bytes).used ≤ length bytes
  pub before : at ≤ (header_of bytes).used
  pub sound : IsOk (result_of bytes (attributes_from (header_of bytes).used at))
