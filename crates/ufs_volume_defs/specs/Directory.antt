-- Directories: FreeBSD's sys/ufs/ufs/dir.h, struct direct. A directory's content is a chain of entries, and none of them
-- passes the 512 bytes in which it begins.
use Rattle.std.specs.Prelude.{ℕ, zero, suc, ◌+◌, ◌-◌, ◌%◌, Bool, not, ◌&&◌, ◌||◌, ◌==◌, nat_lt, nat_le, if◌then◌else◌, Result, Ok, Err, List, [], ◌∷◌, length, slice_index}
use Rattle.std.specs.List.{filter}
use Rattle.std.specs.Str.{bytes_eq}
use Rattle.bytes_defs.specs.Bytes.{part}
use Rattle.bytes_defs.specs.Numbers.{number_at}
use Rattle.bytes_defs.specs.declared.order.Order.{Order}
use Rattle.image_defs.specs.Results.{with_value}

-- an entry: its place in some bytes of a directory, the inode that it names, its length, and its name
pub record Entry : Type 0 where
  pub at : ℕ
  pub inode : ℕ
  pub len : ℕ
  pub name : List ℕ

-- an entry that names no inode is unused
abbrev pub is_used : ℕ → Bool
is_used inode = nat_lt 1 inode

-- the names of the directory itself and of its parent
abbrev pub is_dot : List ℕ → Bool
is_dot name = bytes_eq name (46 ∷ []) || bytes_eq name (46 ∷ 46 ∷ [])

-- the bytes from a place to the end of its 512
abbrev pub left_at : ℕ → ℕ
left_at at = 512 - at % 512

-- the length of a record: it has place for the fields in front of the name, it is a multiple of four, and it doesn't pass its
-- 512 bytes
abbrev pub is_record_length : ℕ → ℕ → Bool
is_record_length left len = nat_le 8 len && (len % 4 == 0 && nat_le len left)

-- the length of a used entry's name: there is one, and the record has place for it
abbrev pub is_name_length : ℕ → ℕ → Bool
is_name_length len name_len = nat_lt 0 name_len && nat_le (8 + name_len) len

-- the length of the record that begins at a place, of an entry's name, and the inode that it names
abbrev pub record_length : Order → List ℕ → ℕ → ℕ
record_length order bytes at = number_at order 2 bytes (at + 4)

abbrev pub name_length : List ℕ → ℕ → ℕ
name_length bytes at = slice_index bytes (at + 7)

abbrev pub entry_inode : Order → List ℕ → ℕ → ℕ
entry_inode order bytes at = number_at order 4 bytes at

-- the record at a place is an entry
unfoldable pub is_entry : Order → List ℕ → ℕ → Bool
is_entry order bytes at =
    nat_le 8 (left_at at)
    && (is_record_length (left_at at) (record_length order bytes at)
    && (not (is_used (entry_inode order bytes at)) || is_name_length (record_length order bytes at) (name_length bytes at)))

-- the entry at a place
abbrev pub entry_of : Order → List ℕ → ℕ → Entry
entry_of order bytes at = record {
  at = at;
  inode = entry_inode order bytes at;
  len = record_length order bytes at;
  name = part bytes (at + 8) (name_length bytes at);
}

-- the entries from a place on, where those behind the first are known: none at the end, and the place of the record where
-- that is no entry
abbrev pub with_entry : Order → List ℕ → ℕ → Result (List Entry) ℕ → Result (List Entry) ℕ
with_entry order bytes at behind =
    if nat_le (length bytes) at
    then Ok []
    else (if is_entry order bytes at then with_value (λ entries. entry_of order bytes at ∷ entries) behind else Err at)

-- the entries from a place on, as far as a number of them goes
unfoldable pub entries_within : ℕ → Order → List ℕ → ℕ → Result (List Entry) ℕ
entries_within zero order bytes at = Ok []
entries_within (suc count) order bytes at = with_entry order bytes at (entries_within count order bytes (at + record_length order bytes at))

-- the entries that some bytes of a directory hold, or the place of the first record that is no entry: there are at most as many
-- as bytes
abbrev pub entries_of : Order → List ℕ → Result (List Entry) ℕ
entries_of order bytes = entries_within (length bytes) order bytes 0

-- the entries that lead to files: they are used, and name neither the directory itself nor its parent
abbrev pub leads_on : Entry → Bool
leads_on entry = is_used entry.inode && not (is_dot entry.name)

abbrev pub leading_entries : List Entry → List Entry
leading_entries entries = filter leads_on entries
