-- The nodes of a B-tree: TN1150, "B-Trees".
use Rattle.std.specs.Prelude.{ℕ, zero, suc, ◌+◌, ◌-◌, ◌*◌, Bool, true, ◌&&◌, ◌==◌, nat_le, List, length, slice_index}
use Rattle.std.specs.Int.{is_power_of_two}
use Rattle.bytes_defs.specs.Bytes.{part}
use Rattle.bytes_defs.specs.Numbers.{big_at}

-- ---- the header node, which is node 0

-- its first leaf node, and the bytes of a node
abbrev pub first_leaf : List ℕ → ℕ
first_leaf bytes = big_at 4 bytes 24

abbrev pub node_size_of : List ℕ → ℕ
node_size_of bytes = big_at 2 bytes 32

-- the sizes that a node may have in a tree file of `len` bytes
unfoldable pub is_node_size : ℕ → ℕ → Bool
is_node_size len size = is_power_of_two size && (nat_le 512 size && (nat_le size 32768 && nat_le size len))

-- a tree file begins with a header node
unfoldable pub is_tree : List ℕ → Bool
is_tree bytes = is_node_size (length bytes) (node_size_of bytes) && slice_index bytes 8 == 1

-- ---- a node's bytes

-- the next node on a node's level: 0 behind the last
abbrev pub next_node : List ℕ → ℕ
next_node node = big_at 4 node 0

-- a leaf has kind -1
abbrev pub is_leaf : List ℕ → Bool
is_leaf node = slice_index node 8 == 255

abbrev pub record_count : List ℕ → ℕ
record_count node = big_at 2 node 10

-- the offset of record i, counted back from the node's end; that behind the last record is where the free space begins
abbrev pub record_offset : List ℕ → ℕ → ℕ
record_offset node i = big_at 2 node (length node - 2 * (i + 1))

-- where the table of these offsets begins
abbrev pub table_start : List ℕ → ℕ
table_start node = length node - 2 * (record_count node + 1)

-- the bytes of a record, and of its key
abbrev pub record_len : List ℕ → ℕ → ℕ
record_len node i = record_offset node (i + 1) - record_offset node i

abbrev pub key_len : List ℕ → ℕ → ℕ
key_len node i = big_at 2 node (record_offset node i)

-- record i begins behind the descriptor, its key ends in it, and it ends in front of the table
unfoldable pub is_record : List ℕ → ℕ → Bool
is_record node i =
    nat_le 14 (record_offset node i)
    && (nat_le (record_offset node i + 2 + key_len node i) (record_offset node (i + 1)) && nat_le (record_offset node (i + 1)) (table_start node))

-- so many records from one on are such
abbrev pub are_records : ℕ → List ℕ → ℕ → Bool
are_records zero node i = true
are_records (suc count) node i = is_record node i && are_records count node (i + 1)

-- the table lies behind the descriptor, the free space between them, and each record is such
unfoldable pub is_sound_node : List ℕ → Bool
is_sound_node node =
    nat_le (14 + 2 * (record_count node + 1)) (length node)
    && (nat_le 14 (record_offset node (record_count node)) && (nat_le (record_offset node (record_count node)) (table_start node) && are_records (record_count node) node 0))

-- the bytes of record i
abbrev pub record_bytes : List ℕ → ℕ → List ℕ
record_bytes node i = part node (record_offset node i) (record_len node i)
