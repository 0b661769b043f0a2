-- The records of the catalog: TN1150, "Catalog File".
use Rattle.std.specs.Prelude.{ℕ, zero, suc, ◌+◌, ◌*◌, ◌%◌, Bool, ◌&&◌, ◌||◌, ◌==◌, nat_le, if◌then◌else◌, Option, Some, None, Result, Ok, Err, List, [], ◌∷◌, length, slice_index, true, false}
use Rattle.std.specs.List.{filter_map}
use Rattle.bytes_defs.specs.Numbers.{big_at}
use Rattle.image_defs.specs.Results.{with_value}
use Rattle.hfs_defs.specs.Header.{fork_of}
use Rattle.hfs_defs.specs.Leaves.{Leaf, LeafList}
use Rattle.hfs_defs.specs.Overflow.{each_leaf}
use Rattle.fault_defs.specs.declared.Refusal.{Refusal}
use Rattle.fault_defs.specs.declared.Refusal.TheVariants.{Damaged}
use Rattle.fault_defs.specs.declared.Sort.TheVariants.{CatalogRecord}
use Rattle.hfs_defs.specs.declared.forks.Fork.{Fork}

-- what a file has besides: its type and creator, and its forks
pub record FileInfo : Type 0 where
  pub file_type : ℕ
  pub creator : ℕ
  pub data_fork : Fork
  pub resource_fork : Fork

-- a folder, or a file where it has the fields of one: the place of its record and of the record's body, the folder in
-- which it is, its name in 16-bit units, and its fields
pub record Entry : Type 0 where
  pub at : ℕ
  pub body_at : ℕ
  pub parent : ℕ
  pub name : List ℕ
  pub id : ℕ
  pub created : ℕ
  pub modified : ℕ
  pub changed : ℕ
  pub accessed : ℕ
  pub owner : ℕ
  pub group : ℕ
  pub owner_flags : ℕ
  pub mode : ℕ
  pub special : ℕ
  pub info : Option FileInfo

-- so many units from a place on
abbrev pub units_at : ℕ → List ℕ → ℕ → List ℕ
units_at zero bytes at = []
units_at (suc count) bytes at = big_at 2 bytes at ∷ units_at count bytes (at + 2)

-- where the key ends, and where the body begins, which is a place of even number
abbrev pub key_end : List ℕ → ℕ
key_end bytes = 2 + big_at 2 bytes 0

abbrev pub body_start : List ℕ → ℕ
body_start bytes = key_end bytes + key_end bytes % 2

abbrev pub name_units : List ℕ → ℕ
name_units bytes = big_at 2 bytes 6

-- the key ends behind the name
unfoldable pub has_name : List ℕ → Bool
has_name bytes = nat_le 8 (key_end bytes) && nat_le (8 + 2 * name_units bytes) (key_end bytes)

-- the record has so many bytes of a body
abbrev pub has_body : List ℕ → ℕ → Bool
has_body bytes len = nat_le (body_start bytes + len) (length bytes)

abbrev pub body_type : List ℕ → ℕ
body_type bytes = big_at 2 bytes (body_start bytes)

abbrev pub file_info : List ℕ → ℕ → FileInfo
file_info bytes body = record {
  file_type = big_at 4 bytes (body + 48);
  creator = big_at 4 bytes (body + 52);
  data_fork = fork_of bytes (body + 88);
  resource_fork = fork_of bytes (body + 168);
}

-- the entry of a leaf record whose body begins at a place of it
abbrev pub entry_at : Leaf → ℕ → Option FileInfo → Entry
entry_at leaf body info = record {
  at = leaf.at;
  body_at = leaf.at + body;
  parent = big_at 4 leaf.bytes 2;
  name = units_at (name_units leaf.bytes) leaf.bytes 8;
  id = big_at 4 leaf.bytes (body + 8);
  created = big_at 4 leaf.bytes (body + 12);
  modified = big_at 4 leaf.bytes (body + 16);
  changed = big_at 4 leaf.bytes (body + 20);
  accessed = big_at 4 leaf.bytes (body + 24);
  owner = big_at 4 leaf.bytes (body + 32);
  group = big_at 4 leaf.bytes (body + 36);
  owner_flags = slice_index leaf.bytes (body + 41);
  mode = big_at 2 leaf.bytes (body + 42);
  special = big_at 4 leaf.bytes (body + 44);
  info = info;
}

-- what a leaf record of the catalog is
pub data RecordKind : Type 0 where
  FolderRecord : RecordKind
  FileRecord : RecordKind
  ThreadRecord : RecordKind
  NoRecord : RecordKind

abbrev pub kind_of_type : ℕ → RecordKind
kind_of_type n = if n == 1 then FolderRecord else (if n == 2 then FileRecord else (if n == 3 || n == 4 then ThreadRecord else NoRecord))

-- the record of a folder or a file has a name in its key and a whole body
abbrev pub whole_kind : List ℕ → RecordKind → RecordKind
whole_kind bytes FolderRecord = if has_name bytes && has_body bytes 88 then FolderRecord else NoRecord
whole_kind bytes FileRecord = if has_name bytes && has_body bytes 248 then FileRecord else NoRecord
whole_kind bytes ThreadRecord = ThreadRecord
whole_kind bytes NoRecord = NoRecord

-- what a record is: it has a type, and what that asks
unfoldable pub record_kind : List ℕ → RecordKind
record_kind bytes = if has_body bytes 2 then whole_kind bytes (kind_of_type (body_type bytes)) else NoRecord

-- it is one of the three
abbrev pub is_some_kind : RecordKind → Bool
is_some_kind FolderRecord = true
is_some_kind FileRecord = true
is_some_kind ThreadRecord = true
is_some_kind NoRecord = false

unfoldable pub is_catalog_record : List ℕ → Bool
is_catalog_record bytes = is_some_kind (record_kind bytes)

-- the entry of a leaf record: a thread has none
abbrev pub entry_by : RecordKind → Leaf → Result (Option Entry) Refusal
entry_by FolderRecord leaf = Ok (Some (entry_at leaf (body_start leaf.bytes) None))
entry_by FileRecord leaf = Ok (Some (entry_at leaf (body_start leaf.bytes) (Some (file_info leaf.bytes (body_start leaf.bytes)))))
entry_by ThreadRecord leaf = Ok None
entry_by NoRecord leaf = Err (Damaged CatalogRecord leaf.at)

unfoldable pub checked_entry : Leaf → Result (Option Entry) Refusal
checked_entry leaf = entry_by (record_kind leaf.bytes) leaf

-- the folders and files of a catalog, in the order of the leaf records
abbrev pub catalog_entries : LeafList → Result (List Entry) Refusal
catalog_entries leaves = with_value (filter_map (λ entry. entry)) (each_leaf checked_entry leaves)
