-- How many names the files of a tree have, and how many bytes their paths. Equal names count each by itself.
use Rattle.std.specs.Prelude.{ℕ, Bool, ◌&&◌, nat_le, List, length, sum_by}
use Rattle.rx_tree.specs.declared.limits.TheConstants.{MAX_NAMES, MAX_PATH_BYTES}
use Rattle.rx_tree.specs.declared.file.FileEntry.{FileEntry}

-- the names of all files
abbrev pub name_count : List FileEntry → ℕ
name_count files = sum_by (λ file. length file.names) files

-- the bytes of all their paths
abbrev pub path_bytes : List FileEntry → ℕ
path_bytes files = sum_by (λ file. sum_by length file.names) files

-- both are within the limits of a tree
unfoldable pub has_few_names : List FileEntry → Bool
has_few_names files = nat_le (name_count files) MAX_NAMES && nat_le (path_bytes files) MAX_PATH_BYTES
