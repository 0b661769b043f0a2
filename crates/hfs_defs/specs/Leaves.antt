-- The leaf records of a B-tree: those of the nodes on the chain from the first leaf node on.
use Rattle.std.specs.Prelude.{ℕ, zero, suc, ◌+◌, ◌*◌, ◌/◌, Bool, ◌&&◌, ◌==◌, nat_lt, if◌then◌else◌, Option, Some, None, unwrap_or, List, [], ◌∷◌, ◌++◌, length}
use Rattle.rx_ranges.specs.declared.pieces.Piece.{Piece}
use Rattle.piece_defs.specs.Places.{place_through}
use Rattle.bytes_defs.specs.Bytes.{part}
use Rattle.hfs_defs.specs.Nodes.{first_leaf, node_size_of, is_tree, next_node, is_leaf, record_count, record_offset, is_sound_node, record_bytes}
use Rattle.fault_defs.specs.declared.Refusal.{Refusal}
use Rattle.fault_defs.specs.declared.Refusal.TheVariants.{Damaged}
use Rattle.fault_defs.specs.declared.Sort.TheVariants.{TreeHeader, NodeLink, NodeRecord}

-- a tree file: its bytes, the pieces that say where they stand, the place of its fork data, and the bytes of a node
pub record TreeFile : Type 0 where
  pub bytes : List ℕ
  pub pieces : List Piece
  pub fork_data : ℕ
  pub node_size : ℕ

-- a leaf record: its node, its number there, the place of its first byte, and its bytes
pub record Leaf : Type 0 where
  pub node : ℕ
  pub index : ℕ
  pub at : ℕ
  pub bytes : List ℕ

-- the leaf records in front of the first fault, and that fault
pub record LeafList : Type 0 where
  pub records : List Leaf
  pub stop : Option Refusal

-- ---- the records of a node

-- the place in the image of a byte that pieces without a hole cover; else 0
abbrev pub image_place : List Piece → ℕ → ℕ
image_place pieces byte = unwrap_or (place_through pieces byte) 0

-- record i of node n, which has these bytes and lies in a file of these pieces
abbrev pub leaf_of : List Piece → ℕ → List ℕ → ℕ → Leaf
leaf_of pieces n node i = record {
  node = n;
  index = i;
  at = image_place pieces (n * length node + record_offset node i);
  bytes = record_bytes node i;
}

-- so many records of a node from one on
abbrev pub leaves_from : ℕ → List Piece → ℕ → List ℕ → ℕ → List Leaf
leaves_from zero pieces n node i = []
leaves_from (suc count) pieces n node i = leaf_of pieces n node i ∷ leaves_from count pieces n node (i + 1)

-- the records of a node
unfoldable pub leaves_of_node : List Piece → ℕ → List ℕ → List Leaf
leaves_of_node pieces n node = leaves_from (record_count node) pieces n node 0

-- ---- a tree file

-- the tree file of these bytes, the size of whose nodes stands in its header
abbrev pub tree_file : List ℕ → List Piece → ℕ → TreeFile
tree_file bytes pieces fork_data = record { bytes = bytes; pieces = pieces; fork_data = fork_data; node_size = node_size_of bytes }

-- the place in the image of a byte of the file
abbrev pub place_of : TreeFile → ℕ → ℕ
place_of file byte = image_place file.pieces byte

-- the whole nodes of the file
abbrev pub whole_nodes : TreeFile → ℕ
whole_nodes file = length file.bytes / file.node_size

-- the bytes and the place of a node
abbrev pub node_in : TreeFile → ℕ → List ℕ
node_in file n = part file.bytes (n * file.node_size) file.node_size

abbrev pub node_place : TreeFile → ℕ → ℕ
node_place file n = place_of file (n * file.node_size)

-- a node is whole in the file, and a leaf
unfoldable pub is_leaf_in : TreeFile → ℕ → Bool
is_leaf_in file n = nat_lt n (whole_nodes file) && is_leaf (node_in file n)

-- the records of a node of the file
abbrev pub leaves_in : TreeFile → ℕ → List Leaf
leaves_in file n = leaves_of_node file.pieces n (node_in file n)

-- ---- the chain

-- no more records
abbrev pub ended : LeafList
ended = record { records = []; stop = None }

abbrev pub stopped : Refusal → LeafList
stopped fault = record { records = []; stop = Some fault }

-- some records in front of others
abbrev pub followed_by : List Leaf → LeafList → LeafList
followed_by records rest = record { records = records ++ rest.records; stop = rest.stop }

-- the records of a chain from a node on, to which the link at a place leads, where those behind the node are known
abbrev pub chain_step : TreeFile → ℕ → ℕ → LeafList → LeafList
chain_step file link n behind =
    if n == 0
    then ended
    else (if is_leaf_in file n
    then (if is_sound_node (node_in file n) then followed_by (leaves_in file n) behind else stopped (Damaged NodeRecord (node_place file n)))
    else stopped (Damaged NodeLink link))

-- a chain that has no more nodes to come: where it goes on, it is too long
abbrev pub chain_end : TreeFile → ℕ → LeafList
chain_end file n = if n == 0 then ended else stopped (Damaged NodeLink file.fork_data)

-- the records of a chain of so many nodes at most, from a node on, to which the link at a place leads
unfoldable pub chain_within : ℕ → TreeFile → ℕ → ℕ → LeafList
chain_within zero file link n = chain_end file n
chain_within (suc left) file link n = chain_step file link n (chain_within left file (node_place file n) (next_node (node_in file n)))

-- the leaf records of the chain of a tree file, which has at most as many nodes as the file, and begins with the link in
-- the header node
abbrev pub chain_of : TreeFile → LeafList
chain_of file = chain_within (whole_nodes file) file (place_of file 24) (first_leaf file.bytes)

-- those of a file that is a tree, and of one that isn't
abbrev pub leaves_where : TreeFile → Bool → LeafList
leaves_where file tree = if tree then chain_of file else stopped (Damaged TreeHeader file.fork_data)

-- the leaf records of a tree file
unfoldable pub leaves_of : TreeFile → LeafList
leaves_of file = leaves_where file (is_tree file.bytes)
