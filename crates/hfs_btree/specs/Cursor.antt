-- Where one stands among the leaf records of a tree file.
use Rattle.std.specs.Prelude.{◌≡◌, ◌⊎◌, ℕ, ◌+◌, ◌-◌, ◌*◌, ◌<◌, nat_lt, Bool, true, false, Option, Some, None, Result, Ok, Err, List, [], ◌∷◌, length}
use Rattle.rx_ranges.specs.declared.pieces.Piece.{Piece}
use Rattle.piece_defs.specs.Places.{bytes_through}
use Rattle.hfs_defs.specs.Nodes.{next_node}
use Rattle.hfs_defs.specs.Leaves.{TreeFile, Leaf, LeafList, leaf_of, leaves_of_node, ended, stopped, followed_by, chain_within}
use Rattle.fault_defs.specs.declared.Refusal.TheVariants as refusal
use Rattle.fault_defs.specs.declared.Sort.TheVariants.{NodeLink, NodeRecord}
use Rattle.rx_store.specs.declared.read_fault.ReadFault.{ReadFault}
use Rattle.rx_store.specs.declared.read_fault.ReadFault.TheVariants.{Device, NoMemory, NotThis, Damaged, Unsupported, Limit}

-- the record at which one stands, those behind it in its node, and how the chain goes on: the place of the link that
-- leads on, the node to which it leads, and how many more nodes may come. The file has `len` bytes in these pieces.
pub record Cursor : Type 0 where
  pub pieces : List Piece
  pub len : ℕ
  pub fork_data : ℕ
  pub node_size : ℕ
  pub current : Option Leaf
  pub pending : List Leaf
  pub link : ℕ
  pub next : ℕ
  pub left : ℕ

-- the tree file in these pieces of an image
abbrev pub file_on : List ℕ → List Piece → ℕ → ℕ → TreeFile
file_on image pieces fork_data node_size = record {
  bytes = bytes_through image pieces;
  pieces = pieces;
  fork_data = fork_data;
  node_size = node_size;
}

-- the leaf records that are still to come
unfoldable pub rest_of : List ℕ → Cursor → LeafList
rest_of image cursor =
    followed_by cursor.pending (chain_within cursor.left (file_on image cursor.pieces cursor.fork_data cursor.node_size) cursor.link cursor.next)

-- the record in front of an index of a node, where one stands at it
abbrev pub current_of : Bool → List Piece → ℕ → List ℕ → ℕ → Option Leaf
current_of true pieces n node index = Some (leaf_of pieces n node (index - 1))
current_of false pieces n node index = None

-- so many steps at most are left: each node has fewer than 65,536 records
abbrev pub steps_left : Cursor → ℕ
steps_left cursor = cursor.left * 65536 + length cursor.pending

-- what the leaf records from a node on are, where reading that node ends so: those of this node and of the chain behind
-- it; or what stops them is the fault
abbrev pub IsEntered : TreeFile → ℕ → ℕ → ℕ → Result ℕ ReadFault → List ℕ → Type 0
IsEntered file link n left (Ok place) node = chain_within left file link n ≡ followed_by (leaves_of_node file.pieces n node) (chain_within (left - 1) file place (next_node node))
IsEntered file link n left (Err Device) node = Unit {0}
IsEntered file link n left (Err NoMemory) node = ⊥
IsEntered file link n left (Err NotThis) node = ⊥
IsEntered file link n left (Err (Damaged sort place)) node = chain_within left file link n ≡ stopped (refusal.Damaged sort place)
IsEntered file link n left (Err (Unsupported what place)) node = ⊥
IsEntered file link n left (Err (Limit bound number)) node = ⊥

-- a step to the next node or record with this result: the same records are to come, or what stops them is the fault, and
-- nothing was taken
abbrev pub Enters : LeafList → Result (Unit {0}) ReadFault → LeafList → Type 0
Enters old (Ok done) new = new ≡ old
Enters old (Err Device) new = new ≡ old
Enters old (Err NoMemory) new = ⊥
Enters old (Err NotThis) new = ⊥
Enters old (Err (Damaged sort place)) new = (old ≡ stopped (refusal.Damaged sort place)) × (new ≡ old)
Enters old (Err (Unsupported what place)) new = ⊥
Enters old (Err (Limit bound number)) new = ⊥

-- A step with this result: it stands at the first of the records that were to come, and the others are still to come; or
-- there was none; or what stopped them is the fault, and nothing was taken.
abbrev pub Advances : LeafList → Result (Unit {0}) ReadFault → Option Leaf → LeafList → Type 0
Advances old (Ok done) (Some leaf) new = old ≡ followed_by (leaf ∷ []) new
Advances old (Ok done) None new = (old ≡ ended) × (new ≡ old)
Advances old (Err Device) current new = new ≡ old
Advances old (Err NoMemory) current new = ⊥
Advances old (Err NotThis) current new = ⊥
Advances old (Err (Damaged sort place)) current new = (old ≡ stopped (refusal.Damaged sort place)) × (new ≡ old)
Advances old (Err (Unsupported what place)) current new = ⊥
Advances old (Err (Limit bound number)) current new = ⊥

-- one stands at the first of the records of the node that are to come, and the others are left; or there is none
abbrev pub Steps : List Leaf → Option Leaf → List Leaf → Type 0
Steps [] current new = (current ≡ None) × (new ≡ [])
Steps (leaf ∷ leaves) current new = (current ≡ Some leaf) × (new ≡ leaves)

-- two cursors of one file
abbrev pub KeepsFile : Cursor → Cursor → Type 0
KeepsFile old new = (new.pieces ≡ old.pieces) × (new.len ≡ old.len) × (new.fork_data ≡ old.fork_data) × (new.node_size ≡ old.node_size)

-- no record of the node is left, and the chain goes on
abbrev pub must_enter : List Leaf → ℕ → Bool
must_enter [] next = nat_lt 0 next
must_enter (leaf ∷ leaves) next = false

-- where one stands at a record, fewer steps are left than before
abbrev pub FallsAt : Option Leaf → ℕ → ℕ → Type 0
FallsAt None old new = Unit {0}
FallsAt (Some leaf) old new = new < old

-- the faults of reading a leaf record: the device's, a bad link, or a node whose records aren't sound
abbrev pub IsNextRefusal : ReadFault → Type 0
IsNextRefusal Device = Unit {0}
IsNextRefusal NoMemory = ⊥
IsNextRefusal NotThis = ⊥
IsNextRefusal (Damaged sort place) = (sort ≡ NodeLink) ⊎ (sort ≡ NodeRecord)
IsNextRefusal (Unsupported what place) = ⊥
IsNextRefusal (Limit bound number) = ⊥
