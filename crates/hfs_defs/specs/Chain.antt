-- The chain of a tree file: its nodes that follow one on another by their links, from the first leaf node to 0.
use Rattle.std.specs.Prelude.{◌≡◌, ℕ, ◌<◌, ◌≤◌, true, false, Some, None, List, [], ◌∷◌, length}
use Rattle.std.specs.List.{flat_map}
use Rattle.hfs_defs.specs.Nodes.{first_leaf, is_tree, next_node, is_sound_node}
use Rattle.hfs_defs.specs.Leaves.{TreeFile, Leaf, place_of, whole_nodes, node_in, node_place, is_leaf_in, leaves_in, leaves_of}
use Rattle.hfs_defs.specs.Damage.{IsDamage}
use Rattle.fault_defs.specs.declared.Refusal.{Refusal}
use Rattle.fault_defs.specs.declared.Sort.{Sort}
use Rattle.fault_defs.specs.declared.Sort.TheVariants.{TreeHeader, NodeLink, NodeRecord}

-- a node of the chain: it isn't the header, and it is a leaf with sound records
pub record IsGoodNode (file : TreeFile) (n : ℕ) : Type 0 where
  pub some : 0 < n
  pub leaf : is_leaf_in file n ≡ true
  pub sound : is_sound_node (node_in file n) ≡ true

-- from a node, to which the link at a place leads, the links of these good nodes lead on to a last one
abbrev pub LeadsTo : TreeFile → ℕ → ℕ → List ℕ → ℕ → ℕ → Type 0
LeadsTo file link from [] last to = (link ≡ last) × (from ≡ to)
LeadsTo file link from (n ∷ nodes) last to = (from ≡ n) × IsGoodNode file n × LeadsTo file (node_place file n) (next_node (node_in file n)) nodes last to

-- the link at a place leads to a node, behind these nodes of the chain
abbrev pub IsReached : TreeFile → List ℕ → ℕ → ℕ → Type 0
IsReached file nodes link n = (is_tree file.bytes ≡ true) × LeadsTo file (place_of file 24) (first_leaf file.bytes) nodes link n

-- the whole chain: its nodes, of which there are at most as many as the file has, end with a link to 0, and these are
-- their records
pub record IsChain (file : TreeFile) (records : List Leaf) : Type 0 where
  pub nodes : List ℕ
  pub link : ℕ
  pub ends : IsReached file nodes link 0
  pub few : length nodes ≤ whole_nodes file
  pub all : records ≡ flat_map (leaves_in file) nodes

-- the clauses of a tree file that are false, and where
pub data IsFalseInTree (file : TreeFile) : Sort → ℕ → Type 0 where
  NoTree : is_tree file.bytes ≡ false → IsFalseInTree file TreeHeader file.fork_data
  NoLeaf : (nodes : List ℕ) (link n : ℕ) → IsReached file nodes link n → 0 < n → is_leaf_in file n ≡ false → IsFalseInTree file NodeLink link
  TooMany : (nodes : List ℕ) (link n : ℕ) → IsReached file nodes link n → 0 < n → whole_nodes file ≤ length nodes → IsFalseInTree file NodeLink file.fork_data
  Unsound : (nodes : List ℕ) (link n : ℕ) → IsReached file nodes link n → 0 < n → is_leaf_in file n ≡ true → is_sound_node (node_in file n) ≡ false → IsFalseInTree file NodeRecord (node_place file n)

-- The leaf records of a tree file: where nothing stops them, they are those of its chain; a chain gives its records and
-- has no false clause; and what stops them is a clause that is false at its place.
pub record LeavesAreTheChain (file : TreeFile) : Type 0 where
  pub are_chain : (leaves_of file).stop ≡ None → IsChain file (leaves_of file).records
  pub chain_is : (records : List Leaf) → IsChain file records → leaves_of file ≡ record { records = records; stop = None }
  pub stops : (fault : Refusal) → (leaves_of file).stop ≡ Some fault → IsDamage (IsFalseInTree file) fault
  pub ends : (records : List Leaf) (sort : Sort) (place : ℕ) → IsChain file records → IsFalseInTree file sort place → ⊥

abbrev pub LeavesLaw : Type 0
LeavesLaw = (file : TreeFile) → LeavesAreTheChain file
