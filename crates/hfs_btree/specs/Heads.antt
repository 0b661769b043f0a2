-- What the header node of a tree file says.
use Rattle.std.specs.Prelude.{◌≡◌, true, false, Result, Ok, Err}
use Rattle.hfs_defs.specs.Nodes.{is_tree, first_leaf}
use Rattle.hfs_defs.specs.Leaves.{TreeFile, leaves_of, stopped}
use Rattle.fault_defs.specs.declared.Refusal.TheVariants as refusal
use Rattle.rx_store.specs.declared.read_fault.ReadFault.{ReadFault}
use Rattle.rx_store.specs.declared.read_fault.ReadFault.TheVariants.{Device, NoMemory, NotThis, Damaged, Unsupported, Limit}
use Rattle.hfs_btree.specs.declared.head.Head.{Head}

-- the fields of a tree file's header node; or it is no tree, and that is what stops its leaf records
abbrev pub HasHead : TreeFile → Result Head ReadFault → Type 0
HasHead file (Ok head) = (is_tree file.bytes ≡ true) × (head.node_size ≡ file.node_size) × (head.first_leaf ≡ first_leaf file.bytes)
HasHead file (Err Device) = Unit {0}
HasHead file (Err NoMemory) = ⊥
HasHead file (Err NotThis) = ⊥
HasHead file (Err (Damaged sort place)) = (is_tree file.bytes ≡ false) × (leaves_of file ≡ stopped (refusal.Damaged sort place))
HasHead file (Err (Unsupported what place)) = ⊥
HasHead file (Err (Limit bound number)) = ⊥
