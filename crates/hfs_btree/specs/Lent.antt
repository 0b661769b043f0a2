-- What is lent, and what a reader of leaf records says of it.
use Rattle.std.specs.Prelude.{◌≡◌, ℕ, ◌<◌, ◌≤◌, true, false, Option, Some, None, Result, Ok, Err, List, [], ◌∷◌, length}
use Rattle.hfs_defs.specs.Nodes.{is_tree}
use Rattle.hfs_defs.specs.Leaves.{TreeFile, Leaf, LeafList, ended, stopped, followed_by, leaves_of}
use Rattle.fault_defs.specs.declared.Refusal.TheVariants as refusal
use Rattle.fault_defs.specs.declared.Sort.TheVariants.{TreeHeader}
use Rattle.hfs_btree.specs.Cursor.{Cursor, rest_of, steps_left}
use Rattle.rx_store.specs.declared.read_fault.ReadFault.{ReadFault}
use Rattle.rx_store.specs.declared.read_fault.ReadFault.TheVariants.{Device, NoMemory, NotThis, Damaged, Unsupported, Limit}
use Rattle.hfs_btree.specs.declared.leaves.LeafRecord.{LeafRecord}

-- the leaf record that a lent one is
abbrev pub leaf : LeafRecord → Leaf
leaf lent = record { node = lent.node; index = lent.index; at = lent.at; bytes = lent.bytes.now }

-- the record at which one stands is lent
abbrev pub IsLent : Option Leaf → Option LeafRecord → Type 0
IsLent None None = Unit {0}
IsLent None (Some lent) = ⊥
IsLent (Some found) None = ⊥
IsLent (Some found) (Some lent) = leaf lent ≡ found

-- The leaf records that are to come are those of the file. Or what stops them in front of the first is the fault: the file
-- is no tree. A device that failed and memory that ran out say nothing.
abbrev pub Starts : List ℕ → TreeFile → Result Cursor ReadFault → Type 0
Starts image file (Ok cursor) = (is_tree file.bytes ≡ true) × (rest_of image cursor ≡ leaves_of file)
Starts image file (Err Device) = Unit {0}
Starts image file (Err NoMemory) = Unit {0}
Starts image file (Err NotThis) = ⊥
Starts image file (Err (Damaged sort place)) = (is_tree file.bytes ≡ false) × (leaves_of file ≡ stopped (refusal.Damaged sort place))
Starts image file (Err (Unsupported what place)) = ⊥
Starts image file (Err (Limit bound number)) = ⊥

-- the faults of starting in a tree file whose fork data stand at a place: the device's, no memory, or it is no tree
abbrev pub IsStartRefusal : ℕ → ReadFault → Type 0
IsStartRefusal fork_data Device = Unit {0}
IsStartRefusal fork_data NoMemory = Unit {0}
IsStartRefusal fork_data NotThis = ⊥
IsStartRefusal fork_data (Damaged sort place) = (sort ≡ TreeHeader) × (place ≡ fork_data)
IsStartRefusal fork_data (Unsupported what place) = ⊥
IsStartRefusal fork_data (Limit bound number) = ⊥

-- the first of the records that were to come, and none where there was none
abbrev pub IsFirst : List Leaf → LeafRecord → Type 0
IsFirst [] lent = ⊥
IsFirst (found ∷ records) lent = leaf lent ≡ found

-- The answer is the first of the records that were to come; or there was none, and the chain had ended; or what stops them
-- is the fault. A device that failed says nothing.
abbrev pub IsNext : LeafList → Result (Option LeafRecord) ReadFault → Type 0
IsNext old (Ok (Some lent)) = IsFirst old.records lent
IsNext old (Ok None) = old ≡ ended
IsNext old (Err Device) = Unit {0}
IsNext old (Err NoMemory) = ⊥
IsNext old (Err NotThis) = ⊥
IsNext old (Err (Damaged sort place)) = old ≡ stopped (refusal.Damaged sort place)
IsNext old (Err (Unsupported what place)) = ⊥
IsNext old (Err (Limit bound number)) = ⊥

-- what is to come behind the answer: after a record, the others; after anything else, the same
abbrev pub IsBehind : LeafList → Result (Option LeafRecord) ReadFault → LeafList → Type 0
IsBehind old (Ok (Some lent)) new = old ≡ followed_by (leaf lent ∷ []) new
IsBehind old (Ok None) new = new ≡ old
IsBehind old (Err fault) new = new ≡ old

-- a record that is lent has the two bytes of its key's length
abbrev pub HasKeyLength : Option LeafRecord → Type 0
HasKeyLength None = Unit {0}
HasKeyLength (Some lent) = 2 ≤ length lent.bytes.now

-- where a record was lent, fewer steps are left than before
abbrev pub Falls : Cursor → Result (Option LeafRecord) ReadFault → Cursor → Type 0
Falls old (Ok (Some lent)) new = steps_left new < steps_left old
Falls old (Ok None) new = Unit {0}
Falls old (Err fault) new = Unit {0}
