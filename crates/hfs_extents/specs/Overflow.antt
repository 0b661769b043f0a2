-- The overflow records of a volume, as they are read.
use Rattle.std.specs.Prelude.{◌≡◌, ◌⊎◌, ℕ, ◌+◌, ◌<◌, ◌≤◌, nat_le, Result, Ok, Err, List}
use Rattle.image_defs.specs.Ask.{Ask, result_of, check, ◌>>◌}
use Rattle.range_defs.specs.declared.TheConstants.{LONGEST_IMAGE}
use Rattle.piece_defs.specs.Places.{bytes_through}
use Rattle.hfs_defs.specs.Leaves.{Leaf, leaves_of, tree_file}
use Rattle.hfs_defs.specs.Overflow.{overflow_records}
use Rattle.hfs_defs.specs.TreeFiles.{extents_at, volume_overflow}
use Rattle.fault_defs.specs.declared.Refusal.{Refusal}
use Rattle.fault_defs.specs.declared.Refusal.TheVariants as refusal
use Rattle.fault_defs.specs.declared.Bound.TheVariants.{Image}
use Rattle.fault_defs.specs.declared.Sort.{Sort}
use Rattle.fault_defs.specs.declared.Sort.TheVariants.{ForkExtent, ForkSum, TreeHeader, NodeLink, NodeRecord, ExtentsRecord}
use Rattle.fault_defs.specs.declared.What.TheVariants.{ExtentsFork}
use Rattle.hfs_defs.specs.declared.forks.OverflowRecord.{OverflowRecord}
use Rattle.hfs_defs.specs.declared.header.Header.{Header}
use Rattle.rx_store.specs.Answers.{Answers}
use Rattle.rx_store.specs.declared.read_fault.ReadFault.{ReadFault}
use Rattle.rx_store.specs.declared.read_fault.ReadFault.TheVariants.{Device, NoMemory, NotThis, Damaged, Unsupported, Limit}
use Rattle.hfs_extents.specs.declared.fork.ForkPieces.{ForkPieces}

-- the overflow records of a volume, where it ends in the longest image
unfoldable pub overflow_within : Header → Ask Refusal (List OverflowRecord)
overflow_within header = do
  check (nat_le (header.at + header.len) LONGEST_IMAGE) (refusal.Limit Image LONGEST_IMAGE)
  volume_overflow header

-- a leaf record begins in the longest image
abbrev pub IsNear : Leaf → Type 0
IsNear leaf = leaf.at ≤ LONGEST_IMAGE

-- The overflow records of a volume are those of the extents file in the pieces that are found. Where no pieces are found,
-- the fault is the answer.
abbrev pub LeadsOn : Header → Result ForkPieces ReadFault → Type 0
LeadsOn header (Ok laid) =
    (image : List ℕ) → result_of image (overflow_within header) ≡ overflow_records (leaves_of (tree_file (bytes_through image laid.pieces) laid.pieces (extents_at header)))
LeadsOn header (Err fault) = (image : List ℕ) → Answers (Err fault) (result_of image (overflow_within header))

-- the faults of reading a leaf record of the extents file
abbrev pub IsRecordRefusal : ReadFault → Type 0
IsRecordRefusal Device = Unit {0}
IsRecordRefusal NoMemory = Unit {0}
IsRecordRefusal NotThis = ⊥
IsRecordRefusal (Damaged sort place) = (sort ≡ NodeLink) ⊎ (sort ≡ NodeRecord) ⊎ (sort ≡ ExtentsRecord)
IsRecordRefusal (Unsupported what place) = ⊥
IsRecordRefusal (Limit bound number) = ⊥

-- the faults of the fork of the extents file: no memory, what is wrong with it, more blocks than its eight extents have,
-- and a volume that ends behind the longest image
abbrev pub IsExtentsRefusal : Header → ReadFault → Type 0
IsExtentsRefusal header Device = ⊥
IsExtentsRefusal header NoMemory = Unit {0}
IsExtentsRefusal header NotThis = ⊥
IsExtentsRefusal header (Damaged sort place) = (sort ≡ ForkExtent) ⊎ ((sort ≡ ForkSum) × (place ≡ extents_at header))
IsExtentsRefusal header (Unsupported what place) = (what ≡ ExtentsFork) × (place ≡ extents_at header)
IsExtentsRefusal header (Limit bound number) = (bound ≡ Image) × (number ≡ LONGEST_IMAGE) × (LONGEST_IMAGE < header.at + header.len)

-- the sorts of damage that stop the overflow records: of the fork, of the tree file, and of a record
abbrev pub IsOverflowSort : Sort → Type 0
IsOverflowSort ForkExtent = Unit {0}
IsOverflowSort ForkSum = Unit {0}
IsOverflowSort TreeHeader = Unit {0}
IsOverflowSort NodeLink = Unit {0}
IsOverflowSort NodeRecord = Unit {0}
IsOverflowSort ExtentsRecord = Unit {0}
IsOverflowSort _ = ⊥

-- the faults of reading the overflow records of a volume
abbrev pub IsOverflowRefusal : Header → ReadFault → Type 0
IsOverflowRefusal header Device = Unit {0}
IsOverflowRefusal header NoMemory = Unit {0}
IsOverflowRefusal header NotThis = ⊥
IsOverflowRefusal header (Damaged sort place) = IsOverflowSort sort
IsOverflowRefusal header (Unsupported what place) = (what ≡ ExtentsFork) × (place ≡ extents_at header)
IsOverflowRefusal header (Limit bound number) = (bound ≡ Image) × (number ≡ LONGEST_IMAGE) × (LONGEST_IMAGE < header.at + header.len)
