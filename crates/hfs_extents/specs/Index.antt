-- Where the overflow records of a file stand among those of the volume.
use Rattle.std.specs.Prelude.{◌≡◌, ℕ, ◌+◌, List, [], ◌∷◌}
use Rattle.order_defs.specs.Sorted.{sorted_by}
use Rattle.hfs_defs.specs.declared.forks.OverflowRecord.{OverflowRecord}
use Rattle.hfs_extents.specs.declared.index.Entry.{Entry}
use Rattle.hfs_extents.specs.Extents.{AreNear}

-- the entries of records, the first of which has this number
abbrev pub entries_from : ℕ → List OverflowRecord → List Entry
entries_from number [] = []
entries_from number (overflow ∷ records) = record { file = overflow.file; number = number } ∷ entries_from (number + 1) records

-- the entries of all records, by their files, those of one file in the order of the records
unfoldable pub entries_by_file : List OverflowRecord → List Entry
entries_by_file records = sorted_by (λ entry. entry.file) (entries_from 0 records)

-- the records stand at places of the longest image, and these are their entries
pub record IsKept (records : List OverflowRecord) (entries : List Entry) : Type 0 where
  pub near : AreNear records
  pub index : entries ≡ entries_by_file records
