-- The records of the extents overflow file: TN1150, "Extents Overflow File".
use Rattle.std.specs.Prelude.{ℕ, Bool, ◌&&◌, ◌==◌, nat_le, if◌then◌else◌, Option, Some, None, Result, Ok, Err, List, length, slice_index}
use Rattle.bytes_defs.specs.Numbers.{big_at}
use Rattle.image_defs.specs.Results.{each_result}
use Rattle.hfs_defs.specs.Header.{extents_of}
use Rattle.hfs_defs.specs.Leaves.{Leaf, LeafList}
use Rattle.fault_defs.specs.declared.Refusal.{Refusal}
use Rattle.fault_defs.specs.declared.Refusal.TheVariants.{Damaged}
use Rattle.fault_defs.specs.declared.Sort.TheVariants.{ExtentsRecord}
use Rattle.hfs_defs.specs.declared.forks.OverflowRecord.{OverflowRecord}

-- a key of ten bytes, and a body of eight extents
unfoldable pub is_overflow_record : List ℕ → Bool
is_overflow_record bytes = big_at 2 bytes 0 == 10 && nat_le 76 (length bytes)

abbrev pub overflow_of : Leaf → OverflowRecord
overflow_of leaf = record {
  file = big_at 4 leaf.bytes 4;
  fork_type = slice_index leaf.bytes 2;
  start = big_at 4 leaf.bytes 8;
  extents = extents_of leaf.bytes 12;
  at = leaf.at;
}

unfoldable pub checked_overflow : Leaf → Result OverflowRecord Refusal
checked_overflow leaf = if is_overflow_record leaf.bytes then Ok (overflow_of leaf) else Err (Damaged ExtentsRecord leaf.at)

-- values of the records in front of what stops them: what stops them comes behind each fault of theirs
abbrev pub then_stop : {X : Type 0} → Option Refusal → Result X Refusal → Result X Refusal
then_stop None result = result
then_stop (Some fault) (Ok x) = Err fault
then_stop (Some fault) (Err e) = Err e

-- the values of leaf records, or the first fault on the way
abbrev pub each_leaf : {X : Type 0} → (Leaf → Result X Refusal) → LeafList → Result (List X) Refusal
each_leaf value leaves = then_stop leaves.stop (each_result value leaves.records)

-- the overflow records of a volume
abbrev pub overflow_records : LeafList → Result (List OverflowRecord) Refusal
overflow_records leaves = each_leaf checked_overflow leaves
