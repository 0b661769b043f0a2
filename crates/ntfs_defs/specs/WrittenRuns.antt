-- Run lists as their bytes say them. The low half of a header byte is the number of length bytes that follow it, and
-- the high half is the number of offset bytes that follow those. The length is unsigned, and the offset is signed, both
-- with the lowest byte first. A run without offset bytes is a hole. A header of 0 ends the list.
use Rattle.std.specs.Prelude.{ℕ, zero, suc, ◌+◌, ◌-◌, ◌%◌, ◌/◌, ℤ, ◌||◌, ◌==◌, nat_lt, nat_le, if◌then◌else◌, Option, Some, None, Result, Ok, Err, List, [], ◌∷◌, length, slice_index}
use Rattle.byteorder.specs.Endian.{twos_complement}
use Rattle.bytes_defs.specs.Numbers.{little_at}
use Rattle.ntfs_defs.specs.declared.runs.WrittenRun.{WrittenRun}
use Rattle.ntfs_defs.specs.declared.fault.RunFault.{RunFault}
use Rattle.ntfs_defs.specs.declared.fault.RunFault.TheVariants.{TooLong, Short}

-- how many length bytes and how many offset bytes follow a header byte
abbrev pub length_bytes : ℕ → ℕ
length_bytes header = header % 16

abbrev pub offset_bytes : ℕ → ℕ
offset_bytes header = header / 16

-- the offset in a number of bytes from a place on: none where there are no bytes
unfoldable pub offset_at : List ℕ → ℕ → ℕ → Option ℤ
offset_at bytes at count = if count == 0 then None else Some (twos_complement count (little_at count bytes at))

-- the run whose header byte stands at a place
unfoldable pub run_with : List ℕ → ℕ → ℕ → WrittenRun
run_with bytes at header = record {
  at = at;
  next = at + 1 + length_bytes header + offset_bytes header;
  len = little_at (length_bytes header) bytes (at + 1);
  offset = offset_at bytes (at + 1 + length_bytes header) (offset_bytes header);
}

-- what a header byte at a place begins: nothing where it ends the list
unfoldable pub run_behind : List ℕ → ℕ → ℕ → Result (Option WrittenRun) RunFault
run_behind bytes at header =
    if header == 0 then Ok None
    else (if nat_lt 8 (length_bytes header) || nat_lt 8 (offset_bytes header) then Err (TooLong at)
    else (if nat_lt (length bytes) (at + 1 + length_bytes header + offset_bytes header) then Err (Short at)
    else Ok (Some (run_with bytes at header))))

-- what begins at a place
unfoldable pub run_at : List ℕ → ℕ → Result (Option WrittenRun) RunFault
run_at bytes at = if nat_le (length bytes) at then Err (Short at) else run_behind bytes at (slice_index bytes at)

-- the runs that the bytes say one after another, and what is wrong with the bytes behind them: nothing where the list
-- ends there
pub record RunList : Type 0 where
  pub runs : List WrittenRun
  pub damage : Option RunFault

-- a run list from what begins it and from the lists behind it, by their place
abbrev pub list_with : Result (Option WrittenRun) RunFault → (ℕ → RunList) → RunList
list_with (Ok (Some run)) behind = record { runs = run ∷ (behind run.next).runs; damage = (behind run.next).damage }
list_with (Ok None) behind = record { runs = []; damage = None }
list_with (Err damage) behind = record { runs = []; damage = Some damage }

-- the run list from a place on, as far as a number of runs goes
unfoldable pub list_within : ℕ → List ℕ → ℕ → RunList
list_within zero bytes at = record { runs = []; damage = Some (Short at) }
list_within (suc count) bytes at = list_with (run_at bytes at) (list_within count bytes)

-- the run list from a place on: it has at most as many runs as bytes
unfoldable pub list_from : List ℕ → ℕ → RunList
list_from bytes at = list_within (length bytes - at) bytes at

abbrev pub run_list : List ℕ → RunList
run_list bytes = list_from bytes 0
