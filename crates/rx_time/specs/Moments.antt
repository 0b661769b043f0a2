-- The moments that the file systems write: seconds from 1970-01-01 UTC on, rounded down.
use Rattle.std.specs.Prelude.{ℕ, ℤ, pos, ◌-ℤ◌, ◌/◌, ◌==◌, if◌then◌else◌, Option, Some, None}
use Rattle.rx_time.specs.declared.Moment.{Moment}

-- a FILETIME counts 100 ns from 1601-01-01 on: 11644473600 seconds lead on to 1970-01-01
abbrev pub filetime_moment : ℕ → Moment
filetime_moment ticks = record { seconds = pos (ticks / 10000000) -ℤ pos 11644473600 }

-- UFS counts seconds from 1970-01-01 on
abbrev pub unix_moment : ℤ → Moment
unix_moment seconds = record { seconds = seconds }

-- HFS+ counts seconds from 1904-01-01 on: 2082844800 lead on to 1970-01-01, and 0 is no moment
abbrev pub hfs_moment : ℕ → Option Moment
hfs_moment seconds = if seconds == 0 then None else Some (record { seconds = pos seconds -ℤ pos 2082844800 })
