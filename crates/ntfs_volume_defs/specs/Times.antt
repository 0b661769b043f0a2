-- The times of a file ($STANDARD_INFORMATION), each a FILETIME: when it was made, when its content was modified, when its record
-- was changed, and when it was last read.
use Rattle.std.specs.Prelude.{ℕ, ◌&&◌, ◌==◌, nat_le, if◌then◌else◌, Option, Some, None, List, length, find}
use Rattle.bytes_defs.specs.Numbers.{little_at}
use Rattle.rx_time.specs.Moments.{filetime_moment}
use Rattle.rx_tree.specs.declared.times.Times.{Times}
use Rattle.rx_tree.specs.declared.times.TheConstants.{NO_TIMES}
use Rattle.ntfs_volume_defs.specs.Segments.{Held, kind_of, is_resident}

abbrev pub written_times : List ℕ → Times
written_times bytes = record {
  modified = Some (filetime_moment (little_at 8 bytes 8));
  changed = Some (filetime_moment (little_at 8 bytes 16));
  accessed = Some (filetime_moment (little_at 8 bytes 24));
  created = Some (filetime_moment (little_at 8 bytes 0));
}

-- the times that an attribute says: none where it stands in clusters or is too short for all four
abbrev pub times_in : Option Held → Times
times_in None = NO_TIMES
times_in (Some held) = if is_resident held && nat_le 32 (length held.opened.body) then written_times held.opened.body else NO_TIMES

-- the first attribute of that type counts
abbrev pub times_of : List Held → Times
times_of attributes = times_in (find (λ held. kind_of held == 0x10) attributes)
