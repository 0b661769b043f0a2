-- The $DATA of $MFT, which is found through itself: an extension record has to lie in what the segments in front of it map.
use Rattle.std.specs.Prelude.{ℕ, ◌+◌, ◌*◌, Bool, true, false, ◌&&◌, ◌||◌, ◌==◌, nat_le, if◌then◌else◌, Option, Some, None, Result, Ok, Err, List, [], ◌∷◌, ◌++◌}
use Rattle.std.specs.List.{filter}
use Rattle.std.specs.Option.{ok_or}
use Rattle.image_defs.specs.Ask.{Ask, Done, Stop, check, given, ◌>>=◌, ◌>>◌}
use Rattle.image_defs.specs.Results.{with_value}
use Rattle.ntfs_defs.specs.declared.runs.Run.{Run}
use Rattle.ntfs_record_defs.specs.Record.{FileRecord}
use Rattle.ntfs_volume_defs.specs.declared.boot.Boot.{Boot}
use Rattle.fault_defs.specs.declared.Sort.TheVariants.{MftMap}
use Rattle.fault_defs.specs.declared.Bound.TheVariants.{Slots}
use Rattle.fault_defs.specs.declared.Refusal.{Refusal}
use Rattle.fault_defs.specs.declared.Refusal.TheVariants.{Damaged, Limit}
use Rattle.ntfs_volume_defs.specs.Streams.{Stream, mapped}
use Rattle.ntfs_volume_defs.specs.Slots.{Mft, Slot, Empty, Unused, Used, slots, first_slot_at, slot_of}
use Rattle.ntfs_volume_defs.specs.Segments.{Held, is_resident, is_unreadable, clusters_in, segment_runs, stream_of, segments_of}
use Rattle.ntfs_volume_defs.specs.Lists.{Entry, ListContent, attributes_in, list_of, list_content, entries_of, named_in, named_attribute}

abbrev pub no_map : Boot → Refusal
no_map boot = Damaged MftMap (first_slot_at boot)

-- a volume of which slot 0 alone is known
abbrev pub first_slot_alone : Boot → Mft
first_slot_alone boot = record { boot = boot; content = record { runs = []; real = 0; initialised = 0 } }

abbrev pub with_content : Boot → Result Stream Refusal → Result Mft Refusal
with_content boot content = with_value (λ stream. record { boot = boot; content = stream }) content

-- a segment that doesn't map: its content is resident, compressed or encrypted
abbrev pub is_no_map : Held → Bool
is_no_map held = is_resident held || is_unreadable held

-- the volume of which these runs of $MFT are known besides
abbrev pub with_runs : Mft → Result (List Run) Refusal → Result Mft Refusal
with_runs mft runs = with_value (λ runs. record mft { content = record mft.content { runs = mft.content.runs ++ runs } }) runs

-- the volume behind one more segment of $MFT: the first one has the sizes
abbrev pub with_segment : Boot → Option Mft → Held → Result Mft Refusal
with_segment boot None held =
    if is_no_map held then Err (no_map boot) else with_content boot (stream_of (first_slot_alone boot) held [])
with_segment boot (Some mft) held =
    if is_no_map held then Err (no_map boot)
    else with_runs mft (segment_runs mft (clusters_in mft.content.runs) held held.opened.attribute.form)

abbrev pub and_then_segments : Result Mft Refusal → (Mft → Result (Option Mft) Refusal) → Result (Option Mft) Refusal
and_then_segments (Ok mft) behind = behind mft
and_then_segments (Err refusal) behind = Err refusal

abbrev pub with_segments : Boot → Option Mft → List Held → Result (Option Mft) Refusal
with_segments boot known [] = Ok known
with_segments boot known (held ∷ more) = and_then_segments (with_segment boot known held) (λ mft. with_segments boot (Some mft) more)

-- the base record in slot 0
abbrev pub first_base : Boot → Slot → Result FileRecord Refusal
first_base boot Empty = Err (no_map boot)
first_base boot Unused = Err (no_map boot)
first_base boot (Used found) = if found.header.base == 0 then Ok found else Err (no_map boot)

-- an entry of the list of $MFT for its $DATA
abbrev pub is_for_content : Entry → Bool
is_for_content entry = entry.kind == 0x80 && is_nameless entry.name
  where
    is_nameless : List ℕ → Bool
    is_nameless [] = true
    is_nameless (byte ∷ bytes) = false

-- the segment that an entry names: it is in slot 0, or in a slot that the segments in front of it map
abbrev pub segment_in : Boot → FileRecord → Option Mft → Entry → Bool → Ask Refusal Held
segment_in boot base known entry true = given (named_in entry (attributes_in 0 base))
segment_in boot base None entry false = Stop (no_map boot)
segment_in boot base (Some mft) entry false =
    check (nat_le ((entry.number + 1) * boot.record_size) (mapped boot mft.content.runs)) (no_map boot) >> named_attribute mft 0 base entry

abbrev pub next_segment : Boot → FileRecord → Option Mft → Entry → Ask Refusal Held
next_segment boot base known entry = segment_in boot base known entry (entry.number == 0)

-- the volume behind the segments that entries name
unfoldable pub segments_behind : Boot → FileRecord → Option Mft → List Entry → Ask Refusal (Option Mft)
segments_behind boot base known [] = Done known
segments_behind boot base known (entry ∷ entries) = do
  held ← next_segment boot base known entry
  mft ← given (with_segment boot known held)
  segments_behind boot base (Some mft) entries

abbrev pub mft_entries : Boot → FileRecord → Held → ListContent → Ask Refusal (Option Mft)
mft_entries boot base list content =
    given (entries_of (first_slot_alone boot) list content) >>= (λ entries. segments_behind boot base None (filter is_for_content entries))

abbrev pub all_segments : Boot → FileRecord → Option Held → Ask Refusal (Option Mft)
all_segments boot base None = given (with_segments boot None (segments_of 0x80 [] (attributes_in 0 base)))
all_segments boot base (Some list) = list_content (first_slot_alone boot) list >>= mft_entries boot base list

-- the volume whose $MFT has its segments
abbrev pub known_mft : Boot → Option Mft → Ask Refusal Mft
known_mft boot known = do
  mft ← given (ok_or known (no_map boot))
  check (nat_le (slots mft) 4000000) (Limit Slots 4000000)
  Done mft

abbrev pub mft_with : Boot → FileRecord → Ask Refusal Mft
mft_with boot base = all_segments boot base (list_of (attributes_in 0 base)) >>= known_mft boot

abbrev pub mft_behind : Boot → Slot → Ask Refusal Mft
mft_behind boot slot = given (first_base boot slot) >>= mft_with boot

-- $MFT
unfoldable pub mft_of : Boot → Ask Refusal Mft
mft_of boot = do
  check (nat_le (first_slot_at boot + boot.record_size) (boot.at + boot.len)) (no_map boot)
  slot ← slot_of (first_slot_alone boot) 0
  mft_behind boot slot
