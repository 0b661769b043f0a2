-- Attributes of a file, each with the slot that holds it, and the streams that they are segments of.
use Rattle.std.specs.Prelude.{ℕ, ◌+◌, ◌%◌, ◌^◌, Bool, not, ◌&&◌, ◌||◌, ◌==◌, nat_lt, bit_and, if◌then◌else◌, Result, Ok, Err, List, [], ◌∷◌, ◌++◌, sum_by}
use Rattle.std.specs.List.{filter}
use Rattle.std.specs.Str.{bytes_eq}
use Rattle.ntfs_defs.specs.declared.runs.Run.{Run}
use Rattle.ntfs_defs.specs.declared.fault.RunFault.{RunFault}
use Rattle.ntfs_defs.specs.declared.fault.RunFault.TheVariants.{TooLong, Short, ZeroRun, Negative, Outside, NoMemory}
use Rattle.ntfs_defs.specs.DecodedRuns.{decoded_runs}
use Rattle.ntfs_record_defs.specs.Attributes.{Stream as StreamHeader, Form, Resident, NonResident, Opened, is_resident_form}
use Rattle.fault_defs.specs.declared.Sort.TheVariants.{RunList, RunCount, SegmentGap, Sizes}
use Rattle.fault_defs.specs.declared.Refusal.{Refusal}
use Rattle.fault_defs.specs.declared.Refusal.TheVariants.{Damaged}
use Rattle.ntfs_volume_defs.specs.Streams.{Stream}
use Rattle.ntfs_volume_defs.specs.Slots.{Mft, record_place}

-- an attribute, the slot that holds it, and where the array of that slot's record stands
pub record Held : Type 0 where
  pub slot : ℕ
  pub array : ℕ
  pub opened : Opened

abbrev pub kind_of : Held → ℕ
kind_of held = held.opened.attribute.kind

abbrev pub name_of : Held → List ℕ
name_of held = held.opened.name

abbrev pub is_resident : Held → Bool
is_resident held = is_resident_form held.opened.attribute.form

-- the place in the image of a byte of the record
abbrev pub place_in : Mft → Held → ℕ → ℕ
place_in mft held i = record_place mft held.slot held.array i

abbrev pub attribute_place : Mft → Held → ℕ
attribute_place mft held = place_in mft held held.opened.attribute.at

-- compressed by any of the low eight bits, and encrypted by 0x4000
abbrev pub is_unreadable : Held → Bool
is_unreadable held = not (bit_and held.opened.attribute.flags 0x40FF == 0)

-- ---- one segment

-- the byte of a run list at which it is wrong; want of memory, which no run list gives, has none
abbrev pub damaged_at : RunFault → ℕ
damaged_at (TooLong at) = at
damaged_at (Short at) = at
damaged_at (ZeroRun at) = at
damaged_at (Negative at) = at
damaged_at (Outside at cluster) = at
damaged_at NoMemory = 0

abbrev pub clusters_in : List Run → ℕ
clusters_in runs = sum_by (λ run. run.len) runs

-- the runs of a list, which have as many clusters as the header counts, modulo 2^64
abbrev pub counted_runs : Mft → Held → StreamHeader → Result (List Run) RunFault → Result (List Run) Refusal
counted_runs mft held header (Err damage) = Err (Damaged RunList (place_in mft held (header.runs.at + damaged_at damage)))
counted_runs mft held header (Ok runs) =
    if (header.first + clusters_in runs) % 2 ^ 64 == (header.last + 1) % 2 ^ 64 then Ok runs else Err (Damaged RunCount (attribute_place mft held))

-- the runs of a segment that begins behind `before` clusters
abbrev pub segment_runs : Mft → ℕ → Held → Form → Result (List Run) Refusal
segment_runs mft before held (Resident content) = Err (Damaged SegmentGap (attribute_place mft held))
segment_runs mft before held (NonResident header) =
    if header.first == before
    then counted_runs mft held header (decoded_runs mft.boot.clusters held.opened.body)
    else Err (Damaged SegmentGap (attribute_place mft held))

-- ---- the segments of a stream

-- the runs so far, with those of the segments that follow
abbrev pub and_then_runs : Result (List Run) Refusal → (List Run → Result (List Run) Refusal) → Result (List Run) Refusal
and_then_runs (Ok runs) next = next runs
and_then_runs (Err refusal) next = Err refusal

abbrev pub segments_runs : Mft → List Run → List Held → Result (List Run) Refusal
segments_runs mft front [] = Ok front
segments_runs mft front (held ∷ more) =
    and_then_runs (segment_runs mft (clusters_in front) held held.opened.attribute.form) (λ runs. segments_runs mft (front ++ runs) more)

-- a stream of clusters has the sizes of its first segment, which are at most 2^62
abbrev pub sized_stream : Mft → Held → StreamHeader → Result (List Run) Refusal → Result Stream Refusal
sized_stream mft first header (Err refusal) = Err refusal
sized_stream mft first header (Ok runs) =
    if nat_lt (2 ^ 62) header.real || nat_lt (2 ^ 62) header.initialised
    then Err (Damaged Sizes (attribute_place mft first))
    else Ok (record { runs = runs; real = header.real; initialised = header.initialised })

abbrev pub stream_by : Mft → Held → List Held → Form → Result Stream Refusal
stream_by mft first more (Resident content) = Err (Damaged SegmentGap (attribute_place mft first))
stream_by mft first more (NonResident header) = sized_stream mft first header (segments_runs mft [] (first ∷ more))

-- the stream of which these are the segments, in order
abbrev pub stream_of : Mft → Held → List Held → Result Stream Refusal
stream_of mft first more = stream_by mft first more first.opened.attribute.form

-- the attributes of one type and name
abbrev pub is_of : ℕ → List ℕ → Held → Bool
is_of kind name held = kind_of held == kind && bytes_eq (name_of held) name

abbrev pub segments_of : ℕ → List ℕ → List Held → List Held
segments_of kind name attributes = filter (is_of kind name) attributes
