-- The parts of a file: each $DATA is content, and each other attribute in clusters is kept beside it.
use Rattle.std.specs.Prelude.{ℕ, zero, suc, ◌+◌, ◌-◌, ◌*◌, ◌/◌, ◌%◌, ◌^◌, min, Bool, true, false, not, ◌||◌, ◌==◌, nat_lt, if◌then◌else◌, Option, Some, None, Result, Ok, Err, List, [], ◌∷◌, ◌++◌, codes}
use Rattle.std.specs.List.{filter, list_any}
use Rattle.range_defs.specs.declared.Range.{Range}
use Rattle.range_defs.specs.Places.{covers, longest_ranges}
use Rattle.image_defs.specs.Results.{in_front_of}
use Rattle.name_defs.specs.Texts.{units_text}
use Rattle.rx_ranges.specs.declared.pieces.Piece.{Piece}
use Rattle.rx_ranges.specs.declared.pieces.PieceKind.{PieceKind}
use Rattle.rx_ranges.specs.declared.pieces.PieceKind.TheVariants.{Disk, Zero}
use Rattle.rx_tree.specs.PartValue.{PartValue}
use Rattle.rx_tree.specs.declared.part.Role.{Role}
use Rattle.rx_tree.specs.declared.part.Role.TheVariants.{Content, Other}
use Rattle.ntfs_defs.specs.declared.runs.Run.{Run}
use Rattle.ntfs_record_defs.specs.Attributes.{Form, Resident, NonResident}
use Rattle.ntfs_record_defs.specs.Stored.{stored_place}
use Rattle.ntfs_volume_defs.specs.declared.boot.Boot.{Boot}
use Rattle.fault_defs.specs.declared.Sort.TheVariants.{SegmentGap, Sizes}
use Rattle.fault_defs.specs.declared.Refusal.{Refusal}
use Rattle.fault_defs.specs.declared.Refusal.TheVariants.{Damaged}
use Rattle.ntfs_volume_defs.specs.Streams.{Stream, run_place, stream_place, read_size, mapped}
use Rattle.ntfs_volume_defs.specs.Slots.{Mft, slot_place}
use Rattle.ntfs_volume_defs.specs.Segments.{Held, kind_of, name_of, is_resident, is_unreadable, attribute_place, is_of, segments_of, stream_of}
use Rattle.ntfs_volume_defs.specs.Names.{units_in}

-- ---- the longest pieces of bytes with these places

-- a byte in front of the pieces of those behind it
abbrev pub byte_in_front : ℕ → Option ℕ → List Piece → List Piece
byte_in_front from None [] = record { from = from; len = 1; kind = Zero; at = 0 } ∷ []
byte_in_front from (Some place) [] = record { from = from; len = 1; kind = Disk; at = place } ∷ []
byte_in_front from None (piece ∷ pieces) = joined piece.kind
  where
    joined : PieceKind → List Piece
    joined Zero = record { from = from; len = suc piece.len; kind = Zero; at = 0 } ∷ pieces
    joined Disk = record { from = from; len = 1; kind = Zero; at = 0 } ∷ piece ∷ pieces
byte_in_front from (Some place) (piece ∷ pieces) = joined piece.kind
  where
    alone : List Piece
    alone = record { from = from; len = 1; kind = Disk; at = place } ∷ piece ∷ pieces

    joined : PieceKind → List Piece
    joined Zero = alone
    joined Disk = if piece.at == suc place then record { from = from; len = suc piece.len; kind = Disk; at = place } ∷ pieces else alone

unfoldable pub longest_pieces : (ℕ → Option ℕ) → ℕ → ℕ → List Piece
longest_pieces place from zero = []
longest_pieces place from (suc count) = byte_in_front from (place from) (longest_pieces place (suc from) count)

abbrev pub is_on_disk : Piece → Bool
is_on_disk piece = on_disk piece.kind
  where
    on_disk : PieceKind → Bool
    on_disk Disk = true
    on_disk Zero = false

-- ---- slack

-- what a run of clusters has behind byte `limit` of the stream, where `before` bytes stand in front of it
abbrev pub run_slack : Boot → ℕ → ℕ → Run → List Range
run_slack boot limit before run = behind run.cluster
  where
    behind : Option ℕ → List Range
    behind None = []
    behind (Some first) = record {
      at = boot.at + first * boot.cluster + min (limit - before) (run.len * boot.cluster);
      len = run.len * boot.cluster - (limit - before);
    } ∷ []

unfoldable pub slack_ranges : Boot → ℕ → ℕ → List Run → List Range
slack_ranges boot limit before [] = []
slack_ranges boot limit before (run ∷ runs) = run_slack boot limit before run ++ slack_ranges boot limit (before + run.len * boot.cluster) runs

unfoldable pub stream_slack : Boot → Stream → List Range
stream_slack boot stream = longest_ranges (covers (slack_ranges boot (read_size stream) 0 stream.runs)) boot.at boot.len

-- ---- one part

abbrev pub is_content_kind : ℕ → Bool
is_content_kind kind = kind == 0x80

abbrev pub role_of : ℕ → Role
role_of kind = if is_content_kind kind then Content else Other

-- a digit, and the digits of a number in base 16, at least so many
abbrev pub hex_digit : ℕ → ℕ
hex_digit digit = if nat_lt digit 10 then 48 + digit else 55 + digit

abbrev pub hex_digits : ℕ → ℕ → List ℕ
hex_digits zero number = []
hex_digits (suc count) number = hex_digits count (number / 16) ++ hex_digit (number % 16) ∷ []

-- a type has 4 to 8 digits
abbrev pub digit_count : ℕ → ℕ
digit_count kind =
    if nat_lt kind (16 ^ 4) then 4 else (if nat_lt kind (16 ^ 5) then 5 else (if nat_lt kind (16 ^ 6) then 6 else (if nat_lt kind (16 ^ 7) then 7 else 8)))

-- an attribute that is no content is named by its type, and behind a colon by its name, if it has one
abbrev pub other_name : ℕ → List ℕ → List ℕ
other_name kind [] = hex_digits (digit_count kind) kind
other_name kind (byte ∷ bytes) = hex_digits (digit_count kind) kind ++ codes ":" ++ units_text (units_in 0 (byte ∷ bytes))

abbrev pub part_name : ℕ → List ℕ → List ℕ
part_name kind name = if is_content_kind kind then units_text (units_in 0 name) else other_name kind name

-- a resident $DATA
abbrev pub resident_part : Mft → Held → Range → PartValue
resident_part mft held content = record {
  role = Content;
  name = part_name (kind_of held) (name_of held);
  size = content.len;
  pieces = longest_pieces (λ i. slot_place mft held.slot (stored_place held.array (content.at + i))) 0 content.len;
  slack = [];
  unreadable = is_unreadable held;
}

abbrev pub readable_part : Mft → Held → Stream → PartValue
readable_part mft first stream = record {
  role = role_of (kind_of first);
  name = part_name (kind_of first) (name_of first);
  size = stream.real;
  pieces = longest_pieces (stream_place mft.boot stream) 0 stream.real;
  slack = stream_slack mft.boot stream;
  unreadable = false;
}

-- of an unreadable part the pieces are the disk runs of its run lists
abbrev pub unreadable_part : Mft → Held → Stream → Result PartValue Refusal
unreadable_part mft first stream =
    if nat_lt (2 ^ 62) (mapped mft.boot stream.runs) then Err (Damaged Sizes (attribute_place mft first))
    else Ok (record {
      role = role_of (kind_of first);
      name = part_name (kind_of first) (name_of first);
      size = stream.real;
      pieces = filter is_on_disk (longest_pieces (run_place mft.boot stream.runs) 0 (mapped mft.boot stream.runs));
      slack = [];
      unreadable = true;
    })

abbrev pub stream_part : Mft → Held → Bool → Result Stream Refusal → Result PartValue Refusal
stream_part mft first unreadable (Err refusal) = Err refusal
stream_part mft first true (Ok stream) = unreadable_part mft first stream
stream_part mft first false (Ok stream) = Ok (readable_part mft first stream)

abbrev pub part_by : Mft → Held → List Held → Form → Result PartValue Refusal
part_by mft first [] (Resident content) = Ok (resident_part mft first content)
part_by mft first (held ∷ more) (Resident content) = Err (Damaged SegmentGap (attribute_place mft first))
part_by mft first more (NonResident header) = stream_part mft first (list_any is_unreadable (first ∷ more)) (stream_of mft first more)

abbrev pub part_of : Mft → List Held → Result PartValue Refusal
part_of mft [] = Ok (record { role = Other; name = []; size = 0; pieces = []; slack = []; unreadable = false })
part_of mft (first ∷ more) = part_by mft first more first.opened.attribute.form

-- ---- the parts

abbrev pub is_part : Held → Bool
is_part held = is_content_kind (kind_of held) || not (is_resident held)

-- the first attribute of each type and name
abbrev pub leaders : List Held → List Held
leaders [] = []
leaders (held ∷ more) = held ∷ filter (λ other. not (is_of (kind_of held) (name_of held) other)) (leaders more)

abbrev pub parts_led_by : Mft → List Held → List Held → Result (List PartValue) Refusal
parts_led_by mft attributes [] = Ok []
parts_led_by mft attributes (held ∷ more) = in_front_of (part_of mft (segments_of (kind_of held) (name_of held) attributes)) (parts_led_by mft attributes more)

-- in the order of their first attributes
unfoldable pub parts_of : Mft → List Held → Result (List PartValue) Refusal
parts_of mft attributes = parts_led_by mft (filter is_part attributes) (leaders (filter is_part attributes))
