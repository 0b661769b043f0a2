-- What the definitions say of a small volume, worked out by hand.
use Rattle.std.specs.Prelude.{◌≡◌, ℕ, Some, None, Ok, Option, List, [], ◌∷◌, ◌++◌, length, map, replicate, refl}
use Rattle.std.specs.Int.Count.{ones}
use Rattle.range_defs.specs.Places.{longest_ranges}
use Rattle.bytes_defs.specs.Bytes.{part}
use Rattle.image_defs.specs.Ask.{result_of}
use Rattle.image_defs.specs.Results.{with_value}
use Rattle.image_defs.specs.Via.{via, look_bytes}
use Rattle.bytes_defs.specs.Numbers.{number_at, signed_at}
use Rattle.rx_ranges.specs.declared.pieces.Piece.{Piece}
use Rattle.rx_ranges.specs.declared.pieces.PieceKind.TheVariants.{Disk, Zero}
use Rattle.ntfs_defs.specs.WrittenRuns.{list_from, list_within, run_at, run_behind, run_with, offset_at}
use Rattle.ntfs_defs.specs.DecodedRuns.{checked_run, begin_of}
use Rattle.ntfs_record_defs.specs.Stored.{stored_place}
use Rattle.ntfs_record_defs.specs.Attributes.{attributes_within, is_length, is_layout}
use Rattle.ntfs_record_defs.specs.Record.{header_of, record_behind}
use Rattle.ntfs_volume_defs.specs.declared.boot.Boot.{Boot}
use Rattle.ntfs_volume_defs.specs.Boot.{boot_of, boot_at}
use Rattle.ntfs_volume_defs.specs.Streams.{run_place, stream_place}
use Rattle.ntfs_volume_defs.specs.Slots.{Mft, slot_place, is_whole, stored_slot, slot_of}
use Rattle.ntfs_volume_defs.specs.Lists.{entries_within, is_entry, named_attribute}
use Rattle.ntfs_volume_defs.specs.Mft.{segments_behind, mft_of}
use Rattle.ntfs_volume_defs.specs.Names.{is_file_name}
use Rattle.ntfs_volume_defs.specs.Parts.{longest_pieces, slack_ranges, stream_slack, parts_of}
use Rattle.ntfs_volume_defs.specs.Files.{FoundFile, file_of}

unfoldable pub image : List ℕ
image = (0 ∷ 0 ∷ 0 ∷ 78 ∷ 84 ∷ 70 ∷ 83 ∷ 32 ∷ 32 ∷ 32 ∷ 32 ∷ 0 ∷ 2 ∷ 1 ∷ []) ++ replicate 26 0 ++ (14 ∷ []) ++ replicate 7 0 ++ (1 ∷ []) ++ replicate 15 0 ++ (246 ∷ []) ++ replicate 445 0 ++ (85 ∷ 170 ∷ 70 ∷ 73 ∷ 76 ∷ 69 ∷ 48 ∷ 0 ∷ 3 ∷ []) ++ replicate 9 0 ++ (1 ∷ 0 ∷ 1 ∷ 0 ∷ 56 ∷ 0 ∷ 1 ∷ 0 ∷ 240 ∷ 0 ∷ 0 ∷ 0 ∷ 0 ∷ 4 ∷ []) ++ replicate 18 0 ++ (170 ∷ 187 ∷ []) ++ replicate 6 0 ++ (48 ∷ 0 ∷ 0 ∷ 0 ∷ 104 ∷ []) ++ replicate 9 0 ++ (1 ∷ 0 ∷ 74 ∷ 0 ∷ 0 ∷ 0 ∷ 24 ∷ 0 ∷ 0 ∷ 0 ∷ 5 ∷ 0 ∷ 0 ∷ 0 ∷ 0 ∷ 0 ∷ 5 ∷ []) ++ replicate 57 0 ++ (4 ∷ 1 ∷ 36 ∷ 0 ∷ 77 ∷ 0 ∷ 70 ∷ 0 ∷ 84 ∷ []) ++ replicate 7 0 ++ (128 ∷ 0 ∷ 0 ∷ 0 ∷ 72 ∷ 0 ∷ 0 ∷ 0 ∷ 1 ∷ 0 ∷ 0 ∷ 0 ∷ 0 ∷ 0 ∷ 2 ∷ []) ++ replicate 9 0 ++ (11 ∷ []) ++ replicate 7 0 ++ (64 ∷ []) ++ replicate 8 0 ++ (24 ∷ []) ++ replicate 7 0 ++ (24 ∷ []) ++ replicate 7 0 ++ (24 ∷ []) ++ replicate 6 0 ++ (17 ∷ 12 ∷ 1 ∷ 0 ∷ 0 ∷ 0 ∷ 0 ∷ 0 ∷ 255 ∷ 255 ∷ 255 ∷ 255 ∷ []) ++ replicate 274 0 ++ (170 ∷ 187 ∷ []) ++ replicate 510 0 ++ (170 ∷ 187 ∷ 70 ∷ 73 ∷ 76 ∷ 69 ∷ 48 ∷ 0 ∷ 3 ∷ []) ++ replicate 9 0 ++ (7 ∷ 0 ∷ 1 ∷ 0 ∷ 56 ∷ 0 ∷ 1 ∷ 0 ∷ 112 ∷ 2 ∷ 0 ∷ 0 ∷ 0 ∷ 4 ∷ []) ++ replicate 18 0 ++ (170 ∷ 187 ∷ 70 ∷ 71 ∷ 0 ∷ 0 ∷ 0 ∷ 0 ∷ 48 ∷ 0 ∷ 0 ∷ 0 ∷ 96 ∷ []) ++ replicate 9 0 ++ (1 ∷ 0 ∷ 68 ∷ 0 ∷ 0 ∷ 0 ∷ 24 ∷ 0 ∷ 0 ∷ 0 ∷ 5 ∷ 0 ∷ 0 ∷ 0 ∷ 0 ∷ 0 ∷ 5 ∷ []) ++ replicate 57 0 ++ (1 ∷ 1 ∷ 120 ∷ 0 ∷ 0 ∷ 0 ∷ 0 ∷ 0 ∷ 128 ∷ 0 ∷ 0 ∷ 0 ∷ 168 ∷ 1 ∷ []) ++ replicate 8 0 ++ (2 ∷ 0 ∷ 144 ∷ 1 ∷ 0 ∷ 0 ∷ 24 ∷ 0 ∷ 0 ∷ 0 ∷ 65 ∷ 66 ∷ 67 ∷ 68 ∷ 69 ∷ 70 ∷ 71 ∷ 65 ∷ 66 ∷ 67 ∷ 68 ∷ 69 ∷ 70 ∷ 71 ∷ 65 ∷ 66 ∷ 67 ∷ 68 ∷ 69 ∷ 70 ∷ 71 ∷ 65 ∷ 66 ∷ 67 ∷ 68 ∷ 69 ∷ 70 ∷ 71 ∷ 65 ∷ 66 ∷ 67 ∷ 68 ∷ 69 ∷ 70 ∷ 71 ∷ 65 ∷ 66 ∷ 67 ∷ 68 ∷ 69 ∷ 70 ∷ 71 ∷ 65 ∷ 66 ∷ 67 ∷ 68 ∷ 69 ∷ 70 ∷ 71 ∷ 65 ∷ 66 ∷ 67 ∷ 68 ∷ 69 ∷ 70 ∷ 71 ∷ 65 ∷ 66 ∷ 67 ∷ 68 ∷ 69 ∷ 70 ∷ 71 ∷ 65 ∷ 66 ∷ 67 ∷ 68 ∷ 69 ∷ 70 ∷ 71 ∷ 65 ∷ 66 ∷ 67 ∷ 68 ∷ 69 ∷ 70 ∷ 71 ∷ 65 ∷ 66 ∷ 67 ∷ 68 ∷ 69 ∷ 70 ∷ 71 ∷ 65 ∷ 66 ∷ 67 ∷ 68 ∷ 69 ∷ 70 ∷ 71 ∷ 65 ∷ 66 ∷ 67 ∷ 68 ∷ 69 ∷ 70 ∷ 71 ∷ 65 ∷ 66 ∷ 67 ∷ 68 ∷ 69 ∷ 70 ∷ 71 ∷ 65 ∷ 66 ∷ 67 ∷ 68 ∷ 69 ∷ 70 ∷ 71 ∷ 65 ∷ 66 ∷ 67 ∷ 68 ∷ 69 ∷ 70 ∷ 71 ∷ 65 ∷ 66 ∷ 67 ∷ 68 ∷ 69 ∷ 70 ∷ 71 ∷ 65 ∷ 66 ∷ 67 ∷ 68 ∷ 69 ∷ 70 ∷ 71 ∷ 65 ∷ 66 ∷ 67 ∷ 68 ∷ 69 ∷ 70 ∷ 71 ∷ 65 ∷ 66 ∷ 67 ∷ 68 ∷ 69 ∷ 70 ∷ 71 ∷ 65 ∷ 66 ∷ 67 ∷ 68 ∷ 69 ∷ 70 ∷ 71 ∷ 65 ∷ 66 ∷ 67 ∷ 68 ∷ 69 ∷ 70 ∷ 71 ∷ 65 ∷ 66 ∷ 67 ∷ 68 ∷ 69 ∷ 70 ∷ 71 ∷ 65 ∷ 66 ∷ 67 ∷ 68 ∷ 69 ∷ 70 ∷ 71 ∷ 65 ∷ 66 ∷ 67 ∷ 68 ∷ 69 ∷ 70 ∷ 71 ∷ 65 ∷ 66 ∷ 67 ∷ 68 ∷ 69 ∷ 70 ∷ 71 ∷ 65 ∷ 66 ∷ 67 ∷ 68 ∷ 69 ∷ 70 ∷ 71 ∷ 65 ∷ 66 ∷ 67 ∷ 68 ∷ 69 ∷ 70 ∷ 71 ∷ 65 ∷ 66 ∷ 67 ∷ 68 ∷ 69 ∷ 70 ∷ 71 ∷ 65 ∷ 66 ∷ 67 ∷ 68 ∷ 69 ∷ 70 ∷ 71 ∷ 65 ∷ 66 ∷ 67 ∷ 68 ∷ 69 ∷ 70 ∷ 71 ∷ 65 ∷ 66 ∷ 67 ∷ 68 ∷ 69 ∷ 70 ∷ 71 ∷ 65 ∷ 66 ∷ 67 ∷ 68 ∷ 69 ∷ 70 ∷ 71 ∷ 65 ∷ 66 ∷ 67 ∷ 68 ∷ 69 ∷ 70 ∷ 71 ∷ 65 ∷ 66 ∷ 67 ∷ 68 ∷ 69 ∷ 70 ∷ 71 ∷ 65 ∷ 66 ∷ 67 ∷ 68 ∷ 69 ∷ 70 ∷ 71 ∷ 65 ∷ 66 ∷ 67 ∷ 68 ∷ 69 ∷ 70 ∷ 71 ∷ 65 ∷ 66 ∷ 67 ∷ 68 ∷ 69 ∷ 70 ∷ 71 ∷ 65 ∷ 66 ∷ 67 ∷ 68 ∷ 69 ∷ 70 ∷ 71 ∷ 65 ∷ 66 ∷ 67 ∷ 68 ∷ 69 ∷ 70 ∷ 71 ∷ 65 ∷ 66 ∷ 67 ∷ 68 ∷ 69 ∷ 70 ∷ 71 ∷ 65 ∷ 66 ∷ 67 ∷ 68 ∷ 69 ∷ 70 ∷ 71 ∷ 65 ∷ 66 ∷ 67 ∷ 68 ∷ 69 ∷ 70 ∷ 71 ∷ 65 ∷ 66 ∷ 67 ∷ 68 ∷ 69 ∷ 70 ∷ 71 ∷ 65 ∷ 66 ∷ 67 ∷ 68 ∷ 69 ∷ 70 ∷ 71 ∷ 65 ∷ 66 ∷ 67 ∷ 68 ∷ 69 ∷ 70 ∷ 71 ∷ 65 ∷ 66 ∷ 67 ∷ 68 ∷ 69 ∷ 170 ∷ 187 ∷ 65 ∷ 66 ∷ 67 ∷ 68 ∷ 69 ∷ 70 ∷ 71 ∷ 65 ∷ 66 ∷ 67 ∷ 68 ∷ 69 ∷ 70 ∷ 71 ∷ 65 ∷ 66 ∷ 67 ∷ 68 ∷ 69 ∷ 70 ∷ 71 ∷ 65 ∷ 66 ∷ 67 ∷ 68 ∷ 69 ∷ 70 ∷ 71 ∷ 65 ∷ 66 ∷ 67 ∷ 68 ∷ 69 ∷ 70 ∷ 71 ∷ 65 ∷ 66 ∷ 67 ∷ 68 ∷ 69 ∷ 70 ∷ 71 ∷ 65 ∷ 66 ∷ 67 ∷ 68 ∷ 69 ∷ 70 ∷ 71 ∷ 65 ∷ 66 ∷ 67 ∷ 68 ∷ 69 ∷ 70 ∷ 71 ∷ 65 ∷ 66 ∷ 67 ∷ 68 ∷ 69 ∷ 70 ∷ 71 ∷ 65 ∷ 128 ∷ 0 ∷ 0 ∷ 0 ∷ 40 ∷ 0 ∷ 0 ∷ 0 ∷ 0 ∷ 1 ∷ 24 ∷ 0 ∷ 0 ∷ 0 ∷ 3 ∷ 0 ∷ 3 ∷ 0 ∷ 0 ∷ 0 ∷ 32 ∷ 0 ∷ 0 ∷ 0 ∷ 115 ∷ []) ++ replicate 7 0 ++ (97 ∷ 98 ∷ 99 ∷ 0 ∷ 0 ∷ 0 ∷ 0 ∷ 0 ∷ 255 ∷ 255 ∷ 255 ∷ 255 ∷ []) ++ replicate 402 0 ++ (170 ∷ 187 ∷ []) ++ replicate 3072 0 ++ (70 ∷ 73 ∷ 76 ∷ 69 ∷ 48 ∷ 0 ∷ 3 ∷ []) ++ replicate 9 0 ++ (5 ∷ 0 ∷ 1 ∷ 0 ∷ 56 ∷ 0 ∷ 3 ∷ 0 ∷ 160 ∷ 0 ∷ 0 ∷ 0 ∷ 0 ∷ 4 ∷ []) ++ replicate 18 0 ++ (170 ∷ 187 ∷ []) ++ replicate 6 0 ++ (48 ∷ 0 ∷ 0 ∷ 0 ∷ 96 ∷ []) ++ replicate 9 0 ++ (1 ∷ 0 ∷ 68 ∷ 0 ∷ 0 ∷ 0 ∷ 24 ∷ 0 ∷ 0 ∷ 0 ∷ 5 ∷ 0 ∷ 0 ∷ 0 ∷ 0 ∷ 0 ∷ 5 ∷ []) ++ replicate 57 0 ++ (1 ∷ 1 ∷ 46 ∷ 0 ∷ 0 ∷ 0 ∷ 0 ∷ 0 ∷ 255 ∷ 255 ∷ 255 ∷ 255 ∷ []) ++ replicate 354 0 ++ (170 ∷ 187 ∷ []) ++ replicate 510 0 ++ (170 ∷ 187 ∷ []) ++ replicate 512 90

image_length : length image ≡ 7168
unfolding image
image_length = refl

abbrev boot : Boot
boot = record { at = 0; len = 7168; cluster = 512; clusters = 14; mft_cluster = 1; record_size = 1024 }

boot_is : result_of image (boot_at 0 7168) ≡ Ok boot
unfolding image boot_at boot_of part number_at signed_at
boot_is = refl

abbrev mft : Mft
mft = record { boot = boot; content = record { runs = record { len = 12; cluster = Some 1 } ∷ []; real = 6144; initialised = 6144 } }

mft_is : result_of image (mft_of boot) ≡ Ok mft
unfolding image part number_at ones mft_of slot_of stored_slot is_whole slot_place stream_place run_place via look_bytes header_of record_behind stored_place attributes_within is_length is_layout list_from list_within run_at run_behind run_with offset_at checked_run begin_of
mft_is = refl

abbrev disk : ℕ → ℕ → ℕ → Piece
disk from len at = record { from = from; len = len; kind = Disk; at = at }

-- the number, the parent references and the parts of a file
abbrev told : Option FoundFile → List (ℕ × List ℕ × List (ℕ × List Piece))
told None = []
told (Some file) = (file.number, map (λ name. name.parent) file.names, map (λ part. (part.size, part.pieces)) file.parts) ∷ []

-- the content of file 1 goes over the end of a stride, whose two bytes stand in the array
file_is : with_value told (result_of image (file_of mft 1)) ≡ Ok (
    (1, 1407374883553285 ∷ [], (400, disk 0 334 1712 ∷ disk 334 2 1586 ∷ disk 336 64 2048 ∷ []) ∷ (3, disk 0 3 2144 ∷ []) ∷ []) ∷ [])
unfolding image part number_at signed_at ones slot_of stored_slot is_whole slot_place stream_place run_place via look_bytes header_of record_behind stored_place attributes_within is_length is_layout list_from list_within run_at run_behind run_with offset_at checked_run begin_of entries_within is_entry named_attribute is_file_name longest_pieces slack_ranges stream_slack longest_ranges parts_of file_of
file_is = refl

-- $MFT has a list of its own: slot 1 holds the second segment of its $DATA. File 6 has a list: slot 7 holds its streams, and
-- what stands in slot 6 without being listed is none
unfoldable pub image_with_lists : List ℕ
image_with_lists = (0 ∷ 0 ∷ 0 ∷ 78 ∷ 84 ∷ 70 ∷ 83 ∷ 32 ∷ 32 ∷ 32 ∷ 32 ∷ 0 ∷ 2 ∷ 1 ∷ []) ++ replicate 26 0 ++ (21 ∷ []) ++ replicate 7 0 ++ (1 ∷ []) ++ replicate 15 0 ++ (246 ∷ []) ++ replicate 445 0 ++ (85 ∷ 170 ∷ 70 ∷ 73 ∷ 76 ∷ 69 ∷ 48 ∷ 0 ∷ 3 ∷ []) ++ replicate 9 0 ++ (1 ∷ 0 ∷ 1 ∷ 0 ∷ 56 ∷ 0 ∷ 1 ∷ 0 ∷ 104 ∷ 1 ∷ 0 ∷ 0 ∷ 0 ∷ 4 ∷ []) ++ replicate 18 0 ++ (170 ∷ 187 ∷ []) ++ replicate 6 0 ++ (32 ∷ 0 ∷ 0 ∷ 0 ∷ 120 ∷ []) ++ replicate 11 0 ++ (96 ∷ 0 ∷ 0 ∷ 0 ∷ 24 ∷ 0 ∷ 0 ∷ 0 ∷ 48 ∷ 0 ∷ 0 ∷ 0 ∷ 32 ∷ 0 ∷ 0 ∷ 26 ∷ []) ++ replicate 14 0 ++ (1 ∷ 0 ∷ 1 ∷ []) ++ replicate 7 0 ++ (128 ∷ 0 ∷ 0 ∷ 0 ∷ 32 ∷ 0 ∷ 0 ∷ 26 ∷ []) ++ replicate 14 0 ++ (1 ∷ 0 ∷ 2 ∷ []) ++ replicate 7 0 ++ (128 ∷ 0 ∷ 0 ∷ 0 ∷ 32 ∷ 0 ∷ 0 ∷ 26 ∷ 4 ∷ []) ++ replicate 7 0 ++ (1 ∷ 0 ∷ 0 ∷ 0 ∷ 0 ∷ 0 ∷ 1 ∷ 0 ∷ 5 ∷ []) ++ replicate 7 0 ++ (48 ∷ 0 ∷ 0 ∷ 0 ∷ 104 ∷ []) ++ replicate 9 0 ++ (1 ∷ 0 ∷ 74 ∷ 0 ∷ 0 ∷ 0 ∷ 24 ∷ 0 ∷ 0 ∷ 0 ∷ 5 ∷ 0 ∷ 0 ∷ 0 ∷ 0 ∷ 0 ∷ 5 ∷ []) ++ replicate 57 0 ++ (4 ∷ 1 ∷ 36 ∷ 0 ∷ 77 ∷ 0 ∷ 70 ∷ 0 ∷ 84 ∷ []) ++ replicate 7 0 ++ (128 ∷ 0 ∷ 0 ∷ 0 ∷ 72 ∷ 0 ∷ 0 ∷ 0 ∷ 1 ∷ 0 ∷ 0 ∷ 0 ∷ 0 ∷ 0 ∷ 2 ∷ []) ++ replicate 9 0 ++ (3 ∷ []) ++ replicate 7 0 ++ (64 ∷ []) ++ replicate 8 0 ++ (32 ∷ []) ++ replicate 7 0 ++ (32 ∷ []) ++ replicate 7 0 ++ (32 ∷ []) ++ replicate 6 0 ++ (17 ∷ 4 ∷ 1 ∷ 0 ∷ 0 ∷ 0 ∷ 0 ∷ 0 ∷ 255 ∷ 255 ∷ 255 ∷ 255 ∷ []) ++ replicate 154 0 ++ (170 ∷ 187 ∷ []) ++ replicate 510 0 ++ (170 ∷ 187 ∷ 70 ∷ 73 ∷ 76 ∷ 69 ∷ 48 ∷ 0 ∷ 3 ∷ []) ++ replicate 9 0 ++ (1 ∷ 0 ∷ 1 ∷ 0 ∷ 56 ∷ 0 ∷ 1 ∷ 0 ∷ 136 ∷ 0 ∷ 0 ∷ 0 ∷ 0 ∷ 4 ∷ []) ++ replicate 8 0 ++ (1 ∷ []) ++ replicate 9 0 ++ (170 ∷ 187 ∷ []) ++ replicate 6 0 ++ (128 ∷ 0 ∷ 0 ∷ 0 ∷ 72 ∷ 0 ∷ 0 ∷ 0 ∷ 1 ∷ 0 ∷ 0 ∷ 0 ∷ 0 ∷ 0 ∷ 5 ∷ 0 ∷ 4 ∷ []) ++ replicate 7 0 ++ (15 ∷ []) ++ replicate 7 0 ++ (64 ∷ []) ++ replicate 31 0 ++ (17 ∷ 12 ∷ 5 ∷ 0 ∷ 0 ∷ 0 ∷ 0 ∷ 0 ∷ 255 ∷ 255 ∷ 255 ∷ 255 ∷ []) ++ replicate 378 0 ++ (170 ∷ 187 ∷ []) ++ replicate 510 0 ++ (170 ∷ 187 ∷ []) ++ replicate 3072 0 ++ (70 ∷ 73 ∷ 76 ∷ 69 ∷ 48 ∷ 0 ∷ 3 ∷ []) ++ replicate 9 0 ++ (5 ∷ 0 ∷ 1 ∷ 0 ∷ 56 ∷ 0 ∷ 3 ∷ 0 ∷ 160 ∷ 0 ∷ 0 ∷ 0 ∷ 0 ∷ 4 ∷ []) ++ replicate 18 0 ++ (170 ∷ 187 ∷ []) ++ replicate 6 0 ++ (48 ∷ 0 ∷ 0 ∷ 0 ∷ 96 ∷ []) ++ replicate 9 0 ++ (1 ∷ 0 ∷ 68 ∷ 0 ∷ 0 ∷ 0 ∷ 24 ∷ 0 ∷ 0 ∷ 0 ∷ 5 ∷ 0 ∷ 0 ∷ 0 ∷ 0 ∷ 0 ∷ 5 ∷ []) ++ replicate 57 0 ++ (1 ∷ 1 ∷ 46 ∷ 0 ∷ 0 ∷ 0 ∷ 0 ∷ 0 ∷ 255 ∷ 255 ∷ 255 ∷ 255 ∷ []) ++ replicate 354 0 ++ (170 ∷ 187 ∷ []) ++ replicate 510 0 ++ (170 ∷ 187 ∷ 70 ∷ 73 ∷ 76 ∷ 69 ∷ 48 ∷ 0 ∷ 3 ∷ []) ++ replicate 9 0 ++ (9 ∷ 0 ∷ 1 ∷ 0 ∷ 56 ∷ 0 ∷ 1 ∷ 0 ∷ 64 ∷ 1 ∷ 0 ∷ 0 ∷ 0 ∷ 4 ∷ []) ++ replicate 18 0 ++ (170 ∷ 187 ∷ []) ++ replicate 6 0 ++ (32 ∷ 0 ∷ 0 ∷ 0 ∷ 120 ∷ []) ++ replicate 11 0 ++ (96 ∷ 0 ∷ 0 ∷ 0 ∷ 24 ∷ 0 ∷ 0 ∷ 0 ∷ 48 ∷ 0 ∷ 0 ∷ 0 ∷ 32 ∷ 0 ∷ 0 ∷ 26 ∷ []) ++ replicate 8 0 ++ (6 ∷ 0 ∷ 0 ∷ 0 ∷ 0 ∷ 0 ∷ 9 ∷ 0 ∷ 1 ∷ []) ++ replicate 7 0 ++ (128 ∷ 0 ∷ 0 ∷ 0 ∷ 32 ∷ 0 ∷ 0 ∷ 26 ∷ []) ++ replicate 8 0 ++ (7 ∷ 0 ∷ 0 ∷ 0 ∷ 0 ∷ 0 ∷ 2 ∷ 0 ∷ 3 ∷ []) ++ replicate 7 0 ++ (128 ∷ 0 ∷ 0 ∷ 0 ∷ 32 ∷ 0 ∷ 1 ∷ 26 ∷ []) ++ replicate 8 0 ++ (7 ∷ 0 ∷ 0 ∷ 0 ∷ 0 ∷ 0 ∷ 2 ∷ 0 ∷ 4 ∷ 0 ∷ 115 ∷ 0 ∷ 0 ∷ 0 ∷ 0 ∷ 0 ∷ 48 ∷ 0 ∷ 0 ∷ 0 ∷ 96 ∷ []) ++ replicate 9 0 ++ (1 ∷ 0 ∷ 68 ∷ 0 ∷ 0 ∷ 0 ∷ 24 ∷ 0 ∷ 0 ∷ 0 ∷ 5 ∷ 0 ∷ 0 ∷ 0 ∷ 0 ∷ 0 ∷ 5 ∷ []) ++ replicate 57 0 ++ (1 ∷ 1 ∷ 121 ∷ 0 ∷ 0 ∷ 0 ∷ 0 ∷ 0 ∷ 128 ∷ 0 ∷ 0 ∷ 0 ∷ 40 ∷ []) ++ replicate 9 0 ++ (8 ∷ 0 ∷ 10 ∷ 0 ∷ 0 ∷ 0 ∷ 24 ∷ 0 ∷ 0 ∷ 0 ∷ 110 ∷ 111 ∷ 116 ∷ 32 ∷ 108 ∷ 105 ∷ 115 ∷ 116 ∷ 101 ∷ 100 ∷ []) ++ replicate 6 0 ++ (255 ∷ 255 ∷ 255 ∷ 255 ∷ []) ++ replicate 194 0 ++ (170 ∷ 187 ∷ []) ++ replicate 510 0 ++ (170 ∷ 187 ∷ 70 ∷ 73 ∷ 76 ∷ 69 ∷ 48 ∷ 0 ∷ 3 ∷ []) ++ replicate 9 0 ++ (2 ∷ 0 ∷ 1 ∷ 0 ∷ 56 ∷ 0 ∷ 1 ∷ 0 ∷ 176 ∷ 0 ∷ 0 ∷ 0 ∷ 0 ∷ 4 ∷ 0 ∷ 0 ∷ 6 ∷ 0 ∷ 0 ∷ 0 ∷ 0 ∷ 0 ∷ 9 ∷ []) ++ replicate 9 0 ++ (170 ∷ 187 ∷ []) ++ replicate 6 0 ++ (128 ∷ 0 ∷ 0 ∷ 0 ∷ 32 ∷ []) ++ replicate 9 0 ++ (3 ∷ 0 ∷ 5 ∷ 0 ∷ 0 ∷ 0 ∷ 24 ∷ 0 ∷ 0 ∷ 0 ∷ 104 ∷ 101 ∷ 108 ∷ 108 ∷ 111 ∷ 0 ∷ 0 ∷ 0 ∷ 128 ∷ 0 ∷ 0 ∷ 0 ∷ 80 ∷ 0 ∷ 0 ∷ 0 ∷ 1 ∷ 1 ∷ 64 ∷ 0 ∷ 0 ∷ 0 ∷ 4 ∷ []) ++ replicate 9 0 ++ (1 ∷ []) ++ replicate 7 0 ++ (72 ∷ []) ++ replicate 8 0 ++ (4 ∷ []) ++ replicate 6 0 ++ (188 ∷ 2 ∷ []) ++ replicate 6 0 ++ (88 ∷ 2 ∷ []) ++ replicate 6 0 ++ (115 ∷ []) ++ replicate 7 0 ++ (17 ∷ 2 ∷ 18 ∷ 0 ∷ 0 ∷ 0 ∷ 0 ∷ 0 ∷ 255 ∷ 255 ∷ 255 ∷ 255 ∷ []) ++ replicate 338 0 ++ (170 ∷ 187 ∷ []) ++ replicate 510 0 ++ (170 ∷ 187 ∷ []) ++ replicate 2048 90

abbrev listed_boot : Boot
listed_boot = record { at = 0; len = 10752; cluster = 512; clusters = 21; mft_cluster = 1; record_size = 1024 }

abbrev listed_mft : Mft
listed_mft = record { boot = listed_boot; content = record { runs = record { len = 4; cluster = Some 1 } ∷ record { len = 12; cluster = Some 5 } ∷ []; real = 8192; initialised = 8192 } }

listed_mft_is : result_of image_with_lists (mft_of listed_boot) ≡ Ok listed_mft
unfolding image_with_lists part number_at ones mft_of slot_of stored_slot is_whole slot_place stream_place run_place via look_bytes header_of record_behind stored_place attributes_within is_length is_layout list_from list_within run_at run_behind run_with offset_at checked_run begin_of entries_within is_entry named_attribute segments_behind
listed_mft_is = refl

listed_file_is : with_value told (result_of image_with_lists (file_of listed_mft 6)) ≡ Ok (
    (6, 1407374883553285 ∷ [], (5, disk 0 5 7760 ∷ []) ∷ (700, disk 0 600 9216 ∷ record { from = 600; len = 100; kind = Zero; at = 0 } ∷ []) ∷ []) ∷ [])
unfolding image_with_lists part number_at signed_at ones slot_of stored_slot is_whole slot_place stream_place run_place via look_bytes header_of record_behind stored_place attributes_within is_length is_layout list_from list_within run_at run_behind run_with offset_at checked_run begin_of entries_within is_entry named_attribute is_file_name longest_pieces slack_ranges stream_slack longest_ranges parts_of file_of
listed_file_is = refl
