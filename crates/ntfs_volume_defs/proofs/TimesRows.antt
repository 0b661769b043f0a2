-- What the definitions say of the times and links of a record, worked out by hand.
use Rattle.std.specs.Prelude.{◌≡◌, ℕ, pos, negsuc, Some, None, Ok, Option, List, [], ◌∷◌, ◌++◌, replicate, slice_set, refl}
use Rattle.std.specs.Option.{option_map}
use Rattle.std.specs.Fmt.{digits}
use Rattle.std.specs.Int.Count.{ones}
use Rattle.bytes_defs.specs.Bytes.{part}
use Rattle.bytes_defs.specs.Numbers.{number_at}
use Rattle.image_defs.specs.Ask.{result_of}
use Rattle.image_defs.specs.Results.{with_value}
use Rattle.image_defs.specs.Via.{via, look_bytes}
use Rattle.order_defs.specs.Sorted.{sorted_by_order}
use Rattle.ntfs_record_defs.specs.Stored.{stored_place}
use Rattle.ntfs_record_defs.specs.Attributes.{attributes_within, is_length, is_layout}
use Rattle.ntfs_record_defs.specs.Record.{header_of, record_behind}
use Rattle.rx_tree.specs.declared.file.FileEntry.{FileEntry}
use Rattle.rx_tree.specs.declared.file.Kind.TheVariants.{System}
use Rattle.rx_tree.specs.declared.times.Times.{Times}
use Rattle.rx_tree.specs.declared.times.TheConstants.{NO_TIMES}
use Rattle.ntfs_volume_defs.specs.Slots.{Mft, slot_place, is_whole, stored_slot, slot_of}
use Rattle.ntfs_volume_defs.specs.Files.{FoundFile, file_of}
use Rattle.ntfs_volume_defs.specs.Parts.{parts_of}
use Rattle.ntfs_volume_defs.specs.Paths.{paths_of}
use Rattle.ntfs_volume_defs.proofs.TreeFiles.{tree_file}

-- a record of two links whose one attribute is $STANDARD_INFORMATION: made when 1970 began, modified one tick before, changed
-- when 1601 began, and read 1,700,000,000 seconds after 1970 began
unfoldable image : List ℕ
image = replicate 512 0
    ++ (70 ∷ 73 ∷ 76 ∷ 69 ∷ 48 ∷ 0 ∷ 3 ∷ []) ++ replicate 9 0 ++ (7 ∷ 0 ∷ 2 ∷ 0 ∷ 56 ∷ 0 ∷ 1 ∷ 0 ∷ 136 ∷ 0 ∷ 0 ∷ 0 ∷ 0 ∷ 4 ∷ []) ++ replicate 18 0
    ++ (170 ∷ 187 ∷ []) ++ replicate 6 0
    ++ (16 ∷ 0 ∷ 0 ∷ 0 ∷ 72 ∷ []) ++ replicate 11 0 ++ (48 ∷ 0 ∷ 0 ∷ 0 ∷ 24 ∷ 0 ∷ 0 ∷ 0 ∷ [])
    ++ (0 ∷ 128 ∷ 62 ∷ 213 ∷ 222 ∷ 177 ∷ 157 ∷ 1 ∷ []) ++ (255 ∷ 127 ∷ 62 ∷ 213 ∷ 222 ∷ 177 ∷ 157 ∷ 1 ∷ []) ++ replicate 8 0
    ++ (0 ∷ 0 ∷ 109 ∷ 198 ∷ 71 ∷ 23 ∷ 218 ∷ 1 ∷ []) ++ replicate 16 0
    ++ (255 ∷ 255 ∷ 255 ∷ 255 ∷ []) ++ replicate 378 0 ++ (170 ∷ 187 ∷ []) ++ replicate 510 0 ++ (170 ∷ 187 ∷ [])

abbrev mft : Mft
mft = record {
  boot = record { at = 0; len = 1536; cluster = 512; clusters = 3; mft_cluster = 1; record_size = 1024 };
  content = record { runs = record { len = 2; cluster = Some 1 } ∷ []; real = 1024; initialised = 1024 };
}

-- the only file of volume 3, as the tree has it
abbrev entry_of : Option FoundFile → Option FileEntry
entry_of = option_map (λ file. tree_file 3 (file ∷ []) file)

-- the record as a file: a number stands for the name that it hasn't
abbrev told : Times → FileEntry
told times = record {
  id = record { volume = 3; number = 0 };
  kind = System;
  names = (47 ∷ 92 ∷ 111 ∷ 48 ∷ []) ∷ [];
  mode = None;
  links = Some 2;
  uid = None;
  gid = None;
  times = times;
  parts = [];
}

-- slot 0 says this file
abbrev says : List ℕ → FileEntry → Type 0
says bytes file = with_value entry_of (result_of bytes (file_of mft 0)) ≡ Ok (Some file)

abbrev written : Times
written = record {
  modified = Some (record { seconds = negsuc 0 });
  changed = Some (record { seconds = negsuc 11644473599 });
  accessed = Some (record { seconds = pos 1700000000 });
  created = Some (record { seconds = pos 0 });
}

times_told :
    (says image (told written))  -- times are
    -- a content of 31 bytes has no place for four times, and an attribute of another type says none
    × says (slice_set image 584 31) (told NO_TIMES) × says (slice_set image 568 80) (told NO_TIMES)
unfolding image part number_at digits ones sorted_by_order slot_of stored_slot is_whole slot_place via look_bytes header_of record_behind stored_place attributes_within is_length is_layout parts_of paths_of file_of
times_told = (refl, refl, refl)
