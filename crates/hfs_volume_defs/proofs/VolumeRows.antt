-- Small volumes, byte by byte, and what they say.
use Rattle.std.specs.Prelude.{◌≡◌, ℕ, ◌+◌, ◌-◌, pos, negsuc, false, Some, None, Result, Ok, Err, List, [], ◌∷◌, ◌++◌, length, replicate, refl, slice_set}
use Rattle.std.specs.Int.Count.{ones}
use Rattle.range_defs.specs.declared.Range.{Range}
use Rattle.range_defs.specs.Places.{longest_ranges}
use Rattle.image_defs.specs.Ask.{result_of}
use Rattle.bytes_defs.specs.Bytes.{part}
use Rattle.bytes_defs.specs.Numbers.{number_at}
use Rattle.std.specs.Char.{encode_utf8}
use Rattle.std.specs.Fmt.{digits}
use Rattle.name_defs.specs.Spelling.{hex_digit, byte_escape, unit_escape, word_spelling, name_spelling}
use Rattle.name_defs.specs.Texts.{items_text}
use Rattle.name_defs.specs.Items.{item_of_units, unit_items}
use Rattle.rx_ranges.specs.declared.pieces.PieceKind.TheVariants.{Disk}
use Rattle.fault_defs.specs.declared.Refusal.{Refusal}
use Rattle.rx_tree.specs.TreeValue.{TreeValue}
use Rattle.rx_tree.specs.declared.part.Role.TheVariants.{Content}
use Rattle.rx_tree.specs.declared.file.FileEntry.{FileEntry}
use Rattle.rx_tree.specs.declared.file.Kind.{Kind}
use Rattle.rx_tree.specs.declared.file.Kind.TheVariants.{File, Dir, System}
use Rattle.rx_tree.specs.PartValue.{PartValue}
use Rattle.rx_tree.specs.declared.times.Times.{Times}
use Rattle.rx_tree.specs.declared.times.TheConstants.{NO_TIMES}
use Rattle.rx_tree.specs.declared.volume.FsKind.TheVariants.{HfsPlus}
use Rattle.order_defs.specs.Sorted.{sorted_by_order}
use Rattle.hfs_defs.specs.Header.{header_of, fork_of, wrong_field, is_block_size, volume_header}
use Rattle.hfs_defs.specs.Forks.{records_of, fork_fault, pieces_of, slack_of, found_fork}
use Rattle.hfs_defs.specs.Nodes.{is_tree, is_node_size, is_sound_node, is_record}
use Rattle.hfs_defs.specs.Leaves.{leaves_of, chain_within, leaves_of_node, is_leaf_in}
use Rattle.hfs_defs.specs.Overflow.{is_overflow_record, checked_overflow}
use Rattle.hfs_defs.specs.TreeFiles.{look_through, tree_leaves, fork_leaves, volume_overflow}
use Rattle.hfs_volume_defs.specs.Catalog.{has_name, record_kind, checked_entry}
use Rattle.hfs_volume_defs.specs.Folders.{path_within, folder_path, named_file}
use Rattle.hfs_volume_defs.specs.Files.{fork_part, entry_file, special_file}
use Rattle.hfs_volume_defs.specs.Volume.{volume_entries, sound_entries, names_within, guard_of, files_within, volume_files, tree_below, volume_tree}
use Rattle.fault_defs.specs.declared.Refusal.TheVariants.{NotThis, Damaged, Unsupported}
use Rattle.fault_defs.specs.declared.Sort.TheVariants.{HeaderField, ForkExtent, ForkSum, TreeHeader, NodeLink, NodeRecord, CatalogRecord, CatalogTwice, FolderMissing}
use Rattle.fault_defs.specs.declared.What.TheVariants.{ExtentsFork}

-- the bytes from a place on to a size: zeros, but for the bytes that are written at some places
abbrev zeros_but : ℕ → ℕ → List (ℕ × List ℕ) → List ℕ
zeros_but from size [] = replicate (size - from) 0
zeros_but from size (written ∷ more) = replicate (written.0 - from) 0 ++ (written.1 ++ zeros_but (written.0 + length written.1) size more)

-- a folder or a file with this mode, of owner and group 0 and without dates
abbrev told : ℕ → Kind → List (List ℕ) → ℕ → List PartValue → FileEntry
told number kind names mode parts = record {
  id = record { volume = 0; number = number };
  kind = kind;
  names = names;
  mode = Some mode;
  links = None;
  uid = Some 0;
  gid = Some 0;
  times = NO_TIMES;
  parts = parts;
}

-- a special file
abbrev special : ℕ → List ℕ → PartValue → FileEntry
special number name part = record {
  id = record { volume = 0; number = number };
  kind = System;
  names = name ∷ [];
  mode = None;
  links = None;
  uid = None;
  gid = None;
  times = NO_TIMES;
  parts = part ∷ [];
}

-- a volume header up to the catalog's fork, with that fork, and the header nodes of the extents file and of the catalog
abbrev header_with : List ℕ → List ℕ → List (ℕ × List ℕ)
header_with size blocks =
    (1024, 72 ∷ 43 ∷ 0 ∷ 4 ∷ [])
    ∷ (1066, 2 ∷ [])
    ∷ (1071, 40 ∷ [])
    ∷ (1142, 2 ∷ [])
    ∷ (1151, 1 ∷ 0 ∷ 0 ∷ 0 ∷ 6 ∷ 0 ∷ 0 ∷ 0 ∷ 1 ∷ [])
    ∷ (1222, 2 ∷ [])
    ∷ (1231, 1 ∷ 0 ∷ 0 ∷ 0 ∷ 8 ∷ 0 ∷ 0 ∷ 0 ∷ 1 ∷ [])
    ∷ (1302, size)
    ∷ (1311, blocks)
    ∷ (4104, 1 ∷ [])
    ∷ (4128, 2 ∷ [])
    ∷ (5128, 1 ∷ [])
    ∷ (5147, 1 ∷ [])
    ∷ (5152, 4 ∷ [])
    ∷ []

abbrev links_written : List (ℕ × List ℕ)
links_written =
    header_with (12 ∷ []) (6 ∷ 0 ∷ 0 ∷ 0 ∷ 10 ∷ 0 ∷ 0 ∷ 0 ∷ 6 ∷ [])
    ++ (6147, 2 ∷ [])
    ∷ (6152, 255 ∷ 1 ∷ 0 ∷ 4 ∷ 0 ∷ 0 ∷ 0 ∷ 8 ∷ 0 ∷ 0 ∷ 0 ∷ 1 ∷ 0 ∷ 1 ∷ 0 ∷ 86 ∷ 0 ∷ 1 ∷ [])
    ∷ (6179, 2 ∷ [])
    ∷ (6210, 65 ∷ 237 ∷ [])
    ∷ (6257, 48 ∷ 0 ∷ 0 ∷ 0 ∷ 2 ∷ 0 ∷ 21 ∷ [])
    ∷ (6273, 72 ∷ 0 ∷ 70 ∷ 0 ∷ 83 ∷ 0 ∷ 43 ∷ 0 ∷ 32 ∷ 0 ∷ 80 ∷ 0 ∷ 114 ∷ 0 ∷ 105 ∷ 0 ∷ 118 ∷ 0 ∷ 97 ∷ 0 ∷ 116 ∷ 0 ∷ 101 ∷ 0 ∷ 32 ∷ 0 ∷ 68 ∷ 0 ∷ 97 ∷ 0 ∷ 116 ∷ 0 ∷ 97 ∷ 0 ∷ 1 ∷ [])
    ∷ (6317, 16 ∷ [])
    ∷ (6348, 65 ∷ 237 ∷ [])
    ∷ (6395, 8 ∷ 0 ∷ 0 ∷ 0 ∷ 2 ∷ 0 ∷ 1 ∷ 0 ∷ 112 ∷ 0 ∷ 2 ∷ [])
    ∷ (6415, 17 ∷ [])
    ∷ (6446, 129 ∷ 164 ∷ 0 ∷ 0 ∷ 0 ∷ 77 ∷ 104 ∷ 108 ∷ 110 ∷ 107 ∷ 104 ∷ 102 ∷ 115 ∷ 43 ∷ [])
    ∷ (6653, 8 ∷ 0 ∷ 0 ∷ 0 ∷ 2 ∷ 0 ∷ 1 ∷ 0 ∷ 113 ∷ 0 ∷ 2 ∷ [])
    ∷ (6673, 18 ∷ [])
    ∷ (6704, 129 ∷ 164 ∷ 0 ∷ 0 ∷ 0 ∷ 77 ∷ 104 ∷ 108 ∷ 110 ∷ 107 ∷ 104 ∷ 102 ∷ 115 ∷ 43 ∷ [])
    ∷ (7158, 2 ∷ 254 ∷ 1 ∷ 252 ∷ 0 ∷ 250 ∷ 0 ∷ 112 ∷ 0 ∷ 14 ∷ [])
    ∷ (7176, 255 ∷ 1 ∷ 0 ∷ 1 ∷ 0 ∷ 0 ∷ 0 ∷ 20 ∷ 0 ∷ 0 ∷ 0 ∷ 16 ∷ 0 ∷ 7 ∷ 0 ∷ 105 ∷ 0 ∷ 78 ∷ 0 ∷ 111 ∷ 0 ∷ 100 ∷ 0 ∷ 101 ∷ 0 ∷ 55 ∷ 0 ∷ 55 ∷ 0 ∷ 2 ∷ [])
    ∷ (7215, 77 ∷ [])
    ∷ (7246, 129 ∷ 164 ∷ [])
    ∷ (7299, 3 ∷ [])
    ∷ (7307, 1 ∷ 0 ∷ 0 ∷ 0 ∷ 30 ∷ 0 ∷ 0 ∷ 0 ∷ 1 ∷ [])
    ∷ (8188, 1 ∷ 28 ∷ 0 ∷ 14 ∷ [])
    ∷ (15360, 97 ∷ 98 ∷ 99 ∷ [])
    ∷ []

unfoldable links_image : List ℕ
links_image = zeros_but 0 20480 links_written

links_files : List FileEntry
links_files =
    told 2 Dir ((47 ∷ []) ∷ []) 0x41ED []
    ∷ special 3 (47 ∷ 92 ∷ 115 ∷ 51 ∷ []) (record { role = Content; name = []; size = 512; pieces = record { from = 0; len = 512; kind = Disk; at = 4096 } ∷ []; slack = []; unreadable = false })
    ∷ special 4 (47 ∷ 92 ∷ 115 ∷ 52 ∷ []) (record { role = Content; name = []; size = 3072; pieces = record { from = 0; len = 3072; kind = Disk; at = 5120 } ∷ []; slack = []; unreadable = false })
    ∷ special 6 (47 ∷ 92 ∷ 115 ∷ 54 ∷ []) (record { role = Content; name = []; size = 512; pieces = record { from = 0; len = 512; kind = Disk; at = 3072 } ∷ []; slack = []; unreadable = false })
    ∷ told 16 Dir ((47 ∷ 92 ∷ 120 ∷ 48 ∷ 48 ∷ 92 ∷ 120 ∷ 48 ∷ 48 ∷ 92 ∷ 120 ∷ 48 ∷ 48 ∷ 92 ∷ 120 ∷ 48 ∷ 48 ∷ 72 ∷ 70 ∷ 83 ∷ 43 ∷ 32 ∷ 80 ∷ 114 ∷ 105 ∷ 118 ∷ 97 ∷ 116 ∷ 101 ∷ 32 ∷ 68 ∷ 97 ∷ 116 ∷ 97 ∷ []) ∷ []) 0x41ED []
    ∷ told 77 File ((47 ∷ 112 ∷ []) ∷ (47 ∷ 113 ∷ []) ∷ []) 0x81A4 (record { role = Content; name = []; size = 3; pieces = record { from = 0; len = 3; kind = Disk; at = 15360 } ∷ []; slack = record { at = 15363; len = 509 } ∷ []; unreadable = false } ∷ [])
    ∷ []

links_guard : List Range
links_guard = record { at = 0; len = 1536 } ∷ record { at = 4096; len = 512 } ∷ record { at = 5120; len = 3072 } ∷ record { at = 19456; len = 1024 } ∷ []

links_tree : result_of links_image (volume_tree 20480 0 20480 0) ≡ Ok (record { image_len = 20480; volumes = record { number = 0; kind = HfsPlus; at = 0; len = 20480 } ∷ []; unread = []; files = links_files; guard = links_guard })
unfolding links_image links_files links_guard encode_utf8 digits hex_digit byte_escape unit_escape word_spelling name_spelling item_of_units part number_at ones items_text unit_items sorted_by_order longest_ranges header_of fork_of wrong_field is_block_size volume_header records_of fork_fault pieces_of slack_of found_fork is_tree is_node_size is_sound_node is_record leaves_of chain_within leaves_of_node is_leaf_in is_overflow_record checked_overflow has_name record_kind checked_entry path_within folder_path named_file fork_part entry_file special_file look_through tree_leaves fork_leaves volume_overflow volume_entries sound_entries names_within guard_of files_within volume_files tree_below volume_tree
links_tree = refl

abbrev plain_written : List (ℕ × List ℕ)
plain_written =
    header_with (8 ∷ []) (4 ∷ 0 ∷ 0 ∷ 0 ∷ 10 ∷ 0 ∷ 0 ∷ 0 ∷ 4 ∷ [])
    ++ (6152, 255 ∷ 1 ∷ 0 ∷ 3 ∷ 0 ∷ 0 ∷ 0 ∷ 8 ∷ 0 ∷ 0 ∷ 0 ∷ 1 ∷ 0 ∷ 1 ∷ 0 ∷ 86 ∷ 0 ∷ 1 ∷ [])
    ∷ (6179, 2 ∷ [])
    ∷ (6210, 65 ∷ 237 ∷ [])
    ∷ (6257, 8 ∷ 0 ∷ 0 ∷ 0 ∷ 2 ∷ 0 ∷ 1 ∷ 0 ∷ 97 ∷ 0 ∷ 2 ∷ [])
    ∷ (6277, 16 ∷ 124 ∷ 37 ∷ 176 ∷ 128 ∷ 124 ∷ 37 ∷ 176 ∷ 129 ∷ 0 ∷ 0 ∷ 0 ∷ 1 ∷ [])
    ∷ (6300, 1 ∷ 245 ∷ 0 ∷ 0 ∷ 0 ∷ 20 ∷ 0 ∷ 0 ∷ 129 ∷ 164 ∷ [])
    ∷ (6361, 3 ∷ [])
    ∷ (6369, 1 ∷ 0 ∷ 0 ∷ 0 ∷ 30 ∷ 0 ∷ 0 ∷ 0 ∷ 1 ∷ [])
    ∷ (6515, 8 ∷ 0 ∷ 0 ∷ 0 ∷ 2 ∷ 0 ∷ 1 ∷ 0 ∷ 112 ∷ 0 ∷ 2 ∷ [])
    ∷ (6535, 17 ∷ [])
    ∷ (6566, 129 ∷ 164 ∷ 0 ∷ 0 ∷ 0 ∷ 77 ∷ 104 ∷ 108 ∷ 110 ∷ 107 ∷ 104 ∷ 102 ∷ 115 ∷ 43 ∷ [])
    ∷ (7160, 2 ∷ 116 ∷ 1 ∷ 114 ∷ 0 ∷ 112 ∷ 0 ∷ 14 ∷ [])
    ∷ (15360, 97 ∷ 98 ∷ 99 ∷ [])
    ∷ []

unfoldable plain_image : List ℕ
plain_image = zeros_but 0 20480 plain_written

-- modified one second after 1970 began, changed one second after 1904 began, never read, and made when 1970 began
abbrev dated : Times
dated = record {
  modified = Some (record { seconds = pos 1 });
  changed = Some (record { seconds = negsuc 2082844798 });
  accessed = None;
  created = Some (record { seconds = pos 0 });
}

plain_files : List FileEntry
plain_files =
    told 2 Dir ((47 ∷ []) ∷ []) 0x41ED []
    ∷ special 3 (47 ∷ 92 ∷ 115 ∷ 51 ∷ []) (record { role = Content; name = []; size = 512; pieces = record { from = 0; len = 512; kind = Disk; at = 4096 } ∷ []; slack = []; unreadable = false })
    ∷ special 4 (47 ∷ 92 ∷ 115 ∷ 52 ∷ []) (record { role = Content; name = []; size = 2048; pieces = record { from = 0; len = 2048; kind = Disk; at = 5120 } ∷ []; slack = []; unreadable = false })
    ∷ special 6 (47 ∷ 92 ∷ 115 ∷ 54 ∷ []) (record { role = Content; name = []; size = 512; pieces = record { from = 0; len = 512; kind = Disk; at = 3072 } ∷ []; slack = []; unreadable = false })
    ∷ record (told 16 File ((47 ∷ 97 ∷ []) ∷ []) 0x81A4 (record { role = Content; name = []; size = 3; pieces = record { from = 0; len = 3; kind = Disk; at = 15360 } ∷ []; slack = record { at = 15363; len = 509 } ∷ []; unreadable = false } ∷ [])) { uid = Some 501; gid = Some 20; times = dated }
    ∷ told 17 File ((47 ∷ 112 ∷ []) ∷ []) 0x81A4 (record { role = Content; name = []; size = 0; pieces = []; slack = []; unreadable = false } ∷ [])
    ∷ []

plain_guard : List Range
plain_guard = record { at = 0; len = 1536 } ∷ record { at = 4096; len = 512 } ∷ record { at = 5120; len = 2048 } ∷ record { at = 19456; len = 1024 } ∷ []

plain_tree : result_of plain_image (volume_tree 20480 0 20480 0) ≡ Ok (record { image_len = 20480; volumes = record { number = 0; kind = HfsPlus; at = 0; len = 20480 } ∷ []; unread = []; files = plain_files; guard = plain_guard })
unfolding plain_image plain_files plain_guard encode_utf8 digits hex_digit byte_escape unit_escape word_spelling name_spelling item_of_units part number_at ones items_text unit_items sorted_by_order longest_ranges header_of fork_of wrong_field is_block_size volume_header records_of fork_fault pieces_of slack_of found_fork is_tree is_node_size is_sound_node is_record leaves_of chain_within leaves_of_node is_leaf_in is_overflow_record checked_overflow has_name record_kind checked_entry path_within folder_path named_file fork_part entry_file special_file look_through tree_leaves fork_leaves volume_overflow volume_entries sound_entries names_within guard_of files_within volume_files tree_below volume_tree
plain_tree = refl

-- what the volume says where a byte of it is another one
abbrev with_byte : ℕ → ℕ → Result TreeValue Refusal
with_byte at byte = result_of (slice_set plain_image at byte) (volume_tree 20480 0 20480 0)

refused :
    -- the signature is another one; a block has no byte; the extents file has two blocks, and one in its extents
    (with_byte 1024 0 ≡ Err NotThis) × (with_byte 1066 0 ≡ Err (Damaged HeaderField 1064)) × (with_byte 1231 2 ≡ Err (Unsupported ExtentsFork 1216))
    × (with_byte 6147 1 ≡ Err (Damaged NodeLink 1296))  -- the leaf node leads to itself
    -- two files have one number; a file has two blocks, and one in its extents
    × (with_byte 6535 16 ≡ Err (Damaged CatalogTwice 6514)) × (with_byte 6369 2 ≡ Err (Damaged ForkSum 6354))
    -- the root folder has another number; a file is in no folder
    × (with_byte 6179 99 ≡ Err (Damaged FolderMissing 1296)) × (with_byte 6261 9 ≡ Err (Damaged FolderMissing 6256))
    -- the volume has a block more than bytes for it; node 0 of the extents file, and that of the catalog, isn't of kind 1
    × (with_byte 1071 41 ≡ Err (Damaged HeaderField 1068)) × (with_byte 4104 0 ≡ Err (Damaged TreeHeader 1216)) × (with_byte 5128 0 ≡ Err (Damaged TreeHeader 1296))
    -- a record begins in the descriptor of its node; a record has an unknown type
    × (with_byte 7167 13 ≡ Err (Damaged NodeRecord 6144)) × (with_byte 6169 5 ≡ Err (Damaged CatalogRecord 6158))
    -- an extent of a file passes the volume; a file has the number of the attributes file
    × (with_byte 6373 40 ≡ Err (Damaged ForkExtent 6370)) × (with_byte 6535 8 ≡ Err (Damaged CatalogTwice 6514))
unfolding plain_image encode_utf8 digits hex_digit byte_escape unit_escape word_spelling name_spelling item_of_units part number_at ones items_text unit_items sorted_by_order longest_ranges header_of fork_of wrong_field is_block_size volume_header records_of fork_fault pieces_of slack_of found_fork is_tree is_node_size is_sound_node is_record leaves_of chain_within leaves_of_node is_leaf_in is_overflow_record checked_overflow has_name record_kind checked_entry path_within folder_path named_file fork_part entry_file special_file look_through tree_leaves fork_leaves volume_overflow volume_entries sound_entries names_within guard_of files_within volume_files tree_below volume_tree
refused = (refl, refl, refl, refl, refl, refl, refl, refl, refl, refl, refl, refl, refl, refl, refl)
