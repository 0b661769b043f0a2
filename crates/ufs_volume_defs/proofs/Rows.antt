-- What the definitions say of small images, worked out by hand.
use Rattle.std.specs.Prelude.{◌≡◌, ℕ, pos, false, map, Option, None, Some, List, [], ◌∷◌, ◌++◌, take, slice_set, replicate, Result, Ok, Err, refl}
use Rattle.std.specs.Int.Count.{ones}
use Rattle.std.specs.Char.{encode_utf8}
use Rattle.std.specs.Str.{is_utf8, chars}
use Rattle.bytes_defs.specs.Bytes.{part}
use Rattle.bytes_defs.specs.Numbers.{number_at, signed_at}
use Rattle.bytes_defs.specs.declared.order.Order.TheVariants.{Little, Big}
use Rattle.image_defs.specs.Ask.{result_of, visits}
use Rattle.range_defs.specs.declared.Range.{Range}
use Rattle.rx_ranges.specs.declared.pieces.Piece.{Piece}
use Rattle.rx_ranges.specs.declared.pieces.PieceKind.TheVariants.{Disk, Zero}
use Rattle.order_defs.specs.Sorted.{sorted_by_order, distinct}
use Rattle.rx_tree.specs.PartValue.{PartValue}
use Rattle.rx_tree.specs.declared.part.Role.TheVariants as roles
use Rattle.rx_tree.specs.declared.file.Kind.{Kind}
use Rattle.rx_tree.specs.declared.file.Kind.TheVariants.{File, Dir, Link, Other}
use Rattle.rx_tree.specs.declared.file.FileEntry.{FileEntry}
use Rattle.rx_tree.specs.declared.times.Times.{Times}
use Rattle.rx_time.specs.Moments.{unix_moment}
use Rattle.name_defs.specs.Items.{byte_items, item_of_bytes}
use Rattle.name_defs.specs.Texts.{items_text}
use Rattle.name_defs.specs.Spelling.{name_spelling, word_spelling}
use Rattle.fault_defs.specs.declared.Refusal.{Refusal}
use Rattle.fault_defs.specs.declared.Refusal.TheVariants.{NotThis, Damaged, Unsupported}
use Rattle.fault_defs.specs.declared.Sort.TheVariants.{SuperField, RootKind, InodeNumber, DeadInode, FileSize, BlockPointer, DirSize, DirEntry, DirTwice}
use Rattle.fault_defs.specs.declared.What.TheVariants.{Snapshot}
use Rattle.ufs_inode_defs.specs.Superblock.{superblock_of, is_block_size, is_fragment_size, is_fragment_count, is_inode_count, wrong_field, super_in, super_of_1, super_of_2, volume_super, inode_place, has_inode}
use Rattle.ufs_inode_defs.specs.Inode.{inode_1, inode_2, sound_inode, inode_at, inode_named}
use Rattle.ufs_inode_defs.specs.Blocks.{mapped_blocks, stream_blocks}
use Rattle.ufs_volume_defs.specs.Directory.{is_entry, entries_within}
use Rattle.ufs_volume_defs.specs.Names.{counted_name, entry_name, block_names, directory_blocks, directory_names, names_below, root_inode, volume_names}
use Rattle.ufs_volume_defs.specs.Files.{sections_of, section_part, inode_parts, number_file, named_files}
use Rattle.ufs_volume_defs.specs.Volume.{FoundVolume, files_below, volume_at}
use Rattle.ufs_volume_defs.proofs.Images.{whole, image_t, image_of_root_twice, image_of_two_names, image_of_directory, image_of_link, image_of_hole, image_of_extended, image_of_two_blocks, image_1, image_of_high_first}

-- `unfolding computing` opens what the definitions compute by
unfoldable pub computing : Unit {0}
unfolding part number_at signed_at ones byte_items item_of_bytes items_text name_spelling word_spelling is_utf8 chars encode_utf8 sorted_by_order distinct superblock_of is_block_size is_fragment_size is_fragment_count is_inode_count wrong_field super_in super_of_1 super_of_2 volume_super inode_place has_inode inode_1 inode_2 sound_inode inode_at inode_named mapped_blocks stream_blocks is_entry entries_within counted_name entry_name block_names directory_blocks directory_names names_below root_inode volume_names sections_of section_part inode_parts number_file named_files files_below volume_at
computing = tt

-- a file without what its inode says of mode, links, owners and times
abbrev no_times : Times
no_times = record { modified = None; changed = None; accessed = None; created = None }

abbrev bare : FileEntry → FileEntry
bare file = record file { mode = None; links = None; uid = None; gid = None; times = no_times }

-- what a volume has, in an image whose numbers have the lowest byte first
abbrev found_in : ℕ → List ℕ → Result (List FileEntry) Refusal
found_in size image = files (result_of image (volume_at (Little ∷ []) size (whole size) 0))
  where
    files : Result FoundVolume Refusal → Result (List FileEntry) Refusal
    files (Ok found) = Ok (map bare found.files)
    files (Err refusal) = Err refusal

abbrev found_t : List ℕ → Result (List FileEntry) Refusal
found_t = found_in 262144

-- a file with these parts
abbrev pub with_parts : ℕ → Kind → List (List ℕ) → List PartValue → FileEntry
with_parts number kind names parts =
    record { id = record { volume = 0; number = number }; kind = kind; names = names; mode = None; links = None; uid = None; gid = None; times = no_times; parts = parts }

-- a part of this content
abbrev pub content : ℕ → List Piece → List Range → PartValue
content size pieces slack = record { role = roles.Content; name = []; size = size; pieces = pieces; slack = slack; unreadable = false }

-- a file of one part
abbrev pub one_part : ℕ → Kind → List (List ℕ) → ℕ → List Piece → List Range → FileEntry
one_part number kind names size pieces slack = with_parts number kind names (content size pieces slack ∷ [])

-- the root of one block at 81920
abbrev pub root_t : FileEntry
root_t = one_part 2 Dir ((47 ∷ []) ∷ []) 512 (record { from = 0; len = 512; kind = Disk; at = 81920 } ∷ []) (record { at = 82432; len = 3584 } ∷ [])

-- ---- whole trees

-- the root, and the file "a" of three bytes
files_t : found_t image_t ≡ Ok (
    root_t
    ∷ one_part 3 File ((47 ∷ 97 ∷ []) ∷ []) 3 (record { from = 0; len = 3; kind = Disk; at = 86016 } ∷ []) (record { at = 86019; len = 4093 } ∷ [])
    ∷ [])
unfolding computing image_t
files_t = refl

-- what the inodes say of mode, links, owners and times
abbrev said_t : Result (List (Option ℕ × Option ℕ × Option ℕ × Option ℕ × Times)) Refusal
said_t = said (result_of image_t (volume_at (Little ∷ []) 262144 (whole 262144) 0))
  where
    said : Result FoundVolume Refusal → Result (List (Option ℕ × Option ℕ × Option ℕ × Option ℕ × Times)) Refusal
    said (Ok found) = Ok (map (λ file. (file.mode, file.links, file.uid, file.gid, file.times)) found.files)
    said (Err refusal) = Err refusal

abbrev pub all_0 : Times
all_0 = record { modified = Some (unix_moment (pos 0)); changed = Some (unix_moment (pos 0)); accessed = Some (unix_moment (pos 0)); created = Some (unix_moment (pos 0)) }

inodes_t : said_t ≡ Ok ((Some 0x41ED, Some 2, Some 0, Some 0, all_0) ∷ (Some 0x81A4, Some 1, Some 0, Some 0, all_0) ∷ [])
unfolding computing image_t
inodes_t = refl

-- the bytes at which one looks for them
abbrev pub looked_at_t : List Range
looked_at_t =
    record { at = 3; len = 8 }
    ∷ record { at = 510; len = 2 }
    ∷ record { at = 1024; len = 4 }
    ∷ record { at = 9564; len = 4 }
    ∷ record { at = 66908; len = 4 }
    ∷ record { at = 65536; len = 1376 }
    ∷ record { at = 74240; len = 256 }
    ∷ record { at = 81920; len = 512 }
    ∷ record { at = 74496; len = 256 }
    ∷ record { at = 74240; len = 256 }
    ∷ record { at = 74496; len = 256 }
    ∷ []

pub visits_t : visits image_t (volume_at (Little ∷ []) 262144 (whole 262144) 0) ≡ looked_at_t
unfolding computing image_t
visits_t = refl

-- one file of two names, which stand by their bytes
files_two_names : found_t image_of_two_names ≡ Ok (
    root_t
    ∷ one_part 3 File ((47 ∷ 97 ∷ []) ∷ (47 ∷ 98 ∷ []) ∷ []) 3 (record { from = 0; len = 3; kind = Disk; at = 86016 } ∷ []) (record { at = 86019; len = 4093 } ∷ [])
    ∷ [])
unfolding computing image_of_two_names
files_two_names = refl

-- a file in a directory
files_directory : found_t image_of_directory ≡ Ok (
    root_t
    ∷ one_part 3 Dir ((47 ∷ 100 ∷ []) ∷ []) 512 (record { from = 0; len = 512; kind = Disk; at = 86016 } ∷ []) (record { at = 86528; len = 3584 } ∷ [])
    ∷ one_part 4 File ((47 ∷ 100 ∷ 47 ∷ 120 ∷ []) ∷ []) 5 (record { from = 0; len = 5; kind = Disk; at = 90112 } ∷ []) (record { at = 90117; len = 4091 } ∷ [])
    ∷ [])
unfolding computing image_of_directory
files_directory = refl

-- a directory of two blocks, and its entry in the second
files_two_blocks : found_t image_of_two_blocks ≡ Ok (
    one_part 2 Dir ((47 ∷ []) ∷ []) 4608 (record { from = 0; len = 4096; kind = Disk; at = 81920 } ∷ record { from = 4096; len = 512; kind = Disk; at = 90112 } ∷ []) (record { at = 90624; len = 3584 } ∷ [])
    ∷ one_part 3 File ((47 ∷ 97 ∷ []) ∷ []) 3 (record { from = 0; len = 3; kind = Disk; at = 86016 } ∷ []) (record { at = 86019; len = 4093 } ∷ [])
    ∷ [])
unfolding computing image_of_two_blocks
files_two_blocks = refl

links_are :
    -- a link of 119 bytes has its target in the inode, and one of 120 has a block
    (found_t (image_of_link 119) ≡ Ok (root_t ∷ with_parts 3 Link ((47 ∷ 97 ∷ []) ∷ []) [] ∷ []))
    -- files long link
    × (found_t (image_of_link 120) ≡ Ok (root_t ∷ one_part 3 Link ((47 ∷ 97 ∷ []) ∷ []) 120 (record { from = 0; len = 120; kind = Disk; at = 86016 } ∷ []) (record { at = 86136; len = 3976 } ∷ []) ∷ []))
unfolding computing
links_are = (refl, refl)

-- a device has no parts, whatever its pointers are
files_device : found_t (slice_set image_t 74497 0x21) ≡ Ok (root_t ∷ with_parts 3 Other ((47 ∷ 97 ∷ []) ∷ []) [] ∷ [])
unfolding computing image_t
files_device = refl

-- an extended area of five bytes beside an empty content
files_extended : found_t image_of_extended ≡ Ok (
    root_t
    ∷ with_parts 3 File ((47 ∷ 97 ∷ []) ∷ [])
    (content 0 [] []
    ∷ record { role = roles.Other; name = 101 ∷ 120 ∷ 116 ∷ []; size = 5; pieces = record { from = 0; len = 5; kind = Disk; at = 94208 } ∷ []; slack = record { at = 94213; len = 4091 } ∷ []; unreadable = false }
    ∷ [])
    ∷ [])
unfolding computing image_of_extended
files_extended = refl

longest_hole :
    -- the longest file, all of it a hole, is one piece of zeros, far longer than the image; one byte more is past what the pointers reach
    (found_t (image_of_hole (0 ∷ 192 ∷ 32 ∷ 64 ∷ 128 ∷ [])) ≡ Ok (root_t ∷ one_part 3 File ((47 ∷ 97 ∷ []) ∷ []) 550831702016 (record { from = 0; len = 550831702016; kind = Zero; at = 0 } ∷ []) [] ∷ []))
    × (found_t (image_of_hole (1 ∷ 192 ∷ 32 ∷ 64 ∷ 128 ∷ [])) ≡ Err (Damaged FileSize 74512))  -- past hole
unfolding computing
longest_hole = (refl, refl)

-- the same volume from byte 4,096 of a longer image on
abbrev at_4096 : Result (List FileEntry) Refusal
at_4096 = files (result_of (replicate 4096 0 ++ image_t) (volume_at (Little ∷ []) 266240 (record { at = 4096; len = 262144 }) 0))
  where
    files : Result FoundVolume Refusal → Result (List FileEntry) Refusal
    files (Ok found) = Ok (map bare found.files)
    files (Err refusal) = Err refusal

files_at_4096 : at_4096 ≡ Ok (
    one_part 2 Dir ((47 ∷ []) ∷ []) 512 (record { from = 0; len = 512; kind = Disk; at = 86016 } ∷ []) (record { at = 86528; len = 3584 } ∷ [])
    ∷ one_part 3 File ((47 ∷ 97 ∷ []) ∷ []) 3 (record { from = 0; len = 3; kind = Disk; at = 90112 } ∷ []) (record { at = 90115; len = 4093 } ∷ [])
    ∷ [])
unfolding computing image_t
files_at_4096 = refl

-- ---- a UFS1 with a file of one byte in fragments of 1,024, in both orders

abbrev files_1 : List FileEntry
files_1 =
    one_part 2 Dir ((47 ∷ []) ∷ []) 512 (record { from = 0; len = 512; kind = Disk; at = 24576 } ∷ []) (record { at = 25088; len = 512 } ∷ [])
    ∷ one_part 3 File ((47 ∷ 97 ∷ []) ∷ []) 1 (record { from = 0; len = 1; kind = Disk; at = 28672 } ∷ []) (record { at = 28673; len = 1023 } ∷ [])
    ∷ []

low_first : found_in 65536 image_1 ≡ Ok files_1
unfolding computing image_1
low_first = refl

abbrev found_both : List ℕ → Result (List FileEntry) Refusal
found_both image = files (result_of image (volume_at (Little ∷ Big ∷ []) 65536 (whole 65536) 0))
  where
    files : Result FoundVolume Refusal → Result (List FileEntry) Refusal
    files (Ok found) = Ok (map bare found.files)
    files (Err refusal) = Err refusal

high_first : (found_both image_of_high_first ≡ Ok files_1) × (found_in 65536 image_of_high_first ≡ Err NotThis) × (found_both (slice_set image_of_high_first 18859 64) ≡ Err (Damaged BlockPointer 18856))
unfolding computing image_of_high_first
high_first = (refl, refl, refl)

-- its guard has no byte of a UFS2
visits_1 : visits image_1 (volume_at (Little ∷ []) 65536 (whole 65536) 0) ≡
    record { at = 3; len = 8 }
    ∷ record { at = 510; len = 2 }
    ∷ record { at = 1024; len = 4 }
    ∷ record { at = 9564; len = 4 }
    ∷ record { at = 8192; len = 1376 }
    ∷ record { at = 18688; len = 128 }
    ∷ record { at = 24576; len = 512 }
    ∷ record { at = 18816; len = 128 }
    ∷ record { at = 18688; len = 128 }
    ∷ record { at = 18816; len = 128 }
    ∷ []
unfolding computing image_1
visits_1 = refl

-- ---- what is refused

refused :
    -- the first pointer of inode 3 leads past the end, also where the image is cut there; and images that are too short
    (found_t (slice_set image_t 74608 64) ≡ Err (Damaged BlockPointer 74608)) × (found_in 86016 (take 86016 image_t) ≡ Err (Damaged BlockPointer 74608))
    × (found_in 1000 (take 1000 image_t) ≡ Err NotThis) × (found_in 0 [] ≡ Err NotThis)  -- other refused
    -- a block has two fragments; the root is a file
    × (found_t (slice_set image_t 65592 2) ≡ Err (Damaged SuperField 65592)) × (found_t (slice_set image_t 74241 0x81) ≡ Err (Damaged RootKind 74240))
    -- "a" names inode 16 of 16; it names inode 4, which is free
    × (found_t (slice_set image_t 81944 16) ≡ Err (Damaged InodeNumber 81944)) × (found_t (slice_set image_t 81944 4) ≡ Err (Damaged DeadInode 74752))
    -- inode 3 has a byte more than 2^62; an extended area of a byte more than two blocks; it is a snapshot
    × (found_t (slice_set (slice_set image_t 74512 1) 74519 64) ≡ Err (Damaged FileSize 74512)) × (found_t (slice_set (slice_set image_t 74588 1) 74589 32) ≡ Err (Damaged FileSize 74588)) × (found_t (slice_set image_t 74586 32) ≡ Err (Unsupported Snapshot 74584))
    -- the root has 500 bytes; it has a hole; the record of "a" has six bytes
    × (found_t (slice_set (slice_set image_t 74256 244) 74257 1) ≡ Err (Damaged DirSize 74256)) × (found_t (slice_set (slice_set image_t 81948 6) 81949 0) ≡ Err (Damaged DirEntry 81944))
unfolding computing image_t
refused = (refl, refl, refl, refl, refl, refl, refl, refl, refl, refl, refl, refl, refl)

hole_refused : found_t (slice_set image_of_two_blocks 74360 0) ≡ Err (Damaged DirSize 74256)
unfolding computing image_of_two_blocks
hole_refused = refl

-- "b" names the root; "x" of the directory "d" names "d"
twice_refused : found_t image_of_root_twice ≡ Err (Damaged DirTwice 81956)
unfolding computing image_of_root_twice
twice_refused = refl

again_refused : found_t (slice_set image_of_directory 86040 3) ≡ Err (Damaged DirTwice 86040)
unfolding computing image_of_directory
again_refused = refl
