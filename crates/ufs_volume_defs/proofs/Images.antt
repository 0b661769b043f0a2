-- Small images, byte by byte.
use Rattle.std.specs.Prelude.{ℕ, ◌+◌, ◌-◌, List, [], ◌∷◌, ◌++◌, length, replicate}
use Rattle.range_defs.specs.declared.Range.{Range}

-- the bytes from a place on to a size: zeros, but for the bytes that are written at some places
abbrev pub zeros_but : ℕ → ℕ → List (ℕ × List ℕ) → List ℕ
zeros_but from size [] = replicate (size - from) 0
zeros_but from size (written ∷ more) = replicate (written.0 - from) 0 ++ (written.1 ++ zeros_but (written.0 + length written.1) size more)

-- the whole image of so many bytes
abbrev pub whole : ℕ → Range
whole size = record { at = 0; len = size }

-- ---- a UFS2 of 64 blocks of one fragment

-- the superblock at 65536
abbrev super_of_t : List (ℕ × List ℕ)
super_of_t =
    (65536 + 12, 17 ∷ [])
    ∷ (65536 + 16, 18 ∷ [])
    ∷ (65536 + 44, 1 ∷ [])
    ∷ (65536 + 48, 0 ∷ 16 ∷ [])
    ∷ (65536 + 52, 0 ∷ 16 ∷ [])
    ∷ (65536 + 56, 1 ∷ [])
    ∷ (65536 + 116, 0 ∷ 2 ∷ [])
    ∷ (65536 + 120, 16 ∷ [])
    ∷ (65536 + 184, 16 ∷ [])
    ∷ (65536 + 188, 64 ∷ [])
    ∷ (65536 + 1372, 0x19 ∷ 0x01 ∷ 0x54 ∷ 0x19 ∷ [])
    ∷ []

-- inode 2 at 74240, with a size and pointers in these bytes
abbrev root_of_t : List ℕ → List ℕ → List (ℕ × List ℕ)
root_of_t size pointers = (74240, 0xED ∷ 0x41 ∷ 2 ∷ []) ∷ (74240 + 16, size) ∷ (74240 + 112, pointers) ∷ []

-- the entries "." and ".." of the root at 81920
abbrev pub dots_of_t : List (ℕ × List ℕ)
dots_of_t = (81920, 2 ∷ 0 ∷ 0 ∷ 0 ∷ 12 ∷ 0 ∷ 4 ∷ 1 ∷ 46 ∷ []) ∷ (81932, 2 ∷ 0 ∷ 0 ∷ 0 ∷ 12 ∷ 0 ∷ 4 ∷ 2 ∷ 46 ∷ 46 ∷ []) ∷ []

-- 262,144 bytes: the superblock and the root, some inodes, the root's entries behind "..", and what stands behind them
abbrev pub image_with : List (ℕ × List ℕ) → List (ℕ × List ℕ) → List ℕ
image_with inodes entries = zeros_but 0 262144 (super_of_t ++ (root_of_t (0 ∷ 2 ∷ []) (20 ∷ []) ++ (inodes ++ (dots_of_t ++ entries))))

-- inode 3 of a file of these bytes in size, in block 21
abbrev pub file_3 : List ℕ → List (ℕ × List ℕ)
file_3 size = (74496, 0xA4 ∷ 0x81 ∷ 1 ∷ []) ∷ (74496 + 16, size) ∷ (74496 + 112, 21 ∷ []) ∷ []

-- the entry "a" at 81944, to the end of its 512
abbrev pub entry_a : ℕ × List ℕ
entry_a = (81944, 3 ∷ 0 ∷ 0 ∷ 0 ∷ 232 ∷ 1 ∷ 8 ∷ 1 ∷ 97 ∷ [])

-- the file "a" of three bytes
unfoldable pub image_t : List ℕ
image_t = image_with (file_3 (3 ∷ [])) (entry_a ∷ (86016, 97 ∷ 98 ∷ 99 ∷ []) ∷ [])

-- behind "a" an entry "b" that names the root
unfoldable pub image_of_root_twice : List ℕ
image_of_root_twice =
    image_with (file_3 (3 ∷ []))
    ((81944, 3 ∷ 0 ∷ 0 ∷ 0 ∷ 12 ∷ 0 ∷ 8 ∷ 1 ∷ 97 ∷ []) ∷ (81956, 2 ∷ 0 ∷ 0 ∷ 0 ∷ 220 ∷ 1 ∷ 4 ∷ 1 ∷ 98 ∷ []) ∷ [])

-- the file "a" has the name "b" too
unfoldable pub image_of_two_names : List ℕ
image_of_two_names =
    image_with (file_3 (3 ∷ []))
    ((81944, 3 ∷ 0 ∷ 0 ∷ 0 ∷ 12 ∷ 0 ∷ 8 ∷ 1 ∷ 98 ∷ []) ∷ (81956, 3 ∷ 0 ∷ 0 ∷ 0 ∷ 220 ∷ 1 ∷ 8 ∷ 1 ∷ 97 ∷ []) ∷ [])

-- the directory "d" (inode 3, block 21), which holds the file "x" (inode 4, block 22)
unfoldable pub image_of_directory : List ℕ
image_of_directory =
    image_with
    ((74496, 0xED ∷ 0x41 ∷ 2 ∷ []) ∷ (74496 + 16, 0 ∷ 2 ∷ []) ∷ (74496 + 112, 21 ∷ [])
    ∷ (74752, 0xA4 ∷ 0x81 ∷ 1 ∷ []) ∷ (74752 + 16, 5 ∷ []) ∷ (74752 + 112, 22 ∷ []) ∷ [])
    ((81944, 3 ∷ 0 ∷ 0 ∷ 0 ∷ 232 ∷ 1 ∷ 4 ∷ 1 ∷ 100 ∷ [])
    ∷ (86016, 3 ∷ 0 ∷ 0 ∷ 0 ∷ 12 ∷ 0 ∷ 4 ∷ 1 ∷ 46 ∷ [])
    ∷ (86028, 2 ∷ 0 ∷ 0 ∷ 0 ∷ 12 ∷ 0 ∷ 4 ∷ 2 ∷ 46 ∷ 46 ∷ [])
    ∷ (86040, 4 ∷ 0 ∷ 0 ∷ 0 ∷ 232 ∷ 1 ∷ 8 ∷ 1 ∷ 120 ∷ [])
    ∷ [])

-- a symbolic link "a" of so many bytes, the first pointer of which is 21
abbrev pub image_of_link : ℕ → List ℕ
image_of_link size =
    image_with ((74496, 0xFF ∷ 0xA1 ∷ 1 ∷ []) ∷ (74496 + 16, size ∷ []) ∷ (74496 + 112, 21 ∷ []) ∷ []) (entry_a ∷ [])

-- the file "a" of a size in these bytes, all of it a hole
abbrev pub image_of_hole : List ℕ → List ℕ
image_of_hole size = image_with ((74496, 0xA4 ∷ 0x81 ∷ 1 ∷ []) ∷ (74496 + 16, size) ∷ []) (entry_a ∷ [])

-- the file "a" has an extended area of 5 bytes in block 23, and no content
unfoldable pub image_of_extended : List ℕ
image_of_extended = image_with ((74496, 0xA4 ∷ 0x81 ∷ 1 ∷ []) ∷ (74496 + 92, 5 ∷ []) ∷ (74496 + 96, 23 ∷ []) ∷ []) (entry_a ∷ [])

-- a root of 4,608 bytes in the blocks 20 and 22: the 512 in front are one unused entry each, and in the last "a" stands
unfoldable pub image_of_two_blocks : List ℕ
image_of_two_blocks =
    zeros_but 0 262144 (super_of_t ++ (root_of_t (0 ∷ 18 ∷ []) (20 ∷ 0 ∷ 0 ∷ 0 ∷ 0 ∷ 0 ∷ 0 ∷ 0 ∷ 22 ∷ []) ++ (file_3 (3 ∷ [])
    ++ ((81920 + 4, 0 ∷ 2 ∷ [])
    ∷ (81920 + 516, 0 ∷ 2 ∷ [])
    ∷ (81920 + 1028, 0 ∷ 2 ∷ [])
    ∷ (81920 + 1540, 0 ∷ 2 ∷ [])
    ∷ (81920 + 2052, 0 ∷ 2 ∷ [])
    ∷ (81920 + 2564, 0 ∷ 2 ∷ [])
    ∷ (81920 + 3076, 0 ∷ 2 ∷ [])
    ∷ (81920 + 3588, 0 ∷ 2 ∷ [])
    ∷ (90112, 3 ∷ 0 ∷ 0 ∷ 0 ∷ 0 ∷ 2 ∷ 8 ∷ 1 ∷ 97 ∷ [])
    ∷ []))))

-- ---- a UFS1 of 64 fragments of 1,024 bytes, four to a block

-- the superblock at 8192, inode 2 at 18688, the root at 24576, the file "a" (inode 3) of one byte in fragment 28
unfoldable pub image_1 : List ℕ
image_1 =
    zeros_but 0 65536 (
    (8192 + 16, 18 ∷ [])
    ∷ (8192 + 28, 0xFF ∷ 0xFF ∷ 0xFF ∷ 0xFF ∷ [])
    ∷ (8192 + 44, 1 ∷ [])
    ∷ (8192 + 48, 0 ∷ 16 ∷ [])
    ∷ (8192 + 52, 0 ∷ 4 ∷ [])
    ∷ (8192 + 56, 4 ∷ [])
    ∷ (8192 + 116, 0 ∷ 4 ∷ [])
    ∷ (8192 + 120, 32 ∷ [])
    ∷ (8192 + 184, 32 ∷ [])
    ∷ (8192 + 188, 64 ∷ [])
    ∷ (8192 + 1372, 0x54 ∷ 0x19 ∷ 0x01 ∷ 0x00 ∷ [])
    ∷ (18688, 0xED ∷ 0x41 ∷ 2 ∷ [])
    ∷ (18688 + 8, 0 ∷ 2 ∷ [])
    ∷ (18688 + 40, 24 ∷ [])
    ∷ (18816, 0xA4 ∷ 0x81 ∷ 1 ∷ [])
    ∷ (18816 + 8, 1 ∷ [])
    ∷ (18816 + 40, 28 ∷ [])
    ∷ (24576, 2 ∷ 0 ∷ 0 ∷ 0 ∷ 12 ∷ 0 ∷ 4 ∷ 1 ∷ 46 ∷ [])
    ∷ (24588, 2 ∷ 0 ∷ 0 ∷ 0 ∷ 12 ∷ 0 ∷ 4 ∷ 2 ∷ 46 ∷ 46 ∷ [])
    ∷ (24600, 3 ∷ 0 ∷ 0 ∷ 0 ∷ 232 ∷ 1 ∷ 8 ∷ 1 ∷ 97 ∷ [])
    ∷ (28672, 120 ∷ [])
    ∷ [])

-- the same with the highest byte of each number first
unfoldable pub image_of_high_first : List ℕ
image_of_high_first =
    zeros_but 0 65536 (
    (8192 + 19, 18 ∷ [])
    ∷ (8192 + 28, 0xFF ∷ 0xFF ∷ 0xFF ∷ 0xFF ∷ [])
    ∷ (8192 + 47, 1 ∷ [])
    ∷ (8192 + 50, 16 ∷ 0 ∷ [])
    ∷ (8192 + 54, 4 ∷ 0 ∷ [])
    ∷ (8192 + 59, 4 ∷ [])
    ∷ (8192 + 118, 4 ∷ 0 ∷ [])
    ∷ (8192 + 123, 32 ∷ [])
    ∷ (8192 + 187, 32 ∷ [])
    ∷ (8192 + 191, 64 ∷ [])
    ∷ (8192 + 1372, 0x00 ∷ 0x01 ∷ 0x19 ∷ 0x54 ∷ [])
    ∷ (18688, 0x41 ∷ 0xED ∷ 0 ∷ 2 ∷ [])
    ∷ (18688 + 14, 2 ∷ 0 ∷ [])
    ∷ (18688 + 43, 24 ∷ [])
    ∷ (18816, 0x81 ∷ 0xA4 ∷ 0 ∷ 1 ∷ [])
    ∷ (18816 + 15, 1 ∷ [])
    ∷ (18816 + 43, 28 ∷ [])
    ∷ (24576, 0 ∷ 0 ∷ 0 ∷ 2 ∷ 0 ∷ 12 ∷ 4 ∷ 1 ∷ 46 ∷ [])
    ∷ (24588, 0 ∷ 0 ∷ 0 ∷ 2 ∷ 0 ∷ 12 ∷ 4 ∷ 2 ∷ 46 ∷ 46 ∷ [])
    ∷ (24600, 0 ∷ 0 ∷ 0 ∷ 3 ∷ 1 ∷ 232 ∷ 8 ∷ 1 ∷ 97 ∷ [])
    ∷ (28672, 120 ∷ [])
    ∷ [])
