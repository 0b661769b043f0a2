-- Forks and tree files whose pieces and records are worked out by hand.
use Rattle.std.specs.Prelude.{◌≡◌, ℕ, ◌+◌, Some, None, Err, List, [], ◌∷◌, ◌++◌, length, replicate, refl}
use Rattle.std.specs.Int.Count.{ones}
use Rattle.std.proofs.Common.{sym, arith}
use Rattle.std.proofs.lemmas.List.Elements.{All-cons, All-nil}
use Rattle.range_defs.specs.declared.Range.{Range}
use Rattle.range_defs.specs.Places.{covers}
use Rattle.range_defs.proofs.RangeLaws.{EndsBy, same_as_longest_ranges}
use Rattle.rx_ranges.specs.declared.pieces.PieceKind.TheVariants.{Disk}
use Rattle.bytes_defs.specs.Bytes.{part}
use Rattle.bytes_defs.specs.Numbers.{number_at}
use Rattle.order_defs.specs.Sorted.{sorted_by_order}
use Rattle.hfs_defs.specs.Forks.{byte_place, pieces_of, slack_of, rests_from, records_of, fork_fault, found_fork, extents_with}
use Rattle.hfs_defs.specs.Nodes.{is_tree, is_node_size, is_sound_node, is_record}
use Rattle.hfs_defs.specs.Leaves.{TreeFile, tree_file, leaves_of, chain_within, leaves_of_node, is_leaf_in}
use Rattle.fault_defs.specs.declared.Refusal.TheVariants.{Damaged}
use Rattle.fault_defs.specs.declared.Sort.TheVariants.{ForkExtent, ForkSum, NodeLink}
use Rattle.hfs_defs.specs.declared.forks.Extent.{Extent}
use Rattle.hfs_defs.specs.declared.forks.Fork.{Fork}
use Rattle.hfs_defs.specs.declared.forks.OverflowRecord.{OverflowRecord}
use Rattle.hfs_defs.specs.declared.header.Header.{Header}

extent : ℕ → ℕ → Extent
extent start count = record { start = start; count = count }

abbrev none : Extent
none = record { start = 0; count = 0 }

abbrev fork_with : ℕ → ℕ → Extent → Extent → Fork
fork_with size blocks first second = record {
  logical_size = size;
  total_blocks = blocks;
  extents = first ∷ second ∷ none ∷ none ∷ none ∷ none ∷ none ∷ none ∷ [];
}

abbrev empty : Fork
empty = fork_with 0 0 none none

-- a volume at 0 of 1,000 blocks of 4,096 bytes
abbrev small_volume : Header
small_volume = record {
  at = 0;
  len = 4096000;
  signature = 0x482B;
  version = 4;
  block_size = 4096;
  total_blocks = 1000;
  allocation = empty;
  extents = empty;
  catalog = empty;
  attributes = empty;
  startup = empty;
}

abbrev two_runs : ℕ → Fork
two_runs blocks = fork_with 5000 blocks (record { start = 10; count = 1 }) (record { start = 20; count = 1 })

-- ---- a fork of 5,000 bytes in block 10 and block 20

two_runs_pieces : pieces_of small_volume 5000 (extents_with [] (two_runs 2)) ≡ record { from = 0; len = 4096; kind = Disk; at = 40960 } ∷ record { from = 4096; len = 904; kind = Disk; at = 81920 } ∷ []
unfolding pieces_of
two_runs_pieces = refl

two_runs_slack : slack_of small_volume 5000 (extents_with [] (two_runs 2)) ≡ record { at = 82824; len = 3192 } ∷ []
unfolding slack_of
two_runs_slack =
    let rest : Range = record { at = 82824; len = 3192 } in
    sym (same_as_longest_ranges (covers (rests_from small_volume 5000 0 (extents_with [] (two_runs 2)))) 4096000 (rest ∷ [])
    (omega arith, tt, tt) (λ byte. refl)
    (All-cons (EndsBy 4096000) rest [] (omega arith) (All-nil (EndsBy 4096000))))

two_runs_found : fork_fault small_volume [] (two_runs 2) 5000000 ≡ None
unfolding fork_fault
two_runs_found = refl

bytes_of_two_runs :
    -- the last byte of block 10, the first of block 20, and the first behind
    (byte_place small_volume (extents_with [] (two_runs 2)) 4095 ≡ Some 45055)
    × (byte_place small_volume (extents_with [] (two_runs 2)) 4096 ≡ Some 81920)  -- second places
    × (byte_place small_volume (extents_with [] (two_runs 2)) 8192 ≡ None)  -- past places
unfolding byte_place
bytes_of_two_runs = (refl, refl, refl)

sums_refused :
    (found_fork small_volume [] (two_runs 3) 5000000 ≡ Err (Damaged ForkSum 5000000))  -- with three blocks, and with an extent that passes the volume
    -- past volume
    × (found_fork small_volume [] (fork_with 5000 2 (record { start = 999; count = 2 }) none) 5000000 ≡ Err (Damaged ForkExtent 5000016))
unfolding found_fork fork_fault
sums_refused = (refl, refl)

-- ---- ten extents, the last two in an overflow record

abbrev eight_runs : ℕ → List Extent
eight_runs start =
    record { start = start; count = 1 }
    ∷ record { start = start + 2; count = 1 }
    ∷ record { start = start + 4; count = 1 }
    ∷ record { start = start + 6; count = 1 }
    ∷ record { start = start + 8; count = 1 }
    ∷ record { start = start + 10; count = 1 }
    ∷ record { start = start + 12; count = 1 }
    ∷ record { start = start + 14; count = 1 }
    ∷ []

abbrev ten_runs : Fork
ten_runs = record { logical_size = 40000; total_blocks = 10; extents = eight_runs 100 }

abbrev overflow_at : ℕ → ℕ → Extent → Extent → ℕ → OverflowRecord
overflow_at file start first second at = record {
  file = file;
  fork_type = 0;
  start = start;
  extents = first ∷ second ∷ none ∷ none ∷ none ∷ none ∷ none ∷ none ∷ [];
  at = at;
}

abbrev one_at : ℕ → Extent
one_at start = record { start = start; count = 1 }

ten_runs_pieces : length (pieces_of small_volume 40000 (extents_with (records_of (overflow_at 20 8 (one_at 300) (one_at 302) 70000 ∷ []) 20 0) ten_runs)) ≡ 10
unfolding pieces_of records_of sorted_by_order
ten_runs_pieces = refl

ten_runs_found : fork_fault small_volume (records_of (overflow_at 20 8 (one_at 300) (one_at 302) 70000 ∷ []) 20 0) ten_runs 5000000 ≡ None
unfolding fork_fault records_of sorted_by_order
ten_runs_found = refl

records_of_another :
    -- the record is of another file, or of the other fork
    (found_fork small_volume (records_of (overflow_at 21 8 (one_at 300) (one_at 302) 70000 ∷ []) 20 0) ten_runs 5000000 ≡ Err (Damaged ForkSum 5000000))
    -- other fork
    × (found_fork small_volume (records_of (overflow_at 20 8 (one_at 300) (one_at 302) 70000 ∷ []) 20 255) ten_runs 5000000 ≡ Err (Damaged ForkSum 5000000))
unfolding found_fork fork_fault records_of sorted_by_order
records_of_another = (refl, refl)

records_in_order :
    -- two records that stand the other way round
    (fork_fault small_volume (records_of (overflow_at 20 9 (one_at 302) none 70000 ∷ overflow_at 20 8 (one_at 300) none 70100 ∷ []) 20 0) ten_runs 5000000 ≡ None)
    -- an empty record in front of one that begins at the same block, and behind it
    × (fork_fault small_volume (records_of (overflow_at 20 8 none none 70000 ∷ overflow_at 20 8 (one_at 300) (one_at 302) 70100 ∷ []) 20 0) ten_runs 5000000 ≡ None)
    -- empty behind
    × (fork_fault small_volume (records_of (overflow_at 20 8 (one_at 300) (one_at 302) 70000 ∷ overflow_at 20 8 none none 70100 ∷ []) 20 0) ten_runs 5000000 ≡ Some (Damaged ForkSum 5000000))
unfolding fork_fault records_of sorted_by_order
records_in_order = (refl, refl, refl)

-- an extent of an overflow record passes the volume
overflow_past : found_fork small_volume (records_of (overflow_at 20 8 (one_at 300) (one_at 1000) 70000 ∷ []) 20 0) ten_runs 5000000 ≡ Err (Damaged ForkExtent 70020)
unfolding found_fork fork_fault records_of sorted_by_order
overflow_past = refl

-- the first byte of the ninth extent
ninth_extent : byte_place small_volume (extents_with (records_of (overflow_at 20 8 (one_at 300) (one_at 302) 70000 ∷ []) 20 0) ten_runs) 32768 ≡ Some 1228800
unfolding byte_place records_of sorted_by_order
ninth_extent = refl

-- ---- a fork of no bytes that has blocks, and one of five bytes that has none

abbrev no_bytes : Fork
no_bytes = fork_with 0 2 (record { start = 10; count = 2 }) none

no_bytes_found : fork_fault small_volume [] no_bytes 5000000 ≡ None
unfolding fork_fault
no_bytes_found = refl

no_bytes_pieces : pieces_of small_volume 0 (extents_with [] no_bytes) ≡ []
unfolding pieces_of
no_bytes_pieces = refl

no_bytes_slack : slack_of small_volume 0 (extents_with [] no_bytes) ≡ record { at = 40960; len = 8192 } ∷ []
unfolding slack_of
no_bytes_slack =
    let rest : Range = record { at = 40960; len = 8192 } in
    sym (same_as_longest_ranges (covers (rests_from small_volume 0 0 (extents_with [] no_bytes))) 4096000 (rest ∷ [])
    (omega arith, tt, tt) (λ byte. refl)
    (All-cons (EndsBy 4096000) rest [] (omega arith) (All-nil (EndsBy 4096000))))

no_blocks : found_fork small_volume [] (fork_with 5 0 none none) 5000000 ≡ Err (Damaged ForkSum 5000000)
unfolding found_fork fork_fault
no_blocks = refl

-- ---- a tree file of three nodes of 512 bytes

-- the header node: first leaf node, and the size of a node
abbrev header_node : ℕ → List ℕ
header_node first =
    replicate 8 0 ++ (1 ∷ replicate 15 0 ++ (0 ∷ 0 ∷ 0 ∷ first ∷ [] ++ (replicate 4 0 ++ (2 ∷ 0 ∷ replicate 478 0))))

-- a leaf node with a record of four bytes at 14, whose key has two
abbrev leaf_node : ℕ → ℕ → List ℕ
leaf_node next byte =
    0 ∷ 0 ∷ 0 ∷ next ∷ 0 ∷ 0 ∷ 0 ∷ 0 ∷ 255 ∷ 1 ∷ 0 ∷ 1 ∷ 0 ∷ 0 ∷ 0 ∷ 2 ∷ byte ∷ byte ∷ (replicate 490 0 ++ (0 ∷ 18 ∷ 0 ∷ 14 ∷ []))

-- node 2 comes first, and then node 1. The file lies in two pieces.
abbrev small_tree : ℕ → ℕ → TreeFile
small_tree first last =
    tree_file (header_node first ++ (leaf_node last 7 ++ leaf_node 1 9))
    (record { from = 0; len = 1000; kind = Disk; at = 8192 } ∷ record { from = 1000; len = 536; kind = Disk; at = 4096 } ∷ [])
    1296

two_leaves : leaves_of (small_tree 2 0) ≡ record {
  records = record { node = 2; index = 0; at = 4134; bytes = 0 ∷ 2 ∷ 9 ∷ 9 ∷ [] } ∷ record { node = 1; index = 0; at = 8718; bytes = 0 ∷ 2 ∷ 7 ∷ 7 ∷ [] } ∷ [];
  stop = None;
}
unfolding leaves_of chain_within leaves_of_node is_leaf_in is_tree is_node_size is_sound_node is_record part number_at ones
two_leaves = refl

links_lead :
    ((leaves_of (small_tree 2 1)).stop ≡ Some (Damaged NodeLink 1296))  -- the last node leads to itself, or to no node
    × ((leaves_of (small_tree 2 3)).stop ≡ Some (Damaged NodeLink 8704))  -- leads outside
    × (leaves_of (small_tree 3 0) ≡ record { records = []; stop = Some (Damaged NodeLink 8216) })  -- the header leads to no node
    × (leaves_of (small_tree 0 0) ≡ record { records = []; stop = None })  -- a tree without leaves
unfolding leaves_of chain_within leaves_of_node is_leaf_in is_tree is_node_size is_sound_node is_record part number_at ones
links_lead = (refl, refl, refl, refl)
