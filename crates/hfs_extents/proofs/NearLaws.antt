-- The leaf records of a tree file whose pieces end by a byte of the image begin by it, and so do overflow records of one fork.
use Rattle.std.specs.Prelude.{◌≡◌, ℕ, zero, suc, ◌+◌, ◌-◌, ◌*◌, ◌<◌, ◌≤◌, Bool, true, false, ◌==◌, nat_lt, if◌then◌else◌, Option, Some, None, IfSome, unwrap_or, Result, Ok, List, [], ◌∷◌, length, refl}
use Rattle.std.specs.List.{All, filter}
use Rattle.std.proofs.Common.{sym, subst, arith}
use Rattle.std.proofs.lemmas.Bool.{ltb-true}
use Rattle.std.proofs.lemmas.List.Elements.{All-nil, All-cons, All-head, All-tail, All-append, All-weaker, All-filter}
use Rattle.std.proofs.lemmas.List.Sorted.{All-permutation}
use Rattle.range_defs.specs.declared.TheConstants.{LONGEST_IMAGE}
use Rattle.order_defs.specs.Sorted.{sorted_by}
use Rattle.order_defs.proofs.SortedLaws.{sorted_moves}
use Rattle.rx_ranges.specs.declared.pieces.Piece.{Piece}
use Rattle.rx_ranges.specs.declared.pieces.PieceKind.{PieceKind}
use Rattle.rx_ranges.specs.declared.pieces.PieceKind.TheVariants.{Disk, Zero}
use Rattle.piece_defs.specs.Places.{bytes_through, of_kind, place_through, IsWithin, AreWithin}
use Rattle.hfs_defs.specs.Nodes.{is_tree, first_leaf, is_sound_node, next_node, record_count, record_offset}
use Rattle.hfs_defs.specs.Leaves.{TreeFile, Leaf, LeafList, image_place, leaf_of, leaves_from, leaves_of_node, place_of, whole_nodes, node_in, node_place, is_leaf_in, leaves_in, ended, stopped, followed_by, chain_within, chain_step, leaves_where, leaves_of, tree_file}
use Rattle.hfs_defs.specs.Forks.{is_of, records_of}
use Rattle.hfs_defs.specs.declared.forks.OverflowRecord.{OverflowRecord}
use Rattle.hfs_btree.specs.Cursor.{Cursor, rest_of}
use Rattle.hfs_btree.specs.Lent.{Starts}
use Rattle.rx_store.specs.declared.read_fault.ReadFault.{ReadFault}
use Rattle.hfs_extents.specs.Extents.{AreNear}
use Rattle.hfs_extents.specs.Overflow.{IsNear}
use Rattle.hfs_extents.proofs.SortLaws.{by_key_total}
use Rattle.fault_defs.specs.declared.Refusal.TheVariants.{Damaged}
use Rattle.fault_defs.specs.declared.Sort.TheVariants.{NodeLink, NodeRecord}

-- a leaf begins by a byte of the image
abbrev pub BeginsBy : ℕ → Leaf → Type 0
BeginsBy end leaf = leaf.at ≤ end

kind_near : (end : ℕ) (kind : PieceKind) (at len skip : ℕ) → IsWithin end kind at len → skip ≤ len → unwrap_or (of_kind kind (at + skip)) 0 ≤ end
kind_near end Disk at len skip within inside = omega (arith, within, inside)
kind_near end Zero at len skip within inside = omega arith

pub place_near : (end : ℕ) (pieces : List Piece) (byte : ℕ) → AreWithin end pieces → image_place pieces byte ≤ end
place_near end [] byte within = omega arith
place_near end (piece ∷ pieces) byte within =
    either (nat_lt byte (piece.from + piece.len)) refl (place_near end pieces byte (All-tail (λ p. IsWithin end p.kind p.at p.len) piece pieces within))
  where
    either : (here : Bool) → nat_lt byte (piece.from + piece.len) ≡ here → image_place pieces byte ≤ end → unwrap_or (if here then of_kind piece.kind (piece.at + (byte - piece.from)) else place_through pieces byte) 0 ≤ end
    either true is behind =
        let inside : byte < piece.from + piece.len = ltb-true byte (piece.from + piece.len) is in
        kind_near end piece.kind piece.at piece.len (byte - piece.from) (All-head (λ p. IsWithin end p.kind p.at p.len) piece pieces within) (omega (arith, inside))
    either false is behind = behind

leaves_near : (end : ℕ) (pieces : List Piece) → AreWithin end pieces → (count n : ℕ) (node : List ℕ) (i : ℕ) → All (BeginsBy end) (leaves_from count pieces n node i)
leaves_near end pieces within zero n node i = All-nil (BeginsBy end)
leaves_near end pieces within (suc count) n node i =
    All-cons (BeginsBy end) (leaf_of pieces n node i) (leaves_from count pieces n node (i + 1)) (place_near end pieces (n * length node + record_offset node i) within) (leaves_near end pieces within count n node (i + 1))

node_near : (end : ℕ) (pieces : List Piece) (n : ℕ) (node : List ℕ) → AreWithin end pieces → All (BeginsBy end) (leaves_of_node pieces n node)
unfolding leaves_of_node
node_near end pieces n node within = leaves_near end pieces within (record_count node) n node 0

step_near : (end : ℕ) (file : TreeFile) (link n : ℕ) (behind : LeafList) → AreWithin end file.pieces → All (BeginsBy end) behind.records → All (BeginsBy end) (chain_step file link n behind).records
step_near end file link n behind within near = either (n == 0) (is_leaf_in file n) (is_sound_node (node_in file n))
  where
    either : (last leaf sound : Bool) → All (BeginsBy end) (if last then ended else (if leaf then (if sound then followed_by (leaves_in file n) behind else stopped (Damaged NodeRecord (node_place file n))) else stopped (Damaged NodeLink link))).records
    either true leaf sound = All-nil (BeginsBy end)
    either false false sound = All-nil (BeginsBy end)
    either false true false = All-nil (BeginsBy end)
    either false true true = All-append (BeginsBy end) (leaves_in file n) behind.records (node_near end file.pieces n (node_in file n) within) near

chain_near : (end left : ℕ) (file : TreeFile) (link n : ℕ) → AreWithin end file.pieces → All (BeginsBy end) (chain_within left file link n).records
unfolding chain_within
chain_near end zero file link n within = either (n == 0)
  where
    either : (last : Bool) → All (BeginsBy end) (if last then ended else stopped (Damaged NodeLink file.fork_data)).records
    either true = All-nil (BeginsBy end)
    either false = All-nil (BeginsBy end)
chain_near end (suc left) file link n within =
    step_near end file link n (chain_within left file (node_place file n) (next_node (node_in file n))) within (chain_near end left file (node_place file n) (next_node (node_in file n)) within)

-- the leaf records of a tree file
pub leaves_begin : (end : ℕ) (file : TreeFile) → AreWithin end file.pieces → All (BeginsBy end) (leaves_of file).records
unfolding leaves_of
leaves_begin end file within = either (is_tree file.bytes)
  where
    either : (tree : Bool) → All (BeginsBy end) (leaves_where file tree).records
    either true = chain_near end (whole_nodes file) file (place_of file 24) (first_leaf file.bytes) within
    either false = All-nil (BeginsBy end)

-- where a reader of them begins, those that are to come do
pub starts_near : (end : ℕ) (told : Option (List ℕ)) (pieces : List Piece) (place : ℕ) (leaves : Cursor) → AreWithin end pieces → end ≤ LONGEST_IMAGE
    → IfSome told (λ image. let started : Result Cursor ReadFault = Ok leaves in Starts image (tree_file (bytes_through image pieces) pieces place) started) → IfSome told (λ image. All IsNear (rest_of image leaves).records)
starts_near end None pieces place leaves within short starts = tt
starts_near end (Some image) pieces place leaves within short starts =
    let P : LeafList → Type 0 = λ list. All IsNear list.records in
    let file : TreeFile = tree_file (bytes_through image pieces) pieces place in
    subst P (sym starts.1) (All-weaker (BeginsBy end) IsNear (λ leaf begins. omega (arith, begins, short)) (leaves_of file).records (leaves_begin end file within))

-- the overflow records of a fork begin where they all do
pub records_near : (records found : List OverflowRecord) (file fork_type : ℕ) → AreNear records → found ≡ records_of records file fork_type → AreNear found
unfolding records_of
records_near records found file fork_type near is = let P : List OverflowRecord → Type 0 = λ list. AreNear list in subst P (sym is) (either (file == 3))
  where
    either : (own : Bool) → AreNear (if own then [] else sorted_by (λ overflow. overflow.start) (filter (is_of file fork_type) records))
    either true = All-nil (λ (overflow : OverflowRecord). overflow.at ≤ LONGEST_IMAGE)
    either false =
        All-permutation (λ (overflow : OverflowRecord). overflow.at ≤ LONGEST_IMAGE) (filter (is_of file fork_type) records) (sorted_by (λ overflow. overflow.start) (filter (is_of file fork_type) records))
        (sorted_moves (by_key_total (λ (overflow : OverflowRecord). overflow.start)) (filter (is_of file fork_type) records))
        (All-filter (is_of file fork_type) (λ (overflow : OverflowRecord). overflow.at ≤ LONGEST_IMAGE) records near)
