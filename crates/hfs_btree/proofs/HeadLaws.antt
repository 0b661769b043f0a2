-- What the first bytes of a tree file say.
use Rattle.std.specs.Prelude.{◌≡◌, ℕ, ◌/◌, ◌<◌, ◌≤◌, ◌==◌, ◌&&◌, Bool, true, false, nat_le, Option, Some, None, IfSome, Ok, Err, List, [], length, slice_index, refl}
use Rattle.std.specs.Int.{is_power_of_two}
use Rattle.std.proofs.Common.{ap, sym, ◌∙◌, arith}
use Rattle.std.proofs.lemmas.Bool.{and_parts, and_from}
use Rattle.std.proofs.lemmas.Bool.Decides.{nat_tests}
use Rattle.std.proofs.lemmas.List.{get_or-take}
use Rattle.bytes_defs.specs.Bytes.{part}
use Rattle.bytes_defs.specs.Numbers.{big_at}
use Rattle.bytes_defs.specs.declared.order.Order.TheVariants.{Big}
use Rattle.bytes_defs.proofs.NumberLaws.{number_at_part}
use Rattle.rx_ranges.specs.declared.pieces.Piece.{Piece}
use Rattle.piece_defs.specs.Joined.{AreInARow}
use Rattle.piece_defs.specs.Places.{bytes_through, AreWithin}
use Rattle.hfs_defs.specs.Nodes.{is_node_size, is_tree, node_size_of}
use Rattle.hfs_defs.specs.Leaves.{TreeFile, tree_file, leaves_of, leaves_where, stopped, image_place}
use Rattle.hfs_btree.proofs.Chains.{long_on}
use Rattle.hfs_btree.specs.Cursor.{Cursor, rest_of}
use Rattle.hfs_btree.specs.Heads.{HasHead}
use Rattle.hfs_btree.specs.Lent.{Starts}
use Rattle.hfs_btree.specs.declared.head.Head.{Head}
use Rattle.fault_defs.specs.declared.Refusal.TheVariants as refusal
use Rattle.fault_defs.specs.declared.Sort.TheVariants.{TreeHeader}
use Rattle.rx_store.specs.declared.read_fault.ReadFault.TheVariants as read

no_tree : (file : TreeFile) → is_tree file.bytes ≡ false → leaves_of file ≡ stopped (refusal.Damaged TreeHeader file.fork_data)
unfolding leaves_of
no_tree file none = ap (leaves_where file) none

pub size_is_long : (len size : ℕ) → is_node_size len size ≡ true → 512 ≤ size
unfolding is_node_size
size_is_long len size is =
    let behind = (and_parts (is_power_of_two size) _ is).1 in
    grind (arith, nat_tests, (and_parts (nat_le 512 size) _ behind).0)

size_fits : (len size : ℕ) → is_node_size len size ≡ true → size ≤ len
unfolding is_node_size
size_fits len size is =
    let behind = (and_parts (is_power_of_two size) _ is).1 in
    let short = (and_parts (nat_le 512 size) _ behind).1 in
    grind (arith, nat_tests, (and_parts (nat_le size 32768) _ short).1)

too_short : (bytes : List ℕ) → length bytes < 512 → is_tree bytes ≡ false
unfolding is_tree
too_short bytes short = either (is_node_size (length bytes) (node_size_of bytes)) refl
  where
    either : (size : Bool) → is_node_size (length bytes) (node_size_of bytes) ≡ size → (size && slice_index bytes 8 == 1) ≡ false
    either true is = absurd (omega (arith, short, size_is_long (length bytes) (node_size_of bytes) is, size_fits (length bytes) (node_size_of bytes) is))
    either false is = refl

pub short_told : (told : Option (List ℕ)) (pieces : List Piece) (image_size len fork_data : ℕ) → IfSome told (λ image. length image ≡ image_size) → AreWithin image_size pieces → AreInARow 0 len pieces → len < 512
    → IfSome told (λ image. HasHead (tree_file (bytes_through image pieces) pieces fork_data) (Err (read.Damaged TreeHeader fork_data)))
short_told None pieces image_size len fork_data is within row short = tt
short_told (Some image) pieces image_size len fork_data is within row short =
    let none : is_tree (bytes_through image pieces) ≡ false = too_short (bytes_through image pieces) (omega (arith, short, long_on image image_size len pieces is within row)) in
    (none, no_tree (tree_file (bytes_through image pieces) pieces fork_data) none)

-- the test of the first bytes is that of them all
head_tells : (bytes head : List ℕ) (len : ℕ) → length bytes ≡ len → head ≡ part bytes 0 34 → (is_node_size len (big_at 2 head 32) && slice_index head 8 == 1) ≡ is_tree bytes
unfolding is_tree part
head_tells bytes head len long is =
    let size : big_at 2 head 32 ≡ node_size_of bytes = ap (λ b. big_at 2 b 32) is ∙ number_at_part Big 2 bytes 0 34 32 (omega arith) in
    let kind : slice_index head 8 ≡ slice_index bytes 8 = ap (λ b. slice_index b 8) is ∙ get_or-take 34 bytes 8 0 (omega arith) in
    rw (size, kind, long) refl

pub no_head_told : (told : Option (List ℕ)) (pieces : List Piece) (image_size len fork_data : ℕ) (head : List ℕ) → IfSome told (λ image. length image ≡ image_size) → AreWithin image_size pieces → AreInARow 0 len pieces
    → IfSome told (λ image. head ≡ part (bytes_through image pieces) 0 (length head)) → length head ≡ 34 → (is_node_size len (big_at 2 head 32) && slice_index head 8 == 1) ≡ false
    → IfSome told (λ image. HasHead (tree_file (bytes_through image pieces) pieces fork_data) (Err (read.Damaged TreeHeader fork_data)))
no_head_told None pieces image_size len fork_data head is within row bytes all none = tt
no_head_told (Some image) pieces image_size len fork_data head is within row bytes all none =
    let no : is_tree (bytes_through image pieces) ≡ false =
    sym (head_tells (bytes_through image pieces) head len (long_on image image_size len pieces is within row) (bytes ∙ ap (part (bytes_through image pieces) 0) all)) ∙ none in
    (no, no_tree (tree_file (bytes_through image pieces) pieces fork_data) no)

pub head_told : (told : Option (List ℕ)) (pieces : List Piece) (image_size len fork_data : ℕ) (head : List ℕ) (size first : ℕ) → IfSome told (λ image. length image ≡ image_size) → AreWithin image_size pieces → AreInARow 0 len pieces
    → IfSome told (λ image. head ≡ part (bytes_through image pieces) 0 (length head)) → length head ≡ 34 → is_node_size len (big_at 2 head 32) ≡ true → slice_index head 8 ≡ 1
    → size ≡ big_at 2 head 32 → first ≡ big_at 4 head 24
    → IfSome told (λ image. HasHead (tree_file (bytes_through image pieces) pieces fork_data) (Ok (record { node_size = size; first_leaf = first })))
head_told None pieces image_size len fork_data head size first is within row bytes all good one size_is first_is = tt
head_told (Some image) pieces image_size len fork_data head size first is within row bytes all good one size_is first_is =
    let there : head ≡ part (bytes_through image pieces) 0 34 = bytes ∙ ap (part (bytes_through image pieces) 0) all in
    let kind : (slice_index head 8 == 1) ≡ true = grind (arith, nat_tests) in
    let tree : is_tree (bytes_through image pieces) ≡ true =
    sym (head_tells (bytes_through image pieces) head len (long_on image image_size len pieces is within row) there) ∙ and_from (is_node_size len (big_at 2 head 32)) (slice_index head 8 == 1) good kind in (
      tree,
      size_is ∙ ap (λ b. big_at 2 b 32) there ∙ number_at_part Big 2 (bytes_through image pieces) 0 34 32 (omega arith),
      first_is ∙ ap (λ b. big_at 4 b 24) there ∙ number_at_part Big 4 (bytes_through image pieces) 0 34 24 (omega arith),
    )

-- ---- in front of the first record

starts : (image : List ℕ) (pieces : List Piece) (len fork_data : ℕ) (head : Head) (cursor : Cursor) → length (bytes_through image pieces) ≡ len
    → HasHead (tree_file (bytes_through image pieces) pieces fork_data) (Ok head) → cursor.pieces ≡ pieces → cursor.fork_data ≡ fork_data → cursor.node_size ≡ head.node_size → cursor.pending ≡ []
    → cursor.link ≡ image_place pieces 24 → cursor.next ≡ head.first_leaf → cursor.left ≡ len / head.node_size
    → Starts image (tree_file (bytes_through image pieces) pieces fork_data) (Ok cursor)
unfolding rest_of leaves_of
starts image pieces len fork_data head cursor long has pieces_are data_is size_is none link_is next_is left_is =
    (has.0, rw (pieces_are, data_is, size_is, none, link_is, next_is, left_is, has.1, has.2, has.0, sym long) refl)

pub starts_told : (told : Option (List ℕ)) (pieces : List Piece) (image_size len fork_data : ℕ) (head : Head) (cursor : Cursor) → IfSome told (λ image. length image ≡ image_size) → AreWithin image_size pieces → AreInARow 0 len pieces
    → IfSome told (λ image. HasHead (tree_file (bytes_through image pieces) pieces fork_data) (Ok head)) → cursor.pieces ≡ pieces → cursor.fork_data ≡ fork_data → cursor.node_size ≡ head.node_size → cursor.pending ≡ []
    → cursor.link ≡ image_place pieces 24 → cursor.next ≡ head.first_leaf → cursor.left ≡ len / head.node_size
    → IfSome told (λ image. Starts image (tree_file (bytes_through image pieces) pieces fork_data) (Ok cursor))
starts_told None pieces image_size len fork_data head cursor is within row has pieces_are data_is size_is none link_is next_is left_is = tt
starts_told (Some image) pieces image_size len fork_data head cursor is within row has pieces_are data_is size_is none link_is next_is left_is =
    starts image pieces len fork_data head cursor (long_on image image_size len pieces is within row) has pieces_are data_is size_is none link_is next_is left_is
