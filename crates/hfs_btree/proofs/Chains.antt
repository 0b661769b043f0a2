-- What reading one node says of the chain that goes on with it.
use Rattle.std.specs.Prelude.{◌≡◌, ℕ, zero, suc, ◌-◌, ◌*◌, ◌/◌, ◌<◌, ◌≤◌, ◌==◌, true, false, nat_lt, Option, Some, None, IfSome, Ok, Err, List, length, refl}
use Rattle.std.proofs.Common.{ap, sym, ◌∙◌, subst, arith}
use Rattle.std.proofs.lemmas.Bool.{le-ltb, lt-ltb, and_left, and_right}
use Rattle.std.proofs.lemmas.Bool.Decides.{nat_tests}
use Rattle.bytes_defs.specs.Bytes.{part}
use Rattle.rx_ranges.specs.declared.pieces.Piece.{Piece}
use Rattle.piece_defs.specs.Joined.{AreInARow}
use Rattle.piece_defs.specs.Places.{bytes_through, AreWithin}
use Rattle.piece_defs.proofs.ByteLaws.{length-through}
use Rattle.hfs_defs.specs.Nodes.{is_leaf, is_sound_node, next_node}
use Rattle.hfs_defs.specs.Leaves.{TreeFile, image_place, whole_nodes, node_in, node_place, is_leaf_in, leaves_of_node, leaves_in, ended, stopped, followed_by, chain_within}
use Rattle.hfs_defs.specs.Chain.{IsGoodNode}
use Rattle.hfs_defs.proofs.LeafLaws.{too_long, is_contiguous}
use Rattle.hfs_btree.specs.Cursor.{file_on, IsEntered}
use Rattle.fault_defs.specs.declared.Refusal.TheVariants.{Damaged}
use Rattle.fault_defs.specs.declared.Sort.TheVariants.{NodeLink, NodeRecord}
use Rattle.rx_store.specs.declared.read_fault.ReadFault.TheVariants as read

-- ---- one node of a chain

no_node_left : (file : TreeFile) (left link n : ℕ) → left ≡ 0 → 0 < n → chain_within left file link n ≡ stopped (Damaged NodeLink file.fork_data)
unfolding chain_within
no_node_left file zero link n none some = too_long file n some
no_node_left file (suc left) link n none some = absurd (omega (arith, none))

no_leaf : (file : TreeFile) (left link n : ℕ) → 0 < left → 0 < n → is_leaf_in file n ≡ false → chain_within left file link n ≡ stopped (Damaged NodeLink link)
unfolding chain_within
no_leaf file zero link n more some out = absurd (omega (arith, more))
no_leaf file (suc left) link n more some out =
    let other : (n == 0) ≡ false = grind (arith, nat_tests) in
    rw (other, out) refl

unsound : (file : TreeFile) (left link n : ℕ) → 0 < left → 0 < n → is_leaf_in file n ≡ true → is_sound_node (node_in file n) ≡ false → chain_within left file link n ≡ stopped (Damaged NodeRecord (node_place file n))
unfolding chain_within
unsound file zero link n more some leaf bad = absurd (omega (arith, more))
unsound file (suc left) link n more some leaf bad =
    let other : (n == 0) ≡ false = grind (arith, nat_tests) in
    rw (other, leaf, bad) refl

good_node : (file : TreeFile) (left link n : ℕ) → 0 < left → IsGoodNode file n
    → chain_within left file link n ≡ followed_by (leaves_in file n) (chain_within (left - 1) file (node_place file n) (next_node (node_in file n)))
unfolding chain_within
good_node file zero link n more good = absurd (omega (arith, more))
good_node file (suc left) link n more good =
    let same : left ≡ suc left - 1 = omega arith in
    is_contiguous file link n (chain_within left file (node_place file n) (next_node (node_in file n))) good
    ∙ ap (λ k. followed_by (leaves_in file n) (chain_within k file (node_place file n) (next_node (node_in file n)))) same

pub at_the_end : (file : TreeFile) (left link n : ℕ) → n ≡ 0 → chain_within left file link n ≡ ended
unfolding chain_within
at_the_end file zero link n none = let is : (n == 0) ≡ true = grind (arith, nat_tests) in rw is refl
at_the_end file (suc left) link n none = let is : (n == 0) ≡ true = grind (arith, nat_tests) in rw is refl

outside : (file : TreeFile) (n : ℕ) → whole_nodes file ≤ n → is_leaf_in file n ≡ false
unfolding is_leaf_in
outside file n past = and_left (nat_lt n (whole_nodes file)) (is_leaf (node_in file n)) (le-ltb n (whole_nodes file) past)

other_kind : (file : TreeFile) (n : ℕ) → is_leaf (node_in file n) ≡ false → is_leaf_in file n ≡ false
unfolding is_leaf_in
other_kind file n other = and_right (nat_lt n (whole_nodes file)) (is_leaf (node_in file n)) other

leaf_there : (file : TreeFile) (n : ℕ) → n < whole_nodes file → is_leaf (node_in file n) ≡ true → is_leaf_in file n ≡ true
unfolding is_leaf_in
leaf_there file n inside leaf =
    let whole : nat_lt n (whole_nodes file) ≡ true = lt-ltb n (whole_nodes file) inside in
    rw whole leaf

-- ---- the same of a node that was read, where the image is told

-- a node of a file of `len` bytes, whose bytes were read
pub record IsNodeRead (image : List ℕ) (pieces : List Piece) (len size n : ℕ) (node : List ℕ) : Type 0 where
  pub long : length (bytes_through image pieces) ≡ len
  pub inside : n < len / size
  pub bytes : node ≡ part (bytes_through image pieces) (n * size) size

pub long_on : (image : List ℕ) (size len : ℕ) (pieces : List Piece) → length image ≡ size → AreWithin size pieces → AreInARow 0 len pieces → length (bytes_through image pieces) ≡ len
long_on image size len pieces is within row =
    let there : AreWithin (length image) pieces = let P : ℕ → Type 0 = λ n. AreWithin n pieces in subst P (sym is) within in
    omega (arith, length-through image 0 len pieces row there)

pub none_told : (told : Option (List ℕ)) (pieces : List Piece) (fork_data size link n left : ℕ) (node : List ℕ) → left ≡ 0 → 0 < n
    → IfSome told (λ image. IsEntered (file_on image pieces fork_data size) link n left (Err (read.Damaged NodeLink fork_data)) node)
none_told None pieces fork_data size link n left node none some = tt
none_told (Some image) pieces fork_data size link n left node none some = no_node_left (file_on image pieces fork_data size) left link n none some

pub outside_told : (told : Option (List ℕ)) (pieces : List Piece) (image_size len fork_data size link n left : ℕ) (node : List ℕ) → IfSome told (λ image. length image ≡ image_size)
    → AreWithin image_size pieces → AreInARow 0 len pieces → 0 < left → 0 < n → len / size ≤ n
    → IfSome told (λ image. IsEntered (file_on image pieces fork_data size) link n left (Err (read.Damaged NodeLink link)) node)
outside_told None pieces image_size len fork_data size link n left node is within row more some past = tt
outside_told (Some image) pieces image_size len fork_data size link n left node is within row more some past =
    let P : ℕ → Type 0 = λ k. k / size ≤ n in
    no_leaf (file_on image pieces fork_data size) left link n more some
    (outside (file_on image pieces fork_data size) n (subst P (sym (long_on image image_size len pieces is within row)) past))

pub other_told : (told : Option (List ℕ)) (pieces : List Piece) (fork_data size link n left : ℕ) (node : List ℕ)
    → IfSome told (λ image. node ≡ part (bytes_through image pieces) (n * size) (length node)) → length node ≡ size → 0 < left → 0 < n → is_leaf node ≡ false
    → IfSome told (λ image. IsEntered (file_on image pieces fork_data size) link n left (Err (read.Damaged NodeLink link)) node)
other_told None pieces fork_data size link n left node bytes long more some other = tt
other_told (Some image) pieces fork_data size link n left node bytes long more some other =
    let P : List ℕ → Type 0 = λ b. is_leaf b ≡ false in
    let there : node ≡ part (bytes_through image pieces) (n * size) size = bytes ∙ ap (part (bytes_through image pieces) (n * size)) long in
    no_leaf (file_on image pieces fork_data size) left link n more some (other_kind (file_on image pieces fork_data size) n (subst P there other))

pub read_told : (told : Option (List ℕ)) (pieces : List Piece) (image_size len size n : ℕ) (node : List ℕ) → IfSome told (λ image. length image ≡ image_size)
    → AreWithin image_size pieces → AreInARow 0 len pieces → n < len / size → IfSome told (λ image. node ≡ part (bytes_through image pieces) (n * size) (length node)) → length node ≡ size
    → IfSome told (λ image. IsNodeRead image pieces len size n node)
read_told None pieces image_size len size n node is within row inside bytes same = tt
read_told (Some image) pieces image_size len size n node is within row inside bytes same = record {
  long = long_on image image_size len pieces is within row;
  inside = inside;
  bytes = bytes ∙ ap (part (bytes_through image pieces) (n * size)) same;
}

leaf_read : (image : List ℕ) (pieces : List Piece) (len fork_data size n : ℕ) (node : List ℕ) → IsNodeRead image pieces len size n node → is_leaf node ≡ true
    → is_leaf_in (file_on image pieces fork_data size) n ≡ true
leaf_read image pieces len fork_data size n node at leaf =
    let P : List ℕ → Type 0 = λ b. is_leaf b ≡ true in
    let Q : ℕ → Type 0 = λ k. n < k / size in
    leaf_there (file_on image pieces fork_data size) n (subst Q (sym at.long) at.inside) (subst P at.bytes leaf)

pub unsound_told : (told : Option (List ℕ)) (pieces : List Piece) (len fork_data size link n left place : ℕ) (node : List ℕ) → IfSome told (λ image. IsNodeRead image pieces len size n node)
    → 0 < left → 0 < n → is_leaf node ≡ true → is_sound_node node ≡ false → place ≡ image_place pieces (n * size)
    → IfSome told (λ image. IsEntered (file_on image pieces fork_data size) link n left (Err (read.Damaged NodeRecord place)) node)
unsound_told None pieces len fork_data size link n left place node at more some leaf bad is = tt
unsound_told (Some image) pieces len fork_data size link n left place node at more some leaf bad is =
    let P : List ℕ → Type 0 = λ b. is_sound_node b ≡ false in
    unsound (file_on image pieces fork_data size) left link n more some (leaf_read image pieces len fork_data size n node at leaf) (subst P at.bytes bad)
    ∙ ap (λ p. stopped (Damaged NodeRecord p)) (sym is)

pub good_told : (told : Option (List ℕ)) (pieces : List Piece) (len fork_data size link n left place : ℕ) (node : List ℕ) → IfSome told (λ image. IsNodeRead image pieces len size n node)
    → 0 < left → 0 < n → is_leaf node ≡ true → is_sound_node node ≡ true → place ≡ image_place pieces (n * size)
    → IfSome told (λ image. IsEntered (file_on image pieces fork_data size) link n left (Ok place) node)
good_told None pieces len fork_data size link n left place node at more some leaf sound is = tt
good_told (Some image) pieces len fork_data size link n left place node at more some leaf sound is =
    let file : TreeFile = file_on image pieces fork_data size in
    let P : List ℕ → Type 0 = λ b. is_sound_node b ≡ true in
    let Q : List ℕ → Type 0 = λ b. chain_within left file link n ≡ followed_by (leaves_of_node pieces n b) (chain_within (left - 1) file (image_place pieces (n * size)) (next_node b)) in
    let R : ℕ → Type 0 = λ p. chain_within left file link n ≡ followed_by (leaves_of_node pieces n node) (chain_within (left - 1) file p (next_node node)) in
    subst R (sym is)
    (subst Q (sym at.bytes) (good_node file left link n more (record { some = some; leaf = leaf_read image pieces len fork_data size n node at leaf; sound = subst P at.bytes sound })))
