-- The steps of a cursor, and what is still to come after each.
use Rattle.std.specs.Prelude.{◌≡◌, ℕ, zero, suc, ◌+◌, ◌-◌, ◌*◌, ◌<◌, Bool, true, false, Option, Some, None, IfSome, Result, Ok, Err, List, [], ◌∷◌, length, refl}
use Rattle.std.proofs.Common.{ap, sym, ◌∙◌, subst, arith}
use Rattle.std.proofs.lemmas.Bool.{true≢false, false≢true}
use Rattle.std.specs.Result.{IsErr, IsErrAnd}
use Rattle.std.proofs.lemmas.Bool.Decides.{nat_tests}
use Rattle.rx_ranges.specs.declared.pieces.Piece.{Piece}
use Rattle.hfs_defs.specs.Nodes.{next_node, record_count}
use Rattle.hfs_defs.specs.Leaves.{Leaf, LeafList, leaf_of, leaves_from, leaves_of_node, ended, followed_by, chain_within}
use Rattle.hfs_btree.specs.Cursor.{Cursor, file_on, rest_of, steps_left, current_of, must_enter, IsEntered, Enters, Advances, Steps, KeepsFile}
use Rattle.hfs_btree.proofs.Chains.{at_the_end}
use Rattle.rx_store.specs.declared.read_fault.ReadFault.{ReadFault}
use Rattle.rx_store.specs.declared.read_fault.ReadFault.TheVariants.{Device, Damaged}

-- ---- the records of a node

pub none_from : (count : ℕ) (pieces : List Piece) (n : ℕ) (node : List ℕ) (i : ℕ) → leaves_from count pieces n node i ≡ [] → count ≡ 0
none_from zero pieces n node i none = refl
none_from (suc count) pieces n node i none = absurd cc

pub length_from : (count : ℕ) (pieces : List Piece) (n : ℕ) (node : List ℕ) (i : ℕ) → length (leaves_from count pieces n node i) ≡ count
length_from zero pieces n node i = refl
length_from (suc count) pieces n node i = omega (arith, length_from count pieces n node (i + 1))

-- no records are the same in each node
pub no_records : (count : ℕ) (pieces : List Piece) (n m : ℕ) (node other : List ℕ) (i j : ℕ) → count ≡ 0 → leaves_from count pieces n node i ≡ leaves_from count pieces m other j
no_records zero pieces n m node other i j none = refl
no_records (suc count) pieces n m node other i j none = absurd (omega (arith, none))

-- the records of a node, which was counted
pub same_records : (count : ℕ) (pieces : List Piece) (n : ℕ) (bytes node : List ℕ) → bytes ≡ node → count ≡ record_count node → leaves_from (count - 0) pieces n bytes 0 ≡ leaves_from (record_count node) pieces n node 0
same_records count pieces n bytes node is all =
    let whole : count - 0 ≡ record_count node = omega (arith, all) in
    ap (λ k. leaves_from k pieces n bytes 0) whole ∙ ap (λ b. leaves_from (record_count node) pieces n b 0) is

-- the records from an index on, where a node has more of them
more_from : (count : ℕ) (pieces : List Piece) (n : ℕ) (node : List ℕ) (i : ℕ) → i < count
    → leaves_from (count - i) pieces n node i ≡ leaf_of pieces n node (i + 1 - 1) ∷ leaves_from (count - (i + 1)) pieces n node (i + 1)
more_from count pieces n node i more =
    let one : count - i ≡ suc (count - (i + 1)) = omega arith in
    let back : i ≡ i + 1 - 1 = omega arith in
    ap (λ k. leaves_from k pieces n node i) one ∙ ap (λ k. leaf_of pieces n node k ∷ leaves_from (count - (i + 1)) pieces n node (i + 1)) back

pub steps_on : (old : List Leaf) (stands : Bool) (count : ℕ) (pieces : List Piece) (n : ℕ) (node : List ℕ) (i : ℕ) → leaves_from (count - i) pieces n node i ≡ old → i < count → stands ≡ true
    → Steps old (current_of stands pieces n node (i + 1)) (leaves_from (count - (i + 1)) pieces n node (i + 1))
steps_on old stands count pieces n node i is more on =
    let P : List Leaf → Type 0 = λ l. Steps l (current_of true pieces n node (i + 1)) (leaves_from (count - (i + 1)) pieces n node (i + 1)) in
    let Q : Bool → Type 0 = λ b. Steps old (current_of b pieces n node (i + 1)) (leaves_from (count - (i + 1)) pieces n node (i + 1)) in
    subst Q (sym on) (subst P (sym (more_from count pieces n node i more) ∙ is) (refl, refl))

-- ---- entering a node

pub enters_none : (pending : List Leaf) (next : ℕ) → must_enter pending next ≡ true → pending ≡ []
enters_none [] next must = refl
enters_none (leaf ∷ leaves) next must = absurd (true≢false (sym must))

-- what was read of a file, whose pieces and node size these are
pub read_as : (told : Option (List ℕ)) (pieces others : List Piece) (fork_data size other link n left : ℕ) (result : Result ℕ ReadFault) (node : List ℕ) → others ≡ pieces → other ≡ size
    → IfSome told (λ image. IsEntered (file_on image others fork_data other) link n left result node) → IfSome told (λ image. IsEntered (file_on image pieces fork_data size) link n left result node)
read_as told pieces others fork_data size other link n left result node same long read =
    let P : List Piece → Type 0 = λ ps. IfSome told (λ image. IsEntered (file_on image ps fork_data other) link n left result node) in
    let Q : ℕ → Type 0 = λ k. IfSome told (λ image. IsEntered (file_on image pieces fork_data k) link n left result node) in
    subst Q long (subst P same read)

-- two cursors that are alike but for where they stand
pub record IsAlike (old new : Cursor) : Type 0 where
  pub pieces : new.pieces ≡ old.pieces
  pub fork_data : new.fork_data ≡ old.fork_data
  pub node_size : new.node_size ≡ old.node_size
  pub pending : new.pending ≡ old.pending
  pub link : new.link ≡ old.link
  pub next : new.next ≡ old.next
  pub left : new.left ≡ old.left

pub rest_alike : (image : List ℕ) (old new : Cursor) → IsAlike old new → rest_of image new ≡ rest_of image old
unfolding rest_of
rest_alike image old new alike = rw (alike.pieces, alike.fork_data, alike.node_size, alike.pending, alike.link, alike.next, alike.left) refl

rest_passed : (image : List ℕ) (cursor : Cursor) → cursor.pending ≡ []
    → rest_of image cursor ≡ chain_within cursor.left (file_on image cursor.pieces cursor.fork_data cursor.node_size) cursor.link cursor.next
unfolding rest_of
rest_passed image cursor passed = ap (λ records. followed_by records (chain_within cursor.left (file_on image cursor.pieces cursor.fork_data cursor.node_size) cursor.link cursor.next)) passed

refused : (image : List ℕ) (old new : Cursor) (fault : ReadFault) (node : List ℕ) → old.pending ≡ [] → IsAlike old new
    → IsEntered (file_on image old.pieces old.fork_data old.node_size) old.link old.next old.left (Err fault) node → Enters (rest_of image old) (Err fault) (rest_of image new)
refused image old new Device node passed alike entered = rest_alike image old new alike
refused image old new (Damaged sort place) node passed alike entered = (rest_passed image old passed ∙ entered, rest_alike image old new alike)
refused image old new other node passed alike entered = entered

refused_told : (told : Option (List ℕ)) (view old new : Cursor) (fault : ReadFault) (node : List ℕ) → view ≡ old → old.pending ≡ [] → IsAlike view new
    → IfSome told (λ image. IsEntered (file_on image view.pieces view.fork_data view.node_size) view.link view.next view.left (Err fault) node)
    → IfSome told (λ image. Enters (rest_of image old) (Err fault) (rest_of image new))
refused_told None view old new fault node is passed alike entered = tt
refused_told (Some image) view old new fault node is passed alike entered =
    let P : Cursor → Type 0 = λ c. Enters (rest_of image c) (Err fault) (rest_of image new) in
    subst P is (refused image view new fault node (ap (λ c. c.pending) is ∙ passed) alike entered)

pub refuses_told : (told : Option (List ℕ)) (view old new : Cursor) (result : Result (Unit {0}) ReadFault) (fault : ReadFault) (node : List ℕ) → IsErr result → IsErrAnd result (λ other. other ≡ fault)
    → view ≡ old → old.pending ≡ [] → IsAlike view new → IfSome told (λ image. IsEntered (file_on image view.pieces view.fork_data view.node_size) view.link view.next view.left (Err fault) node)
    → IfSome told (λ image. Enters (rest_of image old) result (rest_of image new))
refuses_told told view old new (Ok done) fault node is same seen passed alike entered = absurd (false≢true is)
refuses_told told view old new (Err other) fault node is same seen passed alike entered =
    let P : ReadFault → Type 0 = λ f. IfSome told (λ image. Enters (rest_of image old) (Err f) (rest_of image new)) in
    subst P (sym same) (refused_told told view old new fault node seen passed alike entered)

-- a cursor that has entered the node that follows, whose place and bytes these are
pub record HasEntered (old : Cursor) (place : ℕ) (node : List ℕ) (new : Cursor) : Type 0 where
  pub pieces : new.pieces ≡ old.pieces
  pub fork_data : new.fork_data ≡ old.fork_data
  pub node_size : new.node_size ≡ old.node_size
  pub pending : new.pending ≡ leaves_from (record_count node) old.pieces old.next node 0
  pub link : new.link ≡ place
  pub next : new.next ≡ next_node node
  pub left : new.left ≡ old.left - 1

entered : (image : List ℕ) (old new : Cursor) (place : ℕ) (node : List ℕ) → old.pending ≡ [] → HasEntered old place node new
    → IsEntered (file_on image old.pieces old.fork_data old.node_size) old.link old.next old.left (Ok place) node → rest_of image new ≡ rest_of image old
unfolding rest_of leaves_of_node
entered image old new place node passed has read =
    rw (has.pieces, has.fork_data, has.node_size, has.pending, has.link, has.next, has.left, passed) (sym read)

pub entered_told : (told : Option (List ℕ)) (view old new : Cursor) (place : ℕ) (node : List ℕ) → view ≡ old → old.pending ≡ [] → HasEntered view place node new
    → IfSome told (λ image. IsEntered (file_on image view.pieces view.fork_data view.node_size) view.link view.next view.left (Ok place) node)
    → IfSome told (λ image. rest_of image new ≡ rest_of image old)
entered_told None view old new place node is passed has read = tt
entered_told (Some image) view old new place node is passed has read =
    let P : Cursor → Type 0 = λ c. rest_of image new ≡ rest_of image c in
    subst P is (entered image view new place node (ap (λ c. c.pending) is ∙ passed) has read)

pub entered_falls : (view old : Cursor) (pending : List Leaf) (left count : ℕ) → view ≡ old → length pending ≡ count - 0 → left ≡ view.left - 1 → 0 < view.left → count < 65536
    → left * 65536 + length pending < steps_left old
entered_falls view old pending left count is many one more few =
    let P : Cursor → Type 0 = λ c. left * 65536 + length pending < steps_left c in
    subst P is (omega (arith, many, one, more, few))

-- ---- going on to a record

rest_with : (image : List ℕ) (cursor : Cursor) (pending : List Leaf) → cursor.pending ≡ pending
    → rest_of image cursor ≡ followed_by pending (chain_within cursor.left (file_on image cursor.pieces cursor.fork_data cursor.node_size) cursor.link cursor.next)
unfolding rest_of
rest_with image cursor pending is = ap (λ records. followed_by records (chain_within cursor.left (file_on image cursor.pieces cursor.fork_data cursor.node_size) cursor.link cursor.next)) is

-- a step inside a node leaves the way along the chain
pub record IsStep (old new : Cursor) : Type 0 where
  pub steps : Steps old.pending new.current new.pending
  pub keeps : KeepsFile old new
  pub link : new.link ≡ old.link
  pub next : new.next ≡ old.next
  pub left : new.left ≡ old.left

same_chain : (image : List ℕ) (old new : Cursor) → IsStep old new
    → chain_within new.left (file_on image new.pieces new.fork_data new.node_size) new.link new.next ≡ chain_within old.left (file_on image old.pieces old.fork_data old.node_size) old.link old.next
same_chain image old new step = rw (step.keeps.0, step.keeps.2, step.keeps.3, step.link, step.next, step.left) refl

stepped : (image : List ℕ) (old new : Cursor) (pending : List Leaf) → old.pending ≡ pending → must_enter pending old.next ≡ false → Steps pending new.current new.pending → IsStep old new
    → Advances (rest_of image old) (Ok tt) new.current (rest_of image new)
stepped image old new [] is none steps step =
    let chain : LeafList = chain_within old.left (file_on image old.pieces old.fork_data old.node_size) old.link old.next in
    let ends : chain ≡ ended = at_the_end (file_on image old.pieces old.fork_data old.node_size) old.left old.link old.next (grind (arith, nat_tests)) in
    let before : rest_of image old ≡ ended = rest_with image old [] is ∙ ap (followed_by []) ends in
    let after : rest_of image new ≡ rest_of image old = rest_with image new [] steps.1 ∙ ap (followed_by []) (same_chain image old new step) ∙ sym (rest_with image old [] is) in
    let P : Option Leaf → Type 0 = λ current. Advances (rest_of image old) (Ok tt) current (rest_of image new) in
    subst P (sym steps.0) (before, after)
stepped image old new (leaf ∷ leaves) is none steps step =
    let chain : LeafList = chain_within old.left (file_on image old.pieces old.fork_data old.node_size) old.link old.next in
    let after : rest_of image new ≡ followed_by leaves chain = rest_with image new leaves steps.1 ∙ ap (followed_by leaves) (same_chain image old new step) in
    let P : Option Leaf → Type 0 = λ current. Advances (rest_of image old) (Ok tt) current (rest_of image new) in
    let first : rest_of image old ≡ followed_by (leaf ∷ []) (followed_by leaves chain) = rest_with image old (leaf ∷ leaves) is in
    subst P (sym steps.0) (first ∙ ap (followed_by (leaf ∷ [])) (sym after))

pub advance_told : (told : Option (List ℕ)) (old mid new : Cursor) → IfSome told (λ image. rest_of image mid ≡ rest_of image old) → must_enter mid.pending mid.next ≡ false → IsStep mid new
    → IfSome told (λ image. Advances (rest_of image old) (Ok tt) new.current (rest_of image new))
advance_told None old mid new same none step = tt
advance_told (Some image) old mid new same none step =
    let P : LeafList → Type 0 = λ rest. Advances rest (Ok tt) new.current (rest_of image new) in
    subst P same (stepped image mid new mid.pending refl none step.steps step)
