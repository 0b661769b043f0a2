use Rattle.std.specs.Prelude.{◌≡◌, ℕ, ◌*◌, Option, IfSome, List, length}
use Rattle.std.proofs.Common.{ap, sym, ◌∙◌, subst, arith}
use Rattle.bytes_defs.specs.Bytes.{part}
use Rattle.disk_defs.specs.Disk.{told_image}
use Rattle.disk_defs.specs.declared.Area.TheVariants.{Image}
use Rattle.rx_ranges.specs.declared.pieces.Piece.{Piece}
use Rattle.piece_defs.specs.Places.{bytes_through}
use Rattle.hfs_defs.specs.Leaves.{image_place}
use Rattle.hfs_btree.proofs.Chains.{none_told, outside_told, other_told, read_told, unsound_told, good_told}
use Rattle.hfs_btree.proofs.way.read_leaf.Goals as goal

read_at : (told : Option (List ℕ)) (pieces : List Piece) (k n size : ℕ) (node : List ℕ) → k ≡ n → IfSome told (λ image. node ≡ part (bytes_through image pieces) (k * size) (length node))
    → IfSome told (λ image. node ≡ part (bytes_through image pieces) (n * size) (length node))
read_at told pieces k n size node is bytes =
    let P : ℕ → Type 0 = λ m. IfSome told (λ image. node ≡ part (bytes_through image pieces) (m * size) (length node)) in
    subst P is bytes

pub returns-then-way-eq0-clause-told : goal.returns-then-way-eq0-clause-told
returns-then-way-eq0-clause-told g c = none_told (told_image (g.S.Store.state c.args.store.now)) c.args.pieces.now _ _ _ _ _ c.args.node.now c.if-way-eq0.true c.requires.some

pub returns-then-number-len-clause-told : goal.returns-then-number-len-clause-told
returns-then-number-len-clause-told g c =
    outside_told (told_image (g.S.Store.state c.args.store.now)) c.args.pieces.now _ c.args.len _ (length c.args.node.now) _ c.args.way.following _ c.args.node.now (g.met.S.Store.tells_its_sizes c.args.store.now Image)
    c.requires.within c.requires.covered (omega (arith, c.if-way-eq0.false)) c.requires.some (omega (arith, c.if-number-len.true, c.from-number.ensures))

pub returns-then-not-is_leaf-clause-told : goal.returns-then-not-is_leaf-clause-told
returns-then-not-is_leaf-clause-told g c =
    other_told (told_image (g.S.Store.state c.args.store.now)) c.args.pieces.now _ (length c.args.node.now) _ c.args.way.following _ c.read_pieces.new.buf
    (read_at _ c.args.pieces.now _ _ _ _ c.from-number.ensures c.in_ok-read_pieces.ensures.bytes) (omega (arith, c.read_pieces.auto.buf)) (omega (arith, c.if-way-eq0.false)) c.requires.some
    (sym c.is_leaf.ensures ∙ c.if-not-is_leaf.true)

pub returns-then-not-is_sound_node-clause-told : goal.returns-then-not-is_sound_node-clause-told
returns-then-not-is_sound_node-clause-told g c =
    unsound_told (told_image (g.S.Store.state c.args.store.now)) c.args.pieces.now c.args.len _ (length c.args.node.now) _ c.args.way.following _ _ c.read_pieces.new.buf
    (read_told _ c.args.pieces.now _ _ _ _ _ (g.met.S.Store.tells_its_sizes c.args.store.now Image) c.requires.within c.requires.covered (omega (arith, c.if-number-len.false, c.from-number.ensures))
    (read_at _ c.args.pieces.now _ _ _ _ c.from-number.ensures c.in_ok-read_pieces.ensures.bytes) (omega (arith, c.read_pieces.auto.buf)))
    (omega (arith, c.if-way-eq0.false)) c.requires.some (sym c.is_leaf.ensures ∙ c.if-not-is_leaf.false) (sym c.is_sound_node.ensures ∙ c.if-not-is_sound_node.true)
    (c.image_place-place.ensures ∙ ap (λ m. image_place c.args.pieces.now (m * length c.args.node.now)) c.from-number.ensures)

pub returns-clause-told : goal.returns-clause-told
returns-clause-told g c =
    good_told (told_image (g.S.Store.state c.args.store.now)) c.args.pieces.now c.args.len _ (length c.args.node.now) _ c.args.way.following _ _ c.read_pieces.new.buf
    (read_told _ c.args.pieces.now _ _ _ _ _ (g.met.S.Store.tells_its_sizes c.args.store.now Image) c.requires.within c.requires.covered (omega (arith, c.if-number-len.false, c.from-number.ensures))
    (read_at _ c.args.pieces.now _ _ _ _ c.from-number.ensures c.in_ok-read_pieces.ensures.bytes) (omega (arith, c.read_pieces.auto.buf)))
    (omega (arith, c.if-way-eq0.false)) c.requires.some (sym c.is_leaf.ensures ∙ c.if-not-is_leaf.false) (sym c.is_sound_node.ensures ∙ c.if-not-is_sound_node.false)
    (c.image_place-place.ensures ∙ ap (λ m. image_place c.args.pieces.now (m * length c.args.node.now)) c.from-number.ensures)
