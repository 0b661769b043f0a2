use Rattle.std.specs.Prelude.{◌≡◌, ◌/◌, IfSome, Ok, List, length, refl}
use Rattle.std.proofs.Common.{ap, sym, ◌∙◌, subst, arith}
use Rattle.std.proofs.lemmas.Bool.{true≢false}
use Rattle.disk_defs.specs.Disk.{told_image}
use Rattle.disk_defs.specs.declared.Area.TheVariants.{Image}
use Rattle.rx_ranges.specs.declared.pieces.Piece.{Piece}
use Rattle.piece_defs.specs.Places.{AreWithin, bytes_through}
use Rattle.hfs_defs.specs.Leaves.{tree_file, image_place}
use Rattle.hfs_btree.specs.Heads.{HasHead}
use Rattle.hfs_btree.proofs.Places.{within_more}
use Rattle.hfs_btree.proofs.HeadLaws.{starts_told}
use Rattle.hfs_btree.proofs.leaves.Leaves.start.Goals as goal

pub image_place-link-requires-clause-reach : goal.image_place-link-requires-clause-reach
image_place-link-requires-clause-reach g c =
    let P : List Piece → Type 0 = λ pieces. AreWithin 18446744073709551615 pieces in
    subst P (sym c.items-2.ensures) (within_more _ 18446744073709551615 c.args.pieces (omega (arith, g.met.S.Store.sizes_fit c.args.store.now Image)) c.requires.within)

pub invariant_of-result : goal.invariant_of-result
invariant_of-result g c =
    let size : length c.in_ok-node.node.items ≡ c.in_ok-head.head.node_size = sym c.in_ok-node.node.ok.0 ∙ c.in_ok-node.ensures.len ∙ c.from.ensures in
    record {
      covered = c.requires.covered;
      reach = within_more _ _ c.args.pieces (omega (arith, g.met.S.Store.sizes_fit c.args.store.now Image)) c.requires.within;
      long = omega (arith, size, c.in_ok-head.ensures.long);
      short = omega (arith, size, c.in_ok-head.ensures.short);
      few = omega arith;
      room = omega (arith, size, c.in_ok-head.ensures.long);
      records = refl;
      stands_behind = λ stands. absurd (true≢false (sym stands));
      record_before = λ stands. absurd (true≢false (sym stands));
    }

pub returns-clause-told : goal.returns-clause-told
returns-clause-told g c =
    let P : List Piece → Type 0 = λ pieces. IfSome (told_image (g.S.Store.state c.args.store.now)) (λ image. HasHead (tree_file (bytes_through image pieces) pieces c.args.place) (Ok c.in_ok-head.head)) in
    starts_told (told_image (g.S.Store.state c.args.store.now)) c.args.pieces _ c.args.size _ c.in_ok-head.head _ (g.met.S.Store.tells_its_sizes c.args.store.now Image) c.requires.within c.requires.covered
    (subst P c.items.ensures c.in_ok-head.ensures.told) refl refl (sym c.in_ok-node.node.ok.0 ∙ c.in_ok-node.ensures.len ∙ c.from.ensures) refl (c.image_place-link.ensures ∙ ap (λ pieces. image_place pieces 24) c.items-2.ensures) refl
    (ap (λ k. c.args.size / k) c.from-2.ensures)
