use Rattle.std.specs.Prelude.{Err, Result, [], refl}
use Rattle.std.proofs.Common.{◌≡◌, ◌+◌, ◌*◌, ap, sym, subst, ◌∙◌, arith}
use Rattle.disk_defs.specs.Disk.{told_image}
use Rattle.image_defs.specs.Ask.{result_of}
use Rattle.rx_store.specs.Answers.{Answers}
use Rattle.rx_store.specs.declared.read_fault.ReadFault.{ReadFault}
use Rattle.piece_defs.specs.Places.{place_through}
use Rattle.ufs_inode_defs.specs.Superblock.{block_size}
use Rattle.ufs_inode_defs.specs.Stream.{block_count}
use Rattle.ufs_inode_defs.specs.declared.inode.Inode.{Inode}
use Rattle.ufs_inode_defs.proofs.InodeLaws.{sound_gives}
use Rattle.ufs_inode_defs.proofs.StreamLaws.{short_size}
use Rattle.ufs_volume_defs.specs.Names.{Block, directory_blocks, placed_block}
use Rattle.ufs_names.proofs.PlaceLaws.{tested, passed_none, passed_later}
use Rattle.ufs_names.proofs.DirectoryLaws.{named_stands}
use Rattle.ufs_names.proofs.BlocksLeft.{all_left, test_stops, none_left, block_fails, names_fail, next_left}
use Rattle.ufs_names.proofs.WalkLaws.{kept_on}
use Rattle.ufs_names.proofs.directory.blocks_names.Goals as goal

pub are_placed-requires-clause-stands : goal.are_placed-requires-clause-stands
are_placed-requires-clause-stands g c = named_stands c.args.sup.now c.args.directory.now c.inode-inode.result c.requires.named c.requires.near (c.inode-inode.ensures ∙ ap (λ name. name.inode) c.directory.view_is)

pub returns-in_err-are_placed-clause-reads : goal.returns-in_err-are_placed-clause-reads
returns-in_err-are_placed-clause-reads g c =
    let same : c.inode-inode.result ≡ c.args.directory.now.inode = c.inode-inode.ensures ∙ ap (λ name. name.inode) c.directory.view_is in
    let P : Inode → Type 0 = λ inode. (let failed : Result (Unit {0}) ReadFault = Err c.in_err-are_placed.field-0.0 in Answers failed (tested (directory_blocks c.args.sup.now inode c.args.pieces.now))) in
    test_stops (told_image (g.S.Store.state c.args.store.now)) c.args.sup.now c.args.directory.now c.args.pieces.now c.args.walk c.args.seen.now.looked.items c.args.seen.now.looked.items
    c.from_residual.result c.in_err-are_placed.field-0.0 c.from_residual.ensures.0 c.from_residual.ensures.1 (subst P same c.in_err-are_placed.ensures.placed)

pub loop-index-init : goal.loop-index-init
loop-index-init g c =
    let same : c.inode-inode.result ≡ c.args.directory.now.inode = c.inode-inode.ensures ∙ ap (λ name. name.inode) c.directory.view_is in
    record {
      same = refl;
      calm = refl;
      walked = c.requires.walked;
      left =
          all_left (told_image (g.S.Store.state c.args.store.now)) c.args.sup.now c.args.directory.now c.args.pieces.now c.args.walk c.args.seen.now.looked.items
          (ap (λ inode. tested (directory_blocks c.args.sup.now inode c.args.pieces.now)) (sym same) ∙ c.in_ok-are_placed.ensures.placed);
      passed = passed_none c.args.pieces.now _;
      kept = λ end far all. all;
      inodes = c.requires.inodes;
    }

pub placed_block-requires-clause-stands : goal.placed_block-requires-clause-stands
placed_block-requires-clause-stands g c = named_stands c.args.sup.now c.args.directory.now c.inode-inode.result c.requires.named c.requires.near (c.inode-inode.ensures ∙ ap (λ name. name.inode) c.directory.view_is)

pub returns-in_err-block-clause-reads : goal.returns-in_err-block-clause-reads
returns-in_err-block-clause-reads g c =
    let same : c.inode-inode.result ≡ c.args.directory.now.inode = c.inode-inode.ensures ∙ ap (λ name. name.inode) c.directory.view_is in
    let place = place_through c.args.pieces.now (c.loop-index.index * block_size c.args.sup.now) in
    let P : Inode → Type 0 = λ inode. (let failed : Result Block ReadFault = Err c.in_err-block.field-0.0 in Answers failed (placed_block c.args.sup.now inode c.loop-index.index place)) in
    block_fails (told_image (g.S.Store.state c.args.store.now)) c.args.sup.now c.args.directory.now c.args.pieces.now c.args.walk c.args.seen.now.looked.items
    c.loop-index.index c.loop-index.walk c.loop-index.seen.looked.items c.loop-index.invariant.left (omega (arith, c.block_count-index-end.ensures, ap (λ inode. block_count c.args.sup.now inode.size) same))
    c.loop-index.seen.looked.items c.from_residual-in_err-block.result c.in_err-block.field-0.0 c.from_residual-in_err-block.ensures.0 c.from_residual-in_err-block.ensures.1 (subst P same c.in_err-block.ensures.placed)

pub block_names-requires-clause-short : goal.block_names-requires-clause-short
block_names-requires-clause-short g c = short_size c.args.sup.now c.args.directory.now.inode (sound_gives [] c.args.sup.now c.args.directory.now.inode tt (ap (λ program. result_of [] program) c.requires.named.inode.sound)).short

pub returns-in_err-walk-clause-reads : goal.returns-in_err-walk-clause-reads
returns-in_err-walk-clause-reads g c =
    let same : c.inode-inode.result ≡ c.args.directory.now.inode = c.inode-inode.ensures ∙ ap (λ name. name.inode) c.directory.view_is in
    let place = place_through c.args.pieces.now (c.loop-index.index * block_size c.args.sup.now) in
    names_fail (told_image (g.S.Store.state c.args.store.now)) c.args.sup.now c.args.directory.now c.args.pieces.now c.args.walk c.args.seen.now.looked.items
    c.loop-index.index c.loop-index.walk c.loop-index.seen.looked.items c.loop-index.invariant.left (omega (arith, c.block_count-index-end.ensures, ap (λ inode. block_count c.args.sup.now inode.size) same))
    c.in_ok-block.block (ap (λ inode. placed_block c.args.sup.now inode c.loop-index.index place) (sym same) ∙ c.in_ok-block.ensures.placed)
    (told_image (g.S.Store.state c.loop-index.store)) c.block_names.new.seen.looked.items (ap told_image c.loop-index.invariant.same)
    c.from_residual-in_err-walk.result c.in_err-walk.field-0.0 c.from_residual-in_err-walk.ensures.0 c.from_residual-in_err-walk.ensures.1 c.in_err-walk.ensures.reads

pub loop-index-preserved : goal.loop-index-preserved
loop-index-preserved g c =
    let same : c.inode-inode.result ≡ c.args.directory.now.inode = c.inode-inode.ensures ∙ ap (λ name. name.inode) c.directory.view_is in
    let place = place_through c.args.pieces.now (c.loop-index.index * block_size c.args.sup.now) in
    record {
      same = c.in_ok-walk.ensures.same ∙ c.loop-index.invariant.same;
      calm = c.in_ok-walk.ensures.counted ∙ c.loop-index.invariant.calm;
      walked = c.in_ok-walk.ensures.walked;
      left =
          next_left (told_image (g.S.Store.state c.args.store.now)) c.args.sup.now c.args.directory.now c.args.pieces.now c.args.walk c.args.seen.now.looked.items
          c.loop-index.index c.loop-index.walk c.loop-index.seen.looked.items c.loop-index.invariant.left (omega (arith, c.block_count-index-end.ensures, ap (λ inode. block_count c.args.sup.now inode.size) same))
          c.in_ok-block.block (ap (λ inode. placed_block c.args.sup.now inode c.loop-index.index place) (sym same) ∙ c.in_ok-block.ensures.placed)
          (told_image (g.S.Store.state c.loop-index.store)) c.block_names.new.seen.looked.items (ap told_image c.loop-index.invariant.same) c.in_ok-walk.walk c.in_ok-walk.ensures.reads;
      passed = passed_later c.args.pieces.now _ _ _ (omega arith) c.in_ok-block.ensures.passed;
      kept = kept_on (c.args.sup.now.at + c.args.sup.now.len) c.args.seen.now.looked.items c.loop-index.seen.looked.items c.block_names.new.seen.looked.items c.loop-index.invariant.kept c.in_ok-walk.ensures.kept;
      inodes = c.in_ok-walk.ensures.inodes;
    }

pub returns-clause-reads : goal.returns-clause-reads
returns-clause-reads g c =
    let same : c.inode-inode.result ≡ c.args.directory.now.inode = c.inode-inode.ensures ∙ ap (λ name. name.inode) c.directory.view_is in
    none_left (told_image (g.S.Store.state c.args.store.now)) c.args.sup.now c.args.directory.now c.args.pieces.now c.args.walk c.args.seen.now.looked.items
    c.loop-index.index c.loop-index.walk c.loop-index.seen.looked.items c.loop-index.invariant.left (omega (arith, c.block_count-index-end.ensures, ap (λ inode. block_count c.args.sup.now inode.size) same))
