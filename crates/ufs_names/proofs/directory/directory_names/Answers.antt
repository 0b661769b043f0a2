use Rattle.std.specs.Prelude.{length}
use Rattle.std.proofs.Common.{◌+◌, ap, ◌∙◌, arith}
use Rattle.disk_defs.specs.Disk.{told_image}
use Rattle.ufs_inode_defs.specs.Blocks.{runs_of}
use Rattle.ufs_volume_defs.specs.Names.{with_runs}
use Rattle.ufs_names.proofs.WalkLaws.{kept_then}
use Rattle.ufs_names.proofs.DirectoryLaws.{named_stands, not_whole, laid_stops, blocks_go}
use Rattle.ufs_names.proofs.directory.directory_names.Goals as goal

pub size_place-requires : goal.size_place-requires
size_place-requires g c = named_stands c.args.sup.now c.args.directory.now c.inode-inode.result c.requires.named c.requires.near (c.inode-inode.ensures ∙ ap (λ name. name.inode) c.directory.view_is)

pub returns-then-inode-ne0-clause-reads : goal.returns-then-inode-ne0-clause-reads
returns-then-inode-ne0-clause-reads g c =
    not_whole (told_image (g.S.Store.state c.args.store.now)) c.args.sup.now c.args.walk c.args.directory.now c.args.seen.now.looked.items c.inode-inode.result _ _
    (c.inode-inode.ensures ∙ ap (λ name. name.inode) c.directory.view_is) c.if-inode-ne0.true c.size_place.ensures

pub content_blocks-requires-clause-stands : goal.content_blocks-requires-clause-stands
content_blocks-requires-clause-stands g c =
    let stands = named_stands c.args.sup.now c.args.directory.now c.inode-inode.result c.requires.named c.requires.near (c.inode-inode.ensures ∙ ap (λ name. name.inode) c.directory.view_is) in
    omega (arith, stands)

pub returns-in_err-laid-clause-reads : goal.returns-in_err-laid-clause-reads
returns-in_err-laid-clause-reads g c =
    laid_stops (told_image (g.S.Store.state c.args.store.now)) c.args.sup.now c.args.walk c.args.directory.now c.args.seen.now.looked.items c.inode-inode.result c.walk.inside.runs
    (c.inode-inode.ensures ∙ ap (λ name. name.inode) c.directory.view_is) (ap (λ walk. walk.runs) c.walk.view_is) c.if-inode-ne0.false c.content_blocks.new.looked.items c.from_residual.result c.in_err-laid.field-0.0
    c.from_residual.ensures.0 c.from_residual.ensures.1 c.in_err-laid.ensures.reads

pub returns-clause-reads : goal.returns-clause-reads
returns-clause-reads g c =
    let counts = ap (λ laid. runs_of laid) c.laid.view_is in
    let pieces = ap length c.deref.ensures.value in
    blocks_go (told_image (g.S.Store.state c.args.store.now)) c.args.sup.now c.args.walk c.args.directory.now c.args.seen.now.looked.items c.inode-inode.result c.walk.inside.runs
    (c.inode-inode.ensures ∙ ap (λ name. name.inode) c.directory.view_is) (ap (λ walk. walk.runs) c.walk.view_is) c.if-inode-ne0.false c.content_blocks.new.looked.items c.in_ok-laid.laid c.deref.result.now
    (told_image (g.S.Store.state c.content_blocks.new.store)) c.with_runs-walk.result c.blocks_names.new.seen.looked.items c.blocks_names.result
    (c.deref.ensures.value ∙ ap (λ laid. laid.pieces) c.laid.view_is) (ap told_image c.in_ok-laid.ensures.same)
    (c.with_runs-walk.ensures ∙ ap (λ n. with_runs c.args.walk n) (omega (arith, counts, pieces, c.deref.ensures.len, c.len.ensures)))
    c.in_ok-laid.ensures.reads c.blocks_names.ensures.reads

pub returns-clause-kept : goal.returns-clause-kept
returns-clause-kept g c =
    kept_then c.blocks_names.result (c.args.sup.now.at + c.args.sup.now.len) c.args.seen.now.looked.items c.content_blocks.new.looked.items c.blocks_names.new.seen.looked.items c.in_ok-laid.ensures.kept_within c.blocks_names.ensures.kept
