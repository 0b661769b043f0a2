use Rattle.std.proofs.Common.{ap, sym, ◌∙◌, [], ◌∷◌, ◌++◌, refl}
use Rattle.disk_defs.specs.Disk.{told_image}
use Rattle.ufs_volume_defs.specs.Files.{content_section}
use Rattle.ufs_blocks.proofs.PlacedLaws.{found_part, bare_placed, filled_placed}
use Rattle.ufs_blocks.proofs.PartLaws.{bare_reads, content_fault, content_reads}
use Rattle.ufs_blocks.proofs.parts.inode_parts.Goals as goal

pub returns-then-not-has_content-clause-reads : goal.returns-then-not-has_content-clause-reads
returns-then-not-has_content-clause-reads g c =
    bare_reads c.args.sup.now c.args.inode.now c.args.runs c.none_parted-none.result c.none_parted-none.ensures (told_image (g.S.Store.state c.args.store.now)) c.args.looked.now.items c.with_extended.result
    (sym c.has_content.ensures ∙ c.if-not-has_content.true) c.with_extended.ensures.settles

pub returns-in_err-laid-clause-reads : goal.returns-in_err-laid-clause-reads
returns-in_err-laid-clause-reads g c =
    content_fault c.args.sup.now c.args.inode.now c.args.runs c.none_parted-none.result c.none_parted-none.ensures (told_image (g.S.Store.state c.args.store.now)) c.args.looked.now.items
    (sym c.has_content.ensures ∙ c.if-not-has_content.false) c.content_blocks.new.looked.items c.from_residual.result c.in_err-laid.field-0.0 c.from_residual.ensures.0 c.from_residual.ensures.1 c.in_err-laid.ensures.reads

pub returns-clause-reads : goal.returns-clause-reads
returns-clause-reads g c =
    content_reads c.args.sup.now c.args.inode.now c.args.runs c.none_parted-none.result c.none_parted-none.ensures (told_image (g.S.Store.state c.args.store.now)) c.args.looked.now.items
    (sym c.has_content.ensures ∙ c.if-not-has_content.false) c.content_blocks.new.looked.items c.in_ok-laid.laid c.in_ok-content.content c.args.inode.now.size c.with_extended-2.result c.in_ok-laid.ensures.reads refl
    c.in_ok-content.ensures.parts c.in_ok-content.ensures.runs c.with_extended-2.ensures.settles

pub returns-then-not-has_content-clause-placed : goal.returns-then-not-has_content-clause-placed
returns-then-not-has_content-clause-placed g c =
    bare_placed (told_image (g.S.Store.state c.args.store.now)) c.args.sup.now c.args.inode.now c.none_parted-none.result.parts c.with_extended.result c.with_extended.ensures.extended (sym c.has_content.ensures ∙ c.if-not-has_content.true)
    (ap (λ p. p.parts) c.none_parted-none.ensures)

pub returns-clause-placed : goal.returns-clause-placed
returns-clause-placed g c =
    filled_placed (told_image (g.S.Store.state c.args.store.now)) c.args.sup.now c.args.inode.now c.in_ok-content.content.parts c.with_extended-2.result c.with_extended-2.ensures.extended (sym c.has_content.ensures ∙ c.if-not-has_content.false)
    c.args.inode.now.size c.in_ok-laid.laid refl (c.in_ok-content.ensures.parts ∙ ap (λ p. p.parts ++ found_part (content_section c.args.sup.now c.args.inode.now) c.args.inode.now.size c.in_ok-laid.laid ∷ []) c.none_parted-none.ensures) c.in_ok-laid.ensures.placed
    c.in_ok-laid.ensures.behind
