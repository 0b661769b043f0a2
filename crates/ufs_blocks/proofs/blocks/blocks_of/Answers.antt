use Rattle.std.proofs.Common.{◌+◌, arith, ap, ◌∙◌}
use Rattle.disk_defs.specs.Disk.{size_of, told_image}
use Rattle.disk_defs.specs.declared.Area.TheVariants.{Image}
use Rattle.ufs_volume_defs.specs.Files.{Parted}
use Rattle.ufs_blocks.proofs.FoundLaws.{blocks_told}
use Rattle.ufs_blocks.proofs.blocks.blocks_of.Goals as goal

pub returns-clause-told : goal.returns-clause-told
returns-clause-told g c =
    blocks_told (told_image (g.S.Store.state c.args.store.now)) _ c.args.sup.now c.args.inode.now (size_of Image (g.S.Store.state c.args.store.now)) (c.args.sup.now.at + c.args.sup.now.len) c.new-looked.result.items c.inode_parts.new.looked.items c.in_ok-parts.field-0
    c.from_vec.result c.in_ok-indirect.indirect (ap told_image c.in_ok-len.ensures.same) (g.met.S.Store.tells_its_sizes c.args.store.now Image) (omega (arith, c.if-branch-gt-LONGEST_IMAGE.false, c.in_ok-len.ensures.size)) c.requires.inside
    c.new-looked.ensures.items c.in_ok-parts.ensures.reads c.in_ok-parts.ensures.kept_within c.in_ok-indirect.ensures.kept c.in_ok-indirect.ensures.bytes (c.from_vec.ensures ∙ ap (λ (p : Parted). p.parts) c.parts.view_is)
