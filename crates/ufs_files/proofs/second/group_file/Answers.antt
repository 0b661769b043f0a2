use Rattle.std.proofs.Common.{◌≤◌, ap, sym, subst, ◌∙◌}
use Rattle.disk_defs.specs.Disk.{told_image}
use Rattle.range_defs.specs.declared.TheConstants.{LONGEST_IMAGE}
use Rattle.ufs_inode_defs.specs.declared.inode.Inode.{Inode}
use Rattle.ufs_files.proofs.SecondLaws.{inode_near, own_fits, step_refused, step_found, step_kept}
use Rattle.ufs_files.proofs.second.group_file.Goals as goal

pub keep-requires : goal.keep-requires
keep-requires g c = record {
  fits = own_fits c.args.sup.now c.args.group c.range_of.result _ c.requires.good c.requires.near c.range_of.ensures (c.inode-inode.ensures ∙ ap (λ group. group.inode) c.group.view_is);
}

pub inode_parts-requires-clause-stands : goal.inode_parts-requires-clause-stands
inode_parts-requires-clause-stands g c =
    let near = inode_near c.args.sup.now c.args.group.number c.args.group.inode c.requires.good.inode c.requires.near in
    let P : Inode → Type 0 = λ inode. inode.at ≤ LONGEST_IMAGE in
    subst P (sym (c.inode-inode.ensures ∙ ap (λ group. group.inode) c.group.view_is)) near

pub returns-in_err-parted-clause-reads : goal.returns-in_err-parted-clause-reads
returns-in_err-parted-clause-reads g c =
    step_refused (told_image (g.S.Store.state c.args.store.now)) c.args.sup.now c.args.volume c.args.filed _ c.args.group _ c.args.looked.now.items c.keep.new.looked.items c.range_of.result c.filed.view_is (c.inode-inode.ensures ∙ ap (λ group. group.inode) c.group.view_is) c.requires.good
    c.range_of.ensures c.in_ok-keep.ensures.bytes c.in_ok-keep.ensures.within c.in_err-parted.field-0.0 c.inode_parts.new.looked.items c.inode_parts.new.looked.items c.from_residual-in_err-parted.result
    c.from_residual-in_err-parted.ensures.0 c.from_residual-in_err-parted.ensures.1 c.in_err-parted.ensures.reads

pub returns-clause-reads : goal.returns-clause-reads
returns-clause-reads g c =
    step_found (told_image (g.S.Store.state c.args.store.now)) c.args.sup.now c.args.volume c.args.filed _ c.args.group _ c.args.looked.now.items c.keep.new.looked.items c.range_of.result c.filed.view_is (c.inode-inode.ensures ∙ ap (λ group. group.inode) c.group.view_is) c.requires.good
    c.range_of.ensures c.in_ok-keep.ensures.bytes c.in_ok-keep.ensures.within c.in_ok-parted.parted c.in_ok-with_group.field-0 c.inode_parts.new.looked.items c.in_ok-parted.ensures.reads c.in_ok-with_group.ensures

pub returns-clause-kept_within : goal.returns-clause-kept_within
returns-clause-kept_within g c =
    step_kept (told_image (g.S.Store.state c.args.store.now)) c.args.sup.now c.args.volume c.args.filed _ c.args.group _ c.args.looked.now.items c.keep.new.looked.items c.range_of.result c.filed.view_is (c.inode-inode.ensures ∙ ap (λ group. group.inode) c.group.view_is) c.requires.good
    c.range_of.ensures c.in_ok-keep.ensures.bytes c.in_ok-keep.ensures.within c.inode_parts.new.looked.items c.in_ok-parted.ensures.kept_within
