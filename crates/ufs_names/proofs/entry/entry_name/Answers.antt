use Rattle.std.specs.Prelude.{refl}
use Rattle.std.proofs.Common.{◌+◌, arith, ap}
use Rattle.disk_defs.specs.Disk.{told_image}
use Rattle.image_reads.proofs.Steps.{begins, comes_value, comes_fault, comes_rest, ends_with}
use Rattle.image_reads.specs.Steps.{KeptWithin}
use Rattle.ufs_inode_defs.specs.Inode.{inode_named}
use Rattle.ufs_volume_defs.specs.Names.{entry_name, found_name}
use Rattle.ufs_names.proofs.WalkLaws.{settles_reads}
use Rattle.ufs_names.proofs.FoundLaws.{on_ok, counted_calm, named_as}
use Rattle.ufs_names.proofs.entry.entry_name.Goals as goal

pub returns-in_err-inode-clause-reads : goal.returns-in_err-inode-clause-reads
unfolding entry_name
returns-in_err-inode-clause-reads g c =
    let told = told_image (g.S.Store.state c.args.store.now) in
    let before = c.args.seen.now.looked.items in
    let whole = entry_name c.args.sup.now c.args.place.now.directory.now c.args.place.now.block.now c.args.walk c.args.entry.now in
    ends_with told whole before c.look_at_inode.new.looked.items c.from_residual.result c.in_err-inode.field-0.0 c.from_residual.ensures.0 c.from_residual.ensures.1
    (comes_fault told whole before told (inode_named c.args.sup.now c.args.entry.now.inode (c.args.place.now.block.now.at + c.args.entry.now.at))
    (λ inode. found_name c.args.sup.now c.args.place.now.directory.now c.args.place.now.block.now c.args.walk c.args.entry.now inode) before refl (begins told whole before) c.in_err-inode.field-0.0 c.look_at_inode.new.looked.items c.look_at_inode.new.looked.items
    (named_as told c.args.sup.now before c.look_at_inode.new.looked.items _ _ _ _ _ (ap (λ entry. entry.inode) c.entry.view_is)
    (omega (arith, ap (λ entry. entry.at) c.entry.view_is, ap (λ block. block.at) c.block.view_is)) c.in_err-inode.ensures.reads))

pub returns-clause-reads : goal.returns-clause-reads
unfolding entry_name
returns-clause-reads g c =
    let told = told_image (g.S.Store.state c.args.store.now) in
    let before = c.args.seen.now.looked.items in
    let whole = entry_name c.args.sup.now c.args.place.now.directory.now c.args.place.now.block.now c.args.walk c.args.entry.now in
    let left = found_name c.args.sup.now c.args.place.now.directory.now c.args.place.now.block.now c.args.walk c.args.entry.now c.in_ok-inode.inode in
    comes_rest told whole before told left c.look_at_inode.new.looked.items c.look_at_inode.new.looked.items c.found_name.result refl
    (comes_value told whole before told (inode_named c.args.sup.now c.args.entry.now.inode (c.args.place.now.block.now.at + c.args.entry.now.at))
    (λ inode. found_name c.args.sup.now c.args.place.now.directory.now c.args.place.now.block.now c.args.walk c.args.entry.now inode) before refl (begins told whole before) c.in_ok-inode.inode c.look_at_inode.new.looked.items
    (named_as told c.args.sup.now before c.look_at_inode.new.looked.items _ _ _ _ _ (ap (λ entry. entry.inode) c.entry.view_is)
    (omega (arith, ap (λ entry. entry.at) c.entry.view_is, ap (λ block. block.at) c.block.view_is)) c.in_ok-inode.ensures.reads))
    (settles_reads told c.look_at_inode.new.looked.items left c.found_name.result c.found_name.ensures.settles)

pub returns-clause-kept : goal.returns-clause-kept
returns-clause-kept g c =
    on_ok (KeptWithin (c.args.sup.now.at + c.args.sup.now.len) c.args.seen.now.looked.items c.look_at_inode.new.looked.items) c.found_name.result
    c.in_ok-inode.ensures.kept

pub returns-clause-counted : goal.returns-clause-counted
returns-clause-counted g c =
    counted_calm c.found_name.result (g.S.Store.faults c.args.store.now) (g.S.Store.faults c.look_at_inode.new.store) c.found_name.ensures.calm c.in_ok-inode.ensures.counted
