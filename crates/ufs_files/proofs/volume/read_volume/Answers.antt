use Rattle.std.proofs.Common.{arith, ◌+◌, ◌≤◌, ◌∷◌, [], ap, ◌∙◌}
use Rattle.bytes_defs.specs.declared.order.Order.TheVariants.{Little}
use Rattle.disk_defs.specs.Disk.{told_image}
use Rattle.ufs_files.proofs.VolumeLaws.{stored_names, super_refused, names_refused, files_refused, files_found}
use Rattle.ufs_files.proofs.volume.read_volume.Goals as goal

pub returns-in_err-superblock-clause-reads : goal.returns-in_err-superblock-clause-reads
returns-in_err-superblock-clause-reads g c =
    super_refused (told_image (g.S.Store.state c.args.store.now)) (Little ∷ []) c.args.size c.args.number (record { at = c.args.at; len = c.args.len }) c.args.looked.now.items c.in_err-superblock.field-0.0 c.look_for_super.new.looked.items
    c.look_for_super.new.looked.items c.from_residual.result c.from_residual.ensures.0 c.from_residual.ensures.1 c.in_err-superblock.ensures.reads

pub returns-in_err-walk-clause-reads : goal.returns-in_err-walk-clause-reads
returns-in_err-walk-clause-reads g c =
    names_refused (told_image (g.S.Store.state c.args.store.now)) (Little ∷ []) c.args.size c.args.number (record { at = c.args.at; len = c.args.len }) c.args.looked.now.items c.requires.near c.in_ok-superblock.superblock
    c.look_for_super.new.looked.items c.in_ok-superblock.ensures.reads (told_image (g.S.Store.state c.look_for_super.new.store)) c.in_err-walk.field-0.0 c.read_names.new.looked.items c.read_names.new.looked.items c.from_residual-in_err-walk.result
    c.from_residual-in_err-walk.ensures.0 c.from_residual-in_err-walk.ensures.1 (ap told_image c.in_ok-superblock.ensures.same) c.in_err-walk.ensures.reads

pub read_files-requires-clause-known : goal.read_files-requires-clause-known
read_files-requires-clause-known g c =
    stored_names (told_image (g.S.Store.state c.look_for_super.new.store)) (told_image (g.S.Store.state c.read_names.new.store)) c.in_ok-superblock.superblock c.in_ok-walk.walk c.into_names.result.items c.look_for_super.new.looked.items
    c.read_names.new.looked.items c.in_ok-superblock.ensures.sound (ap told_image c.in_ok-walk.ensures.same) c.in_ok-walk.ensures.reads c.into_names.ensures

pub returns-in_err-filed-clause-reads : goal.returns-in_err-filed-clause-reads
returns-in_err-filed-clause-reads g c =
    files_refused (told_image (g.S.Store.state c.args.store.now)) (Little ∷ []) c.args.size c.args.number (record { at = c.args.at; len = c.args.len }) c.args.looked.now.items c.requires.near c.in_ok-superblock.superblock
    c.look_for_super.new.looked.items c.in_ok-superblock.ensures.reads (told_image (g.S.Store.state c.look_for_super.new.store)) c.in_ok-walk.walk c.read_names.new.looked.items (ap told_image c.in_ok-superblock.ensures.same) c.in_ok-walk.ensures.reads
    (told_image (g.S.Store.state c.read_names.new.store)) c.into_names.result.items (ap told_image (c.in_ok-walk.ensures.same ∙ c.in_ok-superblock.ensures.same)) c.into_names.ensures
    c.in_err-filed.field-0.0 c.read_files.new.looked.items c.read_files.new.looked.items c.from_residual-in_err-filed.result c.from_residual-in_err-filed.ensures.0 c.from_residual-in_err-filed.ensures.1 c.in_err-filed.ensures.reads

pub returns-clause-reads : goal.returns-clause-reads
returns-clause-reads g c =
    files_found (told_image (g.S.Store.state c.args.store.now)) (Little ∷ []) c.args.size c.args.number (record { at = c.args.at; len = c.args.len }) c.args.looked.now.items c.requires.near c.in_ok-superblock.superblock
    c.look_for_super.new.looked.items c.in_ok-superblock.ensures.reads (told_image (g.S.Store.state c.look_for_super.new.store)) c.in_ok-walk.walk c.read_names.new.looked.items (ap told_image c.in_ok-superblock.ensures.same) c.in_ok-walk.ensures.reads
    (told_image (g.S.Store.state c.read_names.new.store)) c.into_names.result.items (ap told_image (c.in_ok-walk.ensures.same ∙ c.in_ok-superblock.ensures.same)) c.into_names.ensures
    c.in_ok-filed.filed _ c.read_files.new.looked.items (ap (λ files. record { superblock = c.in_ok-superblock.superblock; files = files }) (c.from_vec.ensures ∙ ap (λ filed. filed.files) c.filed.view_is)) c.in_ok-filed.ensures.reads

pub returns-clause-kept_within : goal.returns-clause-kept_within
returns-clause-kept_within g c = λ end last within.
    let here : c.in_ok-superblock.superblock.at + c.in_ok-superblock.superblock.len ≤ end = omega (arith, last, c.in_ok-superblock.ensures.begins, c.in_ok-superblock.ensures.long) in
    c.in_ok-filed.ensures.kept_within end here (c.in_ok-walk.ensures.kept end here (c.in_ok-superblock.ensures.within end last within))
