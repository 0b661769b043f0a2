use Rattle.std.proofs.Common.{◌&&◌, ap, sym, ◌∙◌}
use Rattle.ufs_inode_defs.specs.Inode.{is_directory}
use Rattle.ufs_volume_defs.specs.Names.{is_known}
use Rattle.ufs_names.proofs.FoundLaws.{found_too_long, walked_more}
use Rattle.ufs_names.proofs.entry.found_name.Goals as goal

pub returns-in_err-name-clause-settles : goal.returns-in_err-name-clause-settles
returns-in_err-name-clause-settles c =
    let number = ap (λ entry. entry.inode) c.entry.view_is in
    found_too_long c.args.sup.now c.args.place.now.directory.now c.args.place.now.block.now c.args.walk c.args.entry.now c.args.inode c.from_residual.result c.in_err-name.field-0.0 c.from_residual.ensures.0 c.from_residual.ensures.1
    (ap (λ number. is_directory c.args.inode && is_known number c.args.walk.names) (sym number) ∙ sym c.is_known_directory.ensures ∙ c.if-is_known_directory.false) c.in_err-name.ensures.limited

pub returns-clause-walked : goal.returns-clause-walked
returns-clause-walked c =
    walked_more c.args.sup.now c.args.walk c.in_ok-name.name c.counted_name.result c.requires.walked c.in_ok-name.ensures.named c.counted_name.ensures.value c.counted_name.ensures.few c.counted_name.ensures.short
