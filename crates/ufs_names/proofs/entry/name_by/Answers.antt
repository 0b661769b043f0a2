use Rattle.std.proofs.Common.{ap, ◌∙◌}
use Rattle.name_defs.specs.Texts.{bytes_text}
use Rattle.rx_tree.specs.Path.{joined_path}
use Rattle.ufs_volume_defs.specs.Names.{name_by}
use Rattle.ufs_names.proofs.FoundLaws.{name_too_long}
use Rattle.ufs_names.proofs.entry.name_by.Goals as goal

pub returns-in_err-path-clause-limited : goal.returns-in_err-path-clause-limited
returns-in_err-path-clause-limited c =
    name_too_long (name_by c.args.sup.now c.args.place.now.directory.now c.args.place.now.block.now c.args.entry.now c.args.inode) _ c.from_residual.result c.in_err-path.field-0.0 c.from_residual.ensures.0 c.from_residual.ensures.1
    (ap (λ directory. joined_path directory.path (bytes_text c.entry.inside.name.now)) c.directory.view_is ∙ ap (λ entry. joined_path c.args.place.now.directory.now.path (bytes_text entry.name)) c.entry.view_is)
    c.in_err-path.ensures.joined
