use Rattle.std.proofs.Common.{◌<◌, length, ap, ◌∙◌, arith}
use Rattle.std.proofs.lemmas.List.Elements.{All-from_get_or}
use Rattle.rx_tree.specs.Path.{joined_path}
use Rattle.ufs_names.proofs.PathLaws.{joined_is_path}
use Rattle.ufs_names.proofs.path.path_of.Goals as goal

pub returns-in-Ok-clause-path : goal.returns-in-Ok-clause-path
returns-in-Ok-clause-path c =
    joined_is_path c.args.parent.now c.args.name.now c.in-Ok.path c.requires
    (All-from_get_or (λ byte. byte < 256) c.args.name.now 0 (λ i less. omega (arith, c.type_inv.name i)))
    (c.in-Ok.ensures.joined ∙ ap (joined_path c.args.parent.now) c.in_ok-text.ensures)
    (omega (arith, c.in-Ok.ensures.fits, ap length c.in-Ok.ensures.joined))
