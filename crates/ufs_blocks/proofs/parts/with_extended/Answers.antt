use Rattle.std.proofs.Common.{ap, sym, ◌∙◌}
use Rattle.ufs_volume_defs.specs.Files.{Parted}
use Rattle.ufs_blocks.proofs.PlacedLaws.{is_extended}
use Rattle.ufs_blocks.proofs.PartLaws.{extended_refused, extended_settled}
use Rattle.ufs_blocks.proofs.parts.with_extended.Goals as goal

pub returns-in_err-laid-clause-settles : goal.returns-in_err-laid-clause-settles
returns-in_err-laid-clause-settles c =
    extended_refused c.args.sup.now c.args.inode.now c.args.parted (sym c.has_extended.ensures ∙ c.if-not-has_extended.false) _ (ap (λ (p : Parted). p.runs) c.parted.view_is) c.from_residual.result c.in_err-laid.field-0.0 c.from_residual.ensures.0 c.from_residual.ensures.1 c.in_err-laid.ensures.settles

pub returns-clause-settles : goal.returns-clause-settles
returns-clause-settles c =
    extended_settled c.args.sup.now c.args.inode.now c.args.parted (sym c.has_extended.ensures ∙ c.if-not-has_extended.false) _ (ap (λ (p : Parted). p.runs) c.parted.view_is) c.in_ok-laid.laid c.in_ok-all.all c.from-size.result c.in_ok-laid.ensures.settles c.from-size.ensures
    c.in_ok-all.ensures.parts c.in_ok-all.ensures.runs

pub returns-clause-extended : goal.returns-clause-extended
returns-clause-extended c =
    is_extended c.args.sup.now c.args.inode.now c.args.parted.parts c.in_ok-all.all.parts c.from-size.result c.in_ok-laid.laid (sym c.has_extended.ensures ∙ c.if-not-has_extended.false) c.from-size.ensures
    c.in_ok-laid.ensures.placed c.in_ok-all.ensures.parts
