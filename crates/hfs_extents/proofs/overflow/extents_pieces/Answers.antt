use Rattle.std.proofs.Common.{sym, ◌∙◌}
use Rattle.hfs_extents.proofs.ReadLaws.{far, other_sum, leads}
use Rattle.hfs_extents.proofs.overflow.extents_pieces.Goals as goal

pub returns-then-header-gt-LONGEST_IMAGE-clause-leads : goal.returns-then-header-gt-LONGEST_IMAGE-clause-leads
returns-then-header-gt-LONGEST_IMAGE-clause-leads c = λ image. far c.args.header.now image c.if-header-gt-LONGEST_IMAGE.true

pub returns-then-blocks_in-from-clause-leads : goal.returns-then-blocks_in-from-clause-leads
returns-then-blocks_in-from-clause-leads c = λ image.
    other_sum c.args.header.now image c.blocks_in.result c.if-header-gt-LONGEST_IMAGE.false c.blocks_in.ensures.value (λ same. c.if-blocks_in-from.true (same ∙ sym c.from.ensures))

pub returns-clause-leads : goal.returns-clause-leads
returns-clause-leads c =
    leads c.args.header.now c.blocks_in.result c.pieces_and_slack.result c.if-header-gt-LONGEST_IMAGE.false c.blocks_in.ensures.value (c.if-blocks_in-from.false ∙ c.from.ensures) c.pieces_and_slack.ensures.found
