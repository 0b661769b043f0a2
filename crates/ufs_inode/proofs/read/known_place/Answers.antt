use Rattle.std.proofs.Common.{sym, ◌∙◌, arith}
use Rattle.ufs_inode.proofs.Steps.{lies_inside, fields_fit}
use Rattle.ufs_inode.proofs.read.known_place.Goals as goal

pub overflow_cast-result : goal.overflow_cast-result
overflow_cast-result c =
    let lies = lies_inside c.args.sup.now c.args.number (sym c.has_inode.ensures ∙ c.if-has_inode.true) in
    omega (arith, lies)

pub returns-then-has_inode-clause-ends : goal.returns-then-has_inode-clause-ends
returns-then-has_inode-clause-ends c =
    let lies = lies_inside c.args.sup.now c.args.number (sym c.has_inode.ensures ∙ c.if-has_inode.true) in
    omega (arith, lies)

pub returns-then-has_inode-clause-room : goal.returns-then-has_inode-clause-room
returns-then-has_inode-clause-room c =
    fields_fit c.args.sup.now c.args.number c.inode_place.result (sym c.has_inode.ensures ∙ c.if-has_inode.true) c.inode_place.ensures.place c.requires.fits
