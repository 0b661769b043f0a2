use Rattle.std.proofs.Common.{◌+◌, ◌-◌, min, ap, ◌∙◌, arith}
use Rattle.ufs_inode.proofs.KeptLaws.{in_table, has_read}
use Rattle.ufs_inode.proofs.read.hold_inode.Goals as goal

pub overflow_sub-begin : goal.overflow_sub-begin
overflow_sub-begin g c =
    let stands = in_table c.args.sup.now c.args.number c.args.at c.requires.sound c.requires.has c.requires.stands in
    omega (arith, stands.begins)

pub overflow_sub-sup : goal.overflow_sub-sup
overflow_sub-sup g c =
    let stands = in_table c.args.sup.now c.args.number c.args.at c.requires.sound c.requires.has c.requires.stands in
    omega (arith, stands.inside)

pub read-requires : goal.read-requires
read-requires g c =
    let stands = in_table c.args.sup.now c.args.number c.args.at c.requires.sound c.requires.has c.requires.stands in
    record { inside = omega (arith, stands.inside, c.min-len.ensures, c.requires.inside); block = c.requires.block }

pub returns-clause-holds : goal.returns-clause-holds
returns-clause-holds g c =
    let stands = in_table c.args.sup.now c.args.number c.args.at c.requires.sound c.requires.has c.requires.stands in
    has_read c.read.result c.read.new.self c.args.sup.now c.args.number c.args.at c.bytes_in_front.result c.min-len.result stands c.bytes_in_front.ensures
    (c.min-len.ensures ∙ ap (λ size. min size (c.args.sup.now.at + c.args.sup.now.len - (c.args.at - c.bytes_in_front.result))) (c.from-2.ensures ∙ c.stated_block_size.ensures)) c.read.ensures.begins c.read.ensures.long
