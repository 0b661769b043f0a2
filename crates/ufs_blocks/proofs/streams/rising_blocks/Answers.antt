use Rattle.std.proofs.Common.{arith, ap, ◌∙◌, refl}
use Rattle.disk_defs.specs.Disk.{told_image}
use Rattle.ufs_inode_defs.specs.Layout.{pointer_len}
use Rattle.ufs_blocks.proofs.StreamLaws.{pointer_is, first_faults, second_faults, third_faults, third_ends}
use Rattle.ufs_blocks.proofs.streams.rising_blocks.Goals as goal

pub returns-in_err-single-clause-reads : goal.returns-in_err-single-clause-reads
returns-in_err-single-clause-reads g c =
    first_faults c.args.sup.now c.args.size c.args.at (pointer_len c.args.sup.now.version) c.args.values.now c.args.laid (told_image (g.S.Store.state c.args.store.now)) c.args.looked.now.items c.pointer_in-first.result c.pointer_in-second.result c.pointer_in-third.result c.requires.three
    (pointer_is c.pointer_in-first.result _ _ (omega (arith, c.pointer_in-first.ensures.at)) c.pointer_in-first.ensures.value)
    (pointer_is c.pointer_in-second.result _ _ (omega (arith, c.pointer_in-second.ensures.at, c.pointer_len-len.ensures.value)) c.pointer_in-second.ensures.value)
    (pointer_is c.pointer_in-third.result _ _ (omega (arith, c.pointer_in-third.ensures.at, c.pointer_len-len.ensures.value)) c.pointer_in-third.ensures.value)
    (told_image (g.S.Store.state c.args.store.now)) c.mapped_blocks.new.looked.items c.from_residual.result c.in_err-single.field-0.0 refl c.from_residual.ensures.0 c.from_residual.ensures.1 c.in_err-single.ensures.reads

pub returns-in_err-double-clause-reads : goal.returns-in_err-double-clause-reads
returns-in_err-double-clause-reads g c =
    second_faults c.args.sup.now c.args.size c.args.at (pointer_len c.args.sup.now.version) c.args.values.now c.args.laid (told_image (g.S.Store.state c.args.store.now)) c.args.looked.now.items c.pointer_in-first.result c.pointer_in-second.result c.pointer_in-third.result c.requires.three
    (pointer_is c.pointer_in-first.result _ _ (omega (arith, c.pointer_in-first.ensures.at)) c.pointer_in-first.ensures.value)
    (pointer_is c.pointer_in-second.result _ _ (omega (arith, c.pointer_in-second.ensures.at, c.pointer_len-len.ensures.value)) c.pointer_in-second.ensures.value)
    (pointer_is c.pointer_in-third.result _ _ (omega (arith, c.pointer_in-third.ensures.at, c.pointer_len-len.ensures.value)) c.pointer_in-third.ensures.value)
    (told_image (g.S.Store.state c.args.store.now)) refl c.mapped_blocks.new.looked.items c.in_ok-single.single c.in_ok-single.ensures.reads
    (told_image (g.S.Store.state c.mapped_blocks.new.store)) c.mapped_blocks-2.new.looked.items c.from_residual-in_err-double.result c.in_err-double.field-0.0 (ap told_image c.in_ok-single.ensures.same) c.from_residual-in_err-double.ensures.0
    c.from_residual-in_err-double.ensures.1 c.in_err-double.ensures.reads

pub returns-in_err-triple-clause-reads : goal.returns-in_err-triple-clause-reads
returns-in_err-triple-clause-reads g c =
    third_faults c.args.sup.now c.args.size c.args.at (pointer_len c.args.sup.now.version) c.args.values.now c.args.laid (told_image (g.S.Store.state c.args.store.now)) c.args.looked.now.items c.pointer_in-first.result c.pointer_in-second.result c.pointer_in-third.result c.requires.three
    (pointer_is c.pointer_in-first.result _ _ (omega (arith, c.pointer_in-first.ensures.at)) c.pointer_in-first.ensures.value)
    (pointer_is c.pointer_in-second.result _ _ (omega (arith, c.pointer_in-second.ensures.at, c.pointer_len-len.ensures.value)) c.pointer_in-second.ensures.value)
    (pointer_is c.pointer_in-third.result _ _ (omega (arith, c.pointer_in-third.ensures.at, c.pointer_len-len.ensures.value)) c.pointer_in-third.ensures.value)
    (told_image (g.S.Store.state c.args.store.now)) refl c.mapped_blocks.new.looked.items c.in_ok-single.single c.in_ok-single.ensures.reads
    (told_image (g.S.Store.state c.mapped_blocks.new.store)) (ap told_image c.in_ok-single.ensures.same) c.mapped_blocks-2.new.looked.items c.in_ok-double.double c.in_ok-double.ensures.reads
    (told_image (g.S.Store.state c.mapped_blocks-2.new.store)) c.mapped_blocks-3.new.looked.items c.from_residual-in_err-triple.result c.in_err-triple.field-0.0 (ap told_image (c.in_ok-double.ensures.same ∙ c.in_ok-single.ensures.same))
    c.from_residual-in_err-triple.ensures.0 c.from_residual-in_err-triple.ensures.1 c.in_err-triple.ensures.reads

pub returns-clause-reads : goal.returns-clause-reads
returns-clause-reads g c =
    third_ends c.args.sup.now c.args.size c.args.at (pointer_len c.args.sup.now.version) c.args.values.now c.args.laid (told_image (g.S.Store.state c.args.store.now)) c.args.looked.now.items c.pointer_in-first.result c.pointer_in-second.result c.pointer_in-third.result c.requires.three
    (pointer_is c.pointer_in-first.result _ _ (omega (arith, c.pointer_in-first.ensures.at)) c.pointer_in-first.ensures.value)
    (pointer_is c.pointer_in-second.result _ _ (omega (arith, c.pointer_in-second.ensures.at, c.pointer_len-len.ensures.value)) c.pointer_in-second.ensures.value)
    (pointer_is c.pointer_in-third.result _ _ (omega (arith, c.pointer_in-third.ensures.at, c.pointer_len-len.ensures.value)) c.pointer_in-third.ensures.value)
    (told_image (g.S.Store.state c.args.store.now)) refl c.mapped_blocks.new.looked.items c.in_ok-single.single c.in_ok-single.ensures.reads
    (told_image (g.S.Store.state c.mapped_blocks.new.store)) (ap told_image c.in_ok-single.ensures.same) c.mapped_blocks-2.new.looked.items c.in_ok-double.double c.in_ok-double.ensures.reads
    (told_image (g.S.Store.state c.mapped_blocks-2.new.store)) c.mapped_blocks-3.new.looked.items c.in_ok-triple.triple (ap told_image (c.in_ok-double.ensures.same ∙ c.in_ok-single.ensures.same)) c.in_ok-triple.ensures.reads

pub returns-clause-kept_within : goal.returns-clause-kept_within
returns-clause-kept_within g c = λ end enough ends. c.in_ok-triple.ensures.kept_within end enough (c.in_ok-double.ensures.kept_within end enough (c.in_ok-single.ensures.kept_within end enough ends))
