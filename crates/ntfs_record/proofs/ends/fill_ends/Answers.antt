use Rattle.std.proofs.Common.{◌≡◌, ◌/◌, length, arith, subst}
use Rattle.ntfs_record.proofs.Filling.{AreFilled, all_filled}
use Rattle.ntfs_record.proofs.ends.fill_ends.Goals as goal

pub returns : goal.returns
returns c =
    let end : c.loop-stride.stride ≡ length c.args.bytes.now / 512 = omega arith in
    all_filled c.args.bytes.now c.loop-stride.bytes c.args.from c.args.step c.requires.strides
    (subst (AreFilled c.args.bytes.now c.loop-stride.bytes c.args.from c.args.step) end c.loop-stride.invariant)
