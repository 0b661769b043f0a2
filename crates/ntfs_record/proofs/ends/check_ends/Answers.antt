use Rattle.std.proofs.Common.{sym, ◌∙◌}
use Rattle.std.specs.Str.{bytes_eq}
use Rattle.ntfs_record_defs.specs.Record.{header_of}
use Rattle.ntfs_record.proofs.Strides.{end_passes, end_refuses, end_is, differ, differ_not}
use Rattle.ntfs_record.proofs.ends.check_ends.Goals as goal

pub returns-then-ne : goal.returns-then-ne
unfolding header_of
returns-then-ne c =
    let same = end_is c.args.bytes.now c.loop-stride.stride c.from.result c.part_of.result.now c.part_of-number.result.now (c.from.ensures ∙ c.u16_at.ensures) c.part_of.ensures.part c.part_of-number.ensures.part in
    let wrong = sym same ∙ differ (bytes_eq c.part_of.result.now c.part_of-number.result.now) c.ne.result c.ne.ensures c.if-ne.true in
    sym (c.loop-stride.invariant ∙ end_refuses c.args.bytes.now c.loop-stride.stride c.loop-stride-test.true wrong)

pub loop-stride-preserved : goal.loop-stride-preserved
unfolding header_of
loop-stride-preserved c =
    let same = end_is c.args.bytes.now c.loop-stride.stride c.from.result c.part_of.result.now c.part_of-number.result.now (c.from.ensures ∙ c.u16_at.ensures) c.part_of.ensures.part c.part_of-number.ensures.part in
    let right = sym same ∙ differ_not (bytes_eq c.part_of.result.now c.part_of-number.result.now) c.ne.result c.ne.ensures c.if-ne.false in
    c.loop-stride.invariant ∙ end_passes c.args.bytes.now c.loop-stride.stride c.loop-stride-test.true right
