use Rattle.std.proofs.Common.{◌+◌}
use Rattle.hfs_defs.specs.Forks.{slack_of, rests_from}
use Rattle.hfs_extents.proofs.SlackLaws.{slack_found}
use Rattle.hfs_extents.proofs.pieces.slack_of.Goals as goal

pub returns : goal.returns
unfolding slack_of
returns c =
    slack_found (c.args.header.now.at + c.args.header.now.len) c.in_ok-rests_of.field-0.items (rests_from c.args.header.now c.args.size 0 c.args.extents.now) c.from_ranges.result
    c.in_ok-rests_of.ensures.value c.in_ok-rests_of.ensures.within c.from_ranges.ensures.bytes c.from_ranges.ensures.kept
