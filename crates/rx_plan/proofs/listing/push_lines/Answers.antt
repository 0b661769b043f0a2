use Rattle.std.proofs.Common.{◌∙◌}
use Rattle.rx_plan.proofs.FileLines.{names-more}
use Rattle.rx_plan.proofs.listing.push_lines.Goals as goal

pub loop-name-preserved : goal.loop-name-preserved
loop-name-preserved c =
    let more = names-more c.args.kind c.args.rule c.args.names.now c.loop-name.name-index c.name-item.result c.in_ok-from_str.field-0
    c.args.lines.now.items c.loop-name.lines.items c.push.new.self.items c.loop-name-test.true c.name-item.is
    (c.in_ok-from_str.ensures ∙ c.as_str.ensures.text) c.requires.paths c.as_str.ensures.utf8 c.loop-name.invariant.lines
    c.loop-name.invariant.paths c.in_ok-push.ensures.items in
    record { lines = more.0; paths = more.1 }
