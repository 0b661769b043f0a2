use Rattle.std.proofs.Common.{arith, length, refl, ap, ◌∙◌}
use Rattle.disk_defs.specs.Story.{Write, Made, and_then}
use Rattle.rx_store.specs.Changes.{Recording}
use Rattle.rx_store.proofs.Written.{recorded_write}
use Rattle.rx_store.proofs.changes.Changes.add_write.Goals as goal

pub returns-clause-story : goal.returns-clause-story
returns-clause-story c =
    recorded_write _ c.self.inside.log.items _ c.args.bytes.now c.self.inside.records.items _ c.args.area c.args.at c.len-from.result (length c.args.bytes.now) c.append.ensures.items c.push.ensures.items
    (omega (arith, c.len-from.ensures, c.self.inside.log.ok.0)) refl c.self.invariant.0
    ∙ ap (λ (recording : Recording). and_then (Made (Write c.args.area c.args.at c.args.bytes.now)) recording.story) c.self.view_is
