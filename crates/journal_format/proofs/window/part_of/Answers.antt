use Rattle.std.proofs.Common.{◌+◌, ◌-◌, ◌<◌, drop}
use Rattle.std.proofs.lemmas.List.Elements.{All-drop, All-take}
use Rattle.journal_format.proofs.Whole.{are_bytes}
use Rattle.journal_format.proofs.window.part_of.Goals as goal

pub returns-clause-fit : goal.returns-clause-fit
returns-clause-fit c =
    All-take (λ byte. byte < 256) (c.args.from + c.args.len - c.args.from) (drop c.args.from c.args.bytes.now) (All-drop (λ byte. byte < 256) c.args.from c.args.bytes.now (are_bytes c.args.bytes.now c.type_inv.bytes))
