use Rattle.std.proofs.Common.{◌∙◌}
use Rattle.journal_format.proofs.Whole.{gate_read, headers_are, headers_refuse}
use Rattle.journal_format.proofs.read.open_header.Goals as goal

pub returns-then-header-ne-OPEN_GATE-clause-refuses : goal.returns-then-header-ne-OPEN_GATE-clause-refuses
returns-then-header-ne-OPEN_GATE-clause-refuses c = λ bytes long is open_here. c.if-header-ne-OPEN_GATE.true (gate_read bytes c.args.header.now is ∙ open_here.1)

pub returns-clause-is : goal.returns-clause-is
returns-clause-is c = headers_are c.args.header.now c.args.len c.checked_header.result c.if-header-ne-OPEN_GATE.false c.checked_header.ensures.says c.checked_header.ensures.is

pub returns-clause-refuses : goal.returns-clause-refuses
returns-clause-refuses c = headers_refuse c.args.header.now c.args.len c.checked_header.result c.requires.long c.if-header-ne-OPEN_GATE.false c.checked_header.ensures.says
