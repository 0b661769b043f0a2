use Rattle.std.proofs.Common.{◌≡◌, None, ap, sym, ◌∙◌, arith}
use Rattle.journal_defs.specs.Checks as table
use Rattle.journal_defs.proofs.Journals.{header_holds}
use Rattle.journal_format.proofs.decode.checked_header.Goals as goal

pub returns-in-None-clause-few : goal.returns-in-None-clause-few
returns-in-None-clause-few c =
    let none : table.first_failing (table.header_checks c.args.bytes.now c.args.len) ≡ None = sym (ap table.first_failing c.header_checks.ensures) ∙ sym c.in-None.ensures in
    rw c.of.ensures (header_holds c.args.bytes.now c.args.len none).ranges

pub returns-in-None-clause-short : goal.returns-in-None-clause-short
returns-in-None-clause-short c =
    let none : table.first_failing (table.header_checks c.args.bytes.now c.args.len) ≡ None = sym (ap table.first_failing c.header_checks.ensures) ∙ sym c.in-None.ensures in
    rw c.of.ensures (header_holds c.args.bytes.now c.args.len none).listing

pub returns-in-None-clause-fits : goal.returns-in-None-clause-fits
returns-in-None-clause-fits c =
    let none : table.first_failing (table.header_checks c.args.bytes.now c.args.len) ≡ None = sym (ap table.first_failing c.header_checks.ensures) ∙ sym c.in-None.ensures in
    let holds = header_holds c.args.bytes.now c.args.len none in
    rw c.of.ensures (omega (arith, holds.body, holds.total, c.requires.long))
