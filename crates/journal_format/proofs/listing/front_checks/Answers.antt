use Rattle.std.proofs.Common.{ap, ◌∙◌, ◌+◌, slice_index}
use Rattle.std.specs.Prelude.{nat_le}
use Rattle.journal_defs.specs.Checks.{is_listed_rule}
use Rattle.journal_format.proofs.Steps.{front_table, front_ends}
use Rattle.journal_format.proofs.listing.front_checks.Goals as goal

pub returns-clause-are : goal.returns-clause-are
returns-clause-are c = λ whole there.
    front_table whole c.args.bytes.now c.args.at c.args.end _ _ _ there c.requires.room c.is_kind.ensures (c.is_listed_rule.ensures ∙ ap (is_listed_rule (slice_index c.args.bytes.now 0)) c.u32_at.ensures)
    (ap (λ n. nat_le (c.args.at + (7 + n)) c.args.end) (c.from-path_len.ensures ∙ c.u16_at.ensures))

pub returns-clause-inside : goal.returns-clause-inside
returns-clause-inside c = λ none. front_ends _ _ _ _ c.args.end _ _ _ (ap (λ n. nat_le (c.args.at + (7 + n)) c.args.end) (c.from-path_len.ensures ∙ c.u16_at.ensures)) none
