use Rattle.journal_format.proofs.Steps.{range_table, range_ends}
use Rattle.journal_format.proofs.ranges.range_checks.Goals as goal

pub returns-clause-are : goal.returns-clause-are
returns-clause-are c = λ whole there len.
    range_table whole c.args.bytes.now c.args.at c.args.image_len c.args.last_end c.args.last_rule c.claim_of-claim.result _ _ _ _ there len c.claim_of-claim.ensures c.begins_behind.ensures c.ends_inside.ensures c.has_own_rule.ensures c.has_zeros.ensures

pub returns-clause-inside : goal.returns-clause-inside
returns-clause-inside c = λ none. range_ends _ _ _ _ _ c.claim_of-claim.result _ c.args.image_len c.claim_of-claim.ensures c.ends_inside.ensures none
