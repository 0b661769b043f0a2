use Rattle.std.proofs.Common.{◌≡◌, ◌<◌, length, sym, subst, ◌∙◌}
use Rattle.std.proofs.lemmas.Option.{IfSome_then}
use Rattle.rule_defs.specs.Reads.{IsFirstLine, Reads, SaysNoRules}
use Rattle.rule_parse.proofs.FirstLines.{longer-no_rules, other-no_rules, line-reads, reads-not_none}
use Rattle.rule_parse.proofs.read_rules.Goals as goal

pub returns-in-Ok-None-clause-other : goal.returns-in-Ok-None-clause-other
returns-in-Ok-None-clause-other g c = λ _.
    let told = rw c.in-Ok-None.field-0-is at c.in-Ok-None.ensures in
    IfSome_then (g.R.Source.rest c.args.source.now) {P = λ text. 277 < length text} {Q = SaysNoRules} told.long longer-no_rules

pub returns-in_default-clause-other : goal.returns-in_default-clause-other
returns-in_default-clause-other g c = λ _.
    let told = rw c.in-Ok-Some.field-0-is at c.in-Ok-Some.ensures in
    IfSome_then (g.R.Source.rest c.args.source.now) {P = λ text. c.in-Ok-Some.text.items ≡ text} {Q = SaysNoRules} told.whole
    (λ text whole. other-no_rules text
    (λ name fill line. c.in_default.ensures.none name fill (subst (λ t. IsFirstLine t name fill) (sym (c.deref.ensures.value ∙ whole)) line)))

pub returns-clause-read : goal.returns-clause-read
returns-clause-read g c =
    let told = rw c.in-Ok-Some.field-0-is at c.in-Ok-Some.ensures in
    let name = c.in-Some.name.now in
    let fill = c.in-Some.fill in
    let rules = c.in_ok-rules_of.field-0 in
    IfSome_then (g.R.Source.rest c.args.source.now) {P = λ text. c.in-Ok-Some.text.items ≡ text} {Q = λ text. Reads text rules} told.whole
    (λ text whole. line-reads text name fill rules c.in_ok-rules_of.ensures
    (subst (λ t. IsFirstLine t name fill) (c.deref.ensures.value ∙ whole) c.in-Some.ensures.found))

pub returns-clause-complete : goal.returns-clause-complete
returns-clause-complete g c =
    reads-not_none (g.R.Source.rest c.args.source.now) c.in_ok-rules_of.field-0 _ _ (returns-clause-read g c)
