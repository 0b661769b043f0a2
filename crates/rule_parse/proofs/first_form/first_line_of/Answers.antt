use Rattle.std.proofs.Common.{sym, subst, refl, ◌∙◌}
use Rattle.rule_parse.proofs.FirstLines.{other_text-of_line, other_high, other_low, other_name, first_form, on_none}
use Rattle.rule_defs.specs.FirstLine.{IsOtherLine}
use Rattle.rule_parse.proofs.first_form.first_line_of.Goals as goal

pub returns-in_err-name-clause-none : goal.returns-in_err-name-clause-none
returns-in_err-name-clause-none c =
    on_none _ (other_text-of_line c.args.text.now (subst IsOtherLine c.trimmed.ensures c.in_err-name.ensures.none))

pub returns-in_err-hex_value_of-clause-none : goal.returns-in_err-hex_value_of-clause-none
returns-in_err-hex_value_of-clause-none c =
    on_none _ (other_high c.args.text.now c.in_ok-name.name.now c.in_ok-name.high c.in_ok-name.low
    (sym c.trimmed.ensures ∙ c.in_ok-name.ensures.found) (sym c.in_err-hex_value_of.ensures.value))

pub returns-in_err-fill-clause-none : goal.returns-in_err-fill-clause-none
returns-in_err-fill-clause-none c =
    on_none _ (other_low c.args.text.now c.in_ok-name.name.now c.in_ok-name.high c.in_ok-name.low
    (sym c.trimmed.ensures ∙ c.in_ok-name.ensures.found) (sym c.in_err-fill.ensures.value))

pub returns-clause-found : goal.returns-clause-found
returns-clause-found c =
    first_form c.args.text.now c.in_ok-name.name.now c.in_ok-name.high c.in_ok-name.low c.in_ok-hex_value_of.field-0 c.in_ok-fill.field-0 _
    (sym c.trimmed.ensures ∙ c.in_ok-name.ensures.found) (sym c.is_plain.ensures ∙ c.if-not-is_plain.false) (sym c.in_ok-hex_value_of.ensures.value) (sym c.in_ok-fill.ensures.value) refl

pub returns-then-not-is_plain-clause-none : goal.returns-then-not-is_plain-clause-none
returns-then-not-is_plain-clause-none c =
    other_name c.args.text.now c.in_ok-name.name.now c.in_ok-name.high c.in_ok-name.low (sym c.trimmed.ensures ∙ c.in_ok-name.ensures.found)
    (sym c.is_plain.ensures ∙ c.if-not-is_plain.true)
