use Rattle.rule_parse.proofs.FirstLines.{other_opening, other_length, other_middle, line-parts, on_none}
use Rattle.rule_parse.proofs.first_form.split.Goals as goal

pub returns-in_err-quoted-clause-none : goal.returns-in_err-quoted-clause-none
returns-in_err-quoted-clause-none c = on_none _ (other_opening c.args.line.now c.in_err-quoted.ensures.cases)

pub returns-in_err-head-clause-none : goal.returns-in_err-head-clause-none
returns-in_err-head-clause-none c = let h = c.in_ok-quoted.ensures in let k = c.in_err-head.ensures in
    on_none _ (other_length c.args.line.now _ c.in_ok-quoted.ensures.cases.1 c.in_err-head.ensures.cases)

pub returns-in_err-name-clause-none : goal.returns-in_err-name-clause-none
returns-in_err-name-clause-none c =
    on_none _ (other_middle c.args.line.now _ _ c.in_ok-quoted.ensures.cases.1 c.in_ok-head.ensures.cases.0 c.in_err-name.ensures.cases)

pub returns-clause-found : goal.returns-clause-found
returns-clause-found c =
    line-parts c.args.line.now _ _ c.in_ok-head.digits.now c.in_ok-name.name.now c.in_ok-quoted.ensures.cases.0 c.in_ok-quoted.ensures.cases.1
    c.in_ok-head.ensures.cases.0 c.in_ok-head.ensures.cases.1 c.in_ok-head.ensures.cases.2 c.in_ok-name.ensures.cases.0 c.in_ok-name.ensures.cases.1
