use Rattle.std.proofs.Common.{◌≤◌, ◌^◌, sym, arith}
use Rattle.std.specs.Str.Parse.{digits_value}
use Rattle.std.proofs.lemmas.Bool.Decides.{nat_tests}
use Rattle.cmd_defs.specs.Words.{number_of}
use Rattle.cmd_words.proofs.Lines.{too_great_from_parse}
use Rattle.cmd_words.proofs.words.parse_number.Goals as goal

pub returns-in_err-number : goal.returns-in_err-number
unfolding number_of
returns-in_err-number c =
    let great : 2 ^ 32 ≤ digits_value 10 c.args.word.now = too_great_from_parse c.args.word.now c.parse.result (cc) c.parse.ensures.value.0 (sym c.in_err-number.ensures.variant) in
    grind (arith, nat_tests)
