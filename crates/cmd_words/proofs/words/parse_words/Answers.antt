use Rattle.std.proofs.Common.{arith}
use Rattle.std.specs.String.{string_bytes}
use Rattle.cmd_words.proofs.Lines.{command_of-two, command_of-three, command_of-four}
use Rattle.cmd_words.proofs.words.parse_words.Goals as goal

pub returns-in-len2 : goal.returns-in-len2
returns-in-len2 c =
    let e = command_of-two (λ word. string_bytes word) c.args.words.now c.verb-item.result (omega arith) c.verb-item.is in
    cc

pub returns-in-len3 : goal.returns-in-len3
returns-in-len3 c =
    let e = command_of-three (λ word. string_bytes word) c.args.words.now c.verb-item-then-words-lt4.result c.second-item.result c.third-item.result (omega arith) c.verb-item-then-words-lt4.is c.second-item.is c.third-item.is in
    cc

pub returns-in-len4 : goal.returns-in-len4
returns-in-len4 c =
    let e = command_of-four (λ word. string_bytes word) c.args.words.now c.verb-item-then-words-lt5.result c.second-item-then-words-lt5.result c.third-item-then-words-lt5.result c.fourth-item.result (omega arith) c.verb-item-then-words-lt5.is c.second-item-then-words-lt5.is c.third-item-then-words-lt5.is c.fourth-item.is in
    cc
