use Rattle.std.specs.String.{string_bytes}
use Rattle.std.specs.Str.Iter.{chars_rest}
use Rattle.name_defs.specs.Spelling.{word_spelling}
use Rattle.rx_names.proofs.Walks.{IsSpelling, spelled}
use Rattle.rx_names.proofs.word.print_word.Given as goal

-- what is there, with what the characters that are left spell, is the whole
abbrev pub invariant-loop-c : goal.invariant-loop-c
invariant-loop-c l = IsSpelling word_spelling (string_bytes l.text) (chars_rest l.c-iterator) (spelled word_spelling l.word)
