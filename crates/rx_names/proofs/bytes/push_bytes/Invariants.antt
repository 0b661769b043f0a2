use Rattle.std.proofs.Common.{◌≡◌, ◌++◌}
use Rattle.std.specs.Str.Chunks.{utf8_chunks_rest}
use Rattle.std.specs.String.{string_bytes}
use Rattle.name_defs.specs.Texts.{bytes_text}
use Rattle.rx_names.proofs.bytes.push_bytes.Given as goal

-- what is there, with the text of the bytes that are left, is the whole
abbrev pub invariant-loop-chunk : goal.invariant-loop-chunk
invariant-loop-chunk l = string_bytes l.text ++ bytes_text (utf8_chunks_rest l.chunk-iterator) ≡ string_bytes l.initial.text ++ bytes_text l.bytes
