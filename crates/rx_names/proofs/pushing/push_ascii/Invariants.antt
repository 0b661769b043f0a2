use Rattle.std.proofs.Common.{◌≡◌, ◌++◌, drop}
use Rattle.std.specs.String.{string_bytes}
use Rattle.std.specs.Str.{encode_utf8_all}
use Rattle.rx_names.proofs.pushing.push_ascii.Given as goal

-- what is there, with the bytes that are left, is the whole
abbrev pub invariant-loop-byte : goal.invariant-loop-byte
invariant-loop-byte l = string_bytes l.text ++ encode_utf8_all (drop l.byte-index l.bytes) ≡ string_bytes l.initial.text ++ encode_utf8_all l.bytes
