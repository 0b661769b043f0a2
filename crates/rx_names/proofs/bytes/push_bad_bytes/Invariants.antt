use Rattle.std.proofs.Common.{◌≡◌, ◌++◌, drop}
use Rattle.std.specs.List.{flat_map}
use Rattle.std.specs.Str.{encode_utf8_all}
use Rattle.std.specs.String.{string_bytes}
use Rattle.name_defs.specs.Spelling.{byte_escape}
use Rattle.rx_names.proofs.bytes.push_bad_bytes.Given as goal

-- what is there, with the escapes of the bytes that are left, is the whole
abbrev pub invariant-loop-byte : goal.invariant-loop-byte
invariant-loop-byte l = string_bytes l.text ++ encode_utf8_all (flat_map byte_escape (drop l.byte-index l.bytes)) ≡ string_bytes l.initial.text ++ encode_utf8_all (flat_map byte_escape l.bytes)
