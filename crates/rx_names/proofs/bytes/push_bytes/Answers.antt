use Rattle.std.proofs.Common.{◌++◌, ◌∙◌, ap, subst}
use Rattle.std.specs.List.{flat_map}
use Rattle.std.specs.Str.{IsUtf8, chars, encode_utf8_all}
use Rattle.std.specs.String.{string_bytes}
use Rattle.name_defs.specs.Spelling.{byte_escape, name_spelling}
use Rattle.rx_names.proofs.ChunkTexts.{chunk_turn, bytes_end}
use Rattle.rx_names.proofs.bytes.push_bytes.Goals as goal

pub loop-chunk-preserved : goal.loop-chunk-preserved
loop-chunk-preserved c =
    let steps = c.in-Some.ensures.steps in
    let made = string_bytes c.loop-chunk.text in
    let between = string_bytes c.push_name_characters.new.text in
    chunk_turn made between _ _ _ c.in-Some.chunk.valid.now c.in-Some.chunk.invalid.now _ (subst IsUtf8 c.valid.ensures c.valid.utf8) steps.0 steps.3.0 steps.3.1 c.loop-chunk.invariant
    (c.in_ok-push_name_characters.ensures ∙ ap (λ t. made ++ encode_utf8_all (flat_map name_spelling (chars t))) c.valid.ensures)
    (c.in_ok-push_bad_bytes.ensures ∙ ap (λ t. between ++ encode_utf8_all (flat_map byte_escape t)) c.invalid.ensures)

pub returns : goal.returns
returns c = bytes_end _ _ _ c.loop-chunk.invariant c.in-None.ensures.steps.0
