-- Turns of the loops that append what is read, one thing at a time.
use Rattle.std.proofs.Common.{◌≡◌, ℕ, suc, ◌+◌, ◌<◌, List, [], ◌++◌, sym, ap, ◌∙◌, append_assoc, append-nil, length, drop, drop-cons, slice_index, arith}
use Rattle.std.specs.List.{flat_map}
use Rattle.std.specs.Char.{encode_utf8}
use Rattle.std.specs.Str.{IsUtf8, chars, encode_utf8_all}
use Rattle.std.proofs.lemmas.List.{nil_from_length}
use Rattle.name_defs.specs.Spelling.{byte_escape}
use Rattle.std.proofs.lemmas.Str.{chars_past_char, IsUtf8-past_char, encodes-append, chars-nil}

-- the text that a spelling makes of the characters of a text
abbrev pub spelled : (ℕ → List ℕ) → List ℕ → List ℕ
spelled spelling text = encode_utf8_all (flat_map spelling (chars text))

-- the characters that are left are text, and what is there with what they spell is the whole
pub record IsSpelling (spelling : ℕ → List ℕ) (made left whole : List ℕ) : Type 0 where
  pub text : IsUtf8 left
  pub same : made ++ spelled spelling left ≡ whole

module _ (spelling : ℕ → List ℕ) where
  -- a turn: a character comes off, and its spelling is appended
  pub spelling_turn : (made left more rest whole : List ℕ) (c : ℕ) → IsSpelling spelling made left whole → left ≡ encode_utf8 c ++ rest → more ≡ made ++ encode_utf8_all (spelling c) → IsSpelling spelling more rest whole
  spelling_turn made left more rest whole c so split grown =
      let first : spelled spelling left ≡ encode_utf8_all (spelling c) ++ spelled spelling rest =
      ap (λ cs. encode_utf8_all (flat_map spelling cs)) (chars_past_char left rest c so.text split) ∙ encodes-append (spelling c) (flat_map spelling (chars rest)) in
      record {
        text = IsUtf8-past_char left rest c so.text split;
        same = ap (λ t. t ++ spelled spelling rest) grown ∙ append_assoc made (encode_utf8_all (spelling c)) (spelled spelling rest) ∙ ap (λ t. made ++ t) (sym first) ∙ so.same;
      }

  -- the end: no character is left
  pub spelling_end : (made left whole : List ℕ) → IsSpelling spelling made left whole → length left ≡ 0 → made ≡ whole
  spelling_end made left whole so none =
      let nothing : spelled spelling left ≡ [] = ap (spelled spelling) (nil_from_length left none) ∙ ap (λ cs. encode_utf8_all (flat_map spelling cs)) chars-nil in
      sym (append-nil made) ∙ ap (λ t. made ++ t) (sym nothing) ∙ so.same

-- a turn of a loop over bytes: the escape of the byte at i is appended
pub escape_turn : (made more whole bytes : List ℕ) (i : ℕ) → i < length bytes → made ++ encode_utf8_all (flat_map byte_escape (drop i bytes)) ≡ whole
    → more ≡ made ++ encode_utf8_all (byte_escape (slice_index bytes i)) → more ++ encode_utf8_all (flat_map byte_escape (drop (i + 1) bytes)) ≡ whole
escape_turn made more whole bytes i less so grown =
    let first = byte_escape (slice_index bytes i) in
    let rest = flat_map byte_escape (drop (i + 1) bytes) in
    let next : i + 1 ≡ suc i = omega arith in
    let split : flat_map byte_escape (drop i bytes) ≡ first ++ rest = ap (flat_map byte_escape) (drop-cons bytes i 0 less) ∙ ap (λ n. first ++ flat_map byte_escape (drop n bytes)) (sym next) in
    ap (λ t. t ++ encode_utf8_all rest) grown ∙ append_assoc made (encode_utf8_all first) (encode_utf8_all rest)
    ∙ ap (λ t. made ++ t) (sym (encodes-append first rest)) ∙ ap (λ t. made ++ encode_utf8_all t) (sym split) ∙ so
