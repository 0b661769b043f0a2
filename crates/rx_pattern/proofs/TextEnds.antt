-- A text has no characters exactly where it has no bytes.
use Rattle.std.proofs.Common.{◌≡◌, ℕ, false, ◌==◌, length, List, [], ◌∷◌, refl, sym, ◌∙◌, arith}
use Rattle.std.proofs.lemmas.Bool.{ne_eqb}
use Rattle.std.proofs.lemmas.Str.{chars-nil, encodes-chars}
use Rattle.std.specs.Prelude.{encode_utf8_all}
use Rattle.std.specs.Str.{chars, IsUtf8}
use Rattle.rx_pattern.specs.MatchTest.{is_empty}

is_empty-encoded : (cs : List ℕ) (b : ℕ) (text : List ℕ) → encode_utf8_all cs ≡ b ∷ text → is_empty cs ≡ false
is_empty-encoded [] b text encoded = cc
is_empty-encoded (c ∷ cs) b text encoded = refl

pub is_empty-chars : (text : List ℕ) → IsUtf8 text → (length text == 0) ≡ is_empty (chars text)
is_empty-chars [] utf8 = rw chars-nil refl
is_empty-chars (b ∷ text) utf8 =
    ne_eqb (length (b ∷ text)) 0 (λ none. omega arith) ∙ sym (is_empty-encoded (chars (b ∷ text)) b text (encodes-chars (b ∷ text) utf8))
