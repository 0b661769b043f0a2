-- How a name of bytes is read: a character where one begins, and else one byte.
use Rattle.std.specs.Prelude.{◌≡◌, ℕ, ◌<◌, ◌≤◌, ◌⊎◌, Bool, true, false, Some, None, List, [], ◌∷◌, ◌++◌, length, take, drop, find, flat_map, slice_index, ⊤, encode_utf8, refl}
use Rattle.std.proofs.Common.{ap, sym, ◌∙◌, subst, arith, append_assoc, append-nil, length-append, length-take, take-append-drop, inl, inr, ⊎_elim}
use Rattle.std.proofs.lemmas.Bool.{cases_Bool, cond-true, cond-false, cases_eq, cases_lt, false_from_ne_true, and_parts, and_from}
use Rattle.std.proofs.lemmas.List.{take_at}
use Rattle.std.proofs.lemmas.Str.{IsUtf8-from_is_utf8, is_utf8-from_IsUtf8, IsUtf8-encode, encode_same, encode_ascii, chars-encodes, length-encode, len_utf8_bounds}
use Rattle.std.specs.Char.{IsScalar}
use Rattle.std.specs.List.{AllByRecursion}
use Rattle.std.specs.Str.{is_utf8, chars, encode_utf8_all, all_scalars, StartsWithNoChar}
use Rattle.std.specs.Option.{option_map_or}
use Rattle.std.proofs.Math.Utf8.{low_scalar}
use Rattle.name_defs.specs.Items.{Item, Character, Byte, item_bytes, front_len, item_of_bytes, byte_items}
use Rattle.name_defs.proofs.WalkLaws.{Fronts}
use Rattle.name_defs.proofs.WalkLaws.{items_past-front, items_past-restored, items_past-all, fronts_from}
use Rattle.name_defs.proofs.SpellingLaws.{IsReadable}

-- the test of the first n bytes
abbrev test_of : List ℕ → ℕ → Bool
test_of bytes n = is_utf8 (take n bytes)

-- bytes that begin with a character of at most n bytes
record Begins (bytes : List ℕ) (n : ℕ) : Type 0 where
  c : ℕ
  rest : List ℕ
  scalar : IsScalar c
  split : bytes ≡ encode_utf8 c ++ rest
  within : length (encode_utf8 c) ≤ n

-- the first n bytes are these characters
begins_with : (bytes : List ℕ) (n : ℕ) (cs : List ℕ) → 0 < length bytes → 0 < n → all_scalars cs ≡ true → encode_utf8_all cs ≡ take n bytes → Begins bytes n
begins_with bytes n [] some more all e = absurd (omega (arith, ap length e, length-take n bytes))
begins_with bytes n (c ∷ cs) some more all e = record {
  c = c;
  rest = encode_utf8_all cs ++ drop n bytes;
  scalar = (and_parts _ _ all).0;
  split = sym (take-append-drop n bytes) ∙ ap (λ t. t ++ drop n bytes) (sym e) ∙ append_assoc (encode_utf8 c) (encode_utf8_all cs) (drop n bytes);
  within = omega (arith, length-append (encode_utf8 c) (encode_utf8_all cs), ap length e, length-take n bytes);
}

-- bytes of which the first n are UTF-8 begin with a character
begins_from : (bytes : List ℕ) (n : ℕ) → 0 < length bytes → 0 < n → test_of bytes n ≡ true → Begins bytes n
begins_from bytes n some more is =
    let text = IsUtf8-from_is_utf8 (take n bytes) is in
    begins_with bytes n text.0 some more text.1.0 text.1.1

-- a character takes one to four bytes
length_bounds : (c : ℕ) → (1 ≤ length (encode_utf8 c)) × (length (encode_utf8 c) ≤ 4)
length_bounds c = let bounds = len_utf8_bounds c in let len = length-encode c in (omega arith, omega arith)

-- the least of 1 to 4 that passes a test
least_of_four : (p : ℕ → Bool) (n : ℕ) → 1 ≤ n → n ≤ 4 → p n ≡ true → ((m : ℕ) → 0 < m → m < n → p m ≡ false) → find p (1 ∷ 2 ∷ 3 ∷ 4 ∷ []) ≡ Some n
least_of_four p n low high is before =
    let here = λ (k : ℕ) (same : n ≡ k). subst (λ m. p m ≡ true) same is in
    ⊎_elim (λ one. cond-true _ _ _ (here 1 one) ∙ ap Some (sym one))
    (λ (past1 : n ≡ 1 → ⊥). cond-false _ _ _ (before 1 (omega arith) (omega arith)) ∙
    ⊎_elim (λ two. cond-true _ _ _ (here 2 two) ∙ ap Some (sym two))
    (λ (past2 : n ≡ 2 → ⊥). cond-false _ _ _ (before 2 (omega arith) (omega arith)) ∙
    ⊎_elim (λ three. cond-true _ _ _ (here 3 three) ∙ ap Some (sym three))
    (λ (past3 : n ≡ 3 → ⊥). let four : n ≡ 4 = omega arith in
    cond-false _ _ _ (before 3 (omega arith) (omega arith)) ∙ cond-true _ _ _ (here 4 four) ∙ ap Some (sym four))
    (cases_eq n 3)) (cases_eq n 2)) (cases_eq n 1)

-- where none of the four passes
none_of_four : (p : ℕ → Bool) → p 1 ≡ false → p 2 ≡ false → p 3 ≡ false → p 4 ≡ false → find p (1 ∷ 2 ∷ 3 ∷ 4 ∷ []) ≡ None
none_of_four p a b c d = cond-false _ _ _ a ∙ cond-false _ _ _ b ∙ cond-false _ _ _ c ∙ cond-false _ _ _ d

-- the first bytes of a character's are the character's
take-encode : (c : ℕ) (rest : List ℕ) → take (length (encode_utf8 c)) (encode_utf8 c ++ rest) ≡ encode_utf8 c
take-encode c rest = take_at (encode_utf8 c) rest (length (encode_utf8 c)) refl

front_len-encode : (c : ℕ) (rest : List ℕ) → IsScalar c → front_len (encode_utf8 c ++ rest) ≡ Some (length (encode_utf8 c))
front_len-encode c rest scalar =
    let bytes = encode_utf8 c ++ rest in
    let bounds = length_bounds c in
    let text : test_of bytes (length (encode_utf8 c)) ≡ true = ap is_utf8 (take-encode c rest) ∙ is_utf8-from_IsUtf8 _ (IsUtf8-encode c scalar) in
    let some : 0 < length bytes = omega (arith, length-append (encode_utf8 c) rest) in
    least_of_four (test_of bytes) (length (encode_utf8 c)) bounds.0 bounds.1 text
    (λ m more less. false_from_ne_true _ (λ is.
    let begins = begins_from bytes m some more is in
    let same = (encode_same c begins.c rest begins.rest begins.split).0 in
    let len : length (encode_utf8 c) ≡ length (encode_utf8 begins.c) = ap (λ d. length (encode_utf8 d)) same in
    let within = begins.within in
    omega arith))

-- the characters of one character's bytes
chars-encode : (c : ℕ) → IsScalar c → chars (encode_utf8 c) ≡ c ∷ []
chars-encode c scalar = ap chars (sym (append-nil (encode_utf8 c))) ∙ chars-encodes (c ∷ []) (and_from _ _ scalar refl)

item_of_bytes-encode : (c : ℕ) (rest : List ℕ) → IsScalar c → item_of_bytes (encode_utf8 c ++ rest) ≡ Character c
unfolding item_of_bytes
item_of_bytes-encode c rest scalar =
    let bytes = encode_utf8 c ++ rest in
    ap (λ found. option_map_or (λ n. Character (slice_index (chars (take n bytes)) 0)) found (Byte (slice_index bytes 0))) (front_len-encode c rest scalar)
    ∙ ap (λ t. Character (slice_index (chars t) 0)) (take-encode c rest)
    ∙ ap (λ t. Character (slice_index t 0)) (chars-encode c scalar)

front_len-no_char : (byte : ℕ) (rest : List ℕ) → StartsWithNoChar (byte ∷ rest) → front_len (byte ∷ rest) ≡ None
front_len-no_char byte rest none =
    let some : 0 < length (byte ∷ rest) = omega arith in
    let fails = λ (n : ℕ) (more : 0 < n). false_from_ne_true (test_of (byte ∷ rest) n) (λ is. let begins = begins_from (byte ∷ rest) n some more is in none begins.c begins.rest begins.scalar begins.split) in
    none_of_four (test_of (byte ∷ rest)) (fails 1 (omega arith)) (fails 2 (omega arith)) (fails 3 (omega arith)) (fails 4 (omega arith))

item_of_bytes-no_char : (byte : ℕ) (rest : List ℕ) → StartsWithNoChar (byte ∷ rest) → item_of_bytes (byte ∷ rest) ≡ Byte byte
unfolding item_of_bytes
item_of_bytes-no_char byte rest none =
    let bytes = byte ∷ rest in
    ap (λ found. option_map_or (λ n. Character (slice_index (chars (take n bytes)) 0)) found (Byte byte)) (front_len-no_char byte rest none)

-- a character in front is read as that character
pub byte_items-encode : (c : ℕ) (rest : List ℕ) → IsScalar c → byte_items (encode_utf8 c ++ rest) ≡ Character c ∷ byte_items rest
unfolding byte_items
byte_items-encode c rest scalar = items_past-front item_of_bytes item_bytes (Character c) rest (length_bounds c).0 (item_of_bytes-encode c rest scalar)

-- a byte at which no character begins is read alone
pub byte_items-no_char : (byte : ℕ) (rest : List ℕ) → StartsWithNoChar (byte ∷ rest) → byte_items (byte ∷ rest) ≡ Byte byte ∷ byte_items rest
unfolding byte_items
byte_items-no_char byte rest none = items_past-front item_of_bytes item_bytes (Byte byte) rest (omega arith) (item_of_bytes-no_char byte rest none)

pub byte_items-nil : byte_items [] ≡ []
unfolding byte_items
byte_items-nil = refl

-- how bytes are read
pub ruleset byte_reading = (byte_items-nil, byte_items-encode, byte_items-no_char)

-- bytes begin with a character or with none
begins_or_not : (bytes : List ℕ) → 0 < length bytes → Begins bytes 4 ⊎ StartsWithNoChar bytes
begins_or_not bytes some =
    let found = λ (n : ℕ) (more : 0 < n) (small : n ≤ 4) (is : test_of bytes n ≡ true). let begins = begins_from bytes n some more is in let within = begins.within in let out : Begins bytes 4 = record { c = begins.c; rest = begins.rest; scalar = begins.scalar; split = begins.split; within = omega arith } in out in
    ⊎_elim (λ yes. inl (found 1 (omega arith) (omega arith) yes)) (λ no1.
    ⊎_elim (λ yes. inl (found 2 (omega arith) (omega arith) yes)) (λ no2.
    ⊎_elim (λ yes. inl (found 3 (omega arith) (omega arith) yes)) (λ no3.
    ⊎_elim (λ yes. inl (found 4 (omega arith) (omega arith) yes)) (λ no4.
    inr (λ c rest scalar split.
    let nothing : front_len bytes ≡ None = none_of_four (test_of bytes) no1 no2 no3 no4 in
    let there : front_len bytes ≡ Some (length (encode_utf8 c)) = ap front_len split ∙ front_len-encode c rest scalar in
    cc))
    (cases_Bool (test_of bytes 4))) (cases_Bool (test_of bytes 3))) (cases_Bool (test_of bytes 2))) (cases_Bool (test_of bytes 1))

-- a byte at which no character begins is no ASCII
no_char_high : (byte : ℕ) (rest : List ℕ) → StartsWithNoChar (byte ∷ rest) → 128 ≤ byte
no_char_high byte rest none = ⊎_elim
    (λ (low : byte < 128). absurd (none byte rest (low_scalar byte (omega arith)) (ap (λ t. t ++ rest) (sym (encode_ascii byte low)))))
    (λ high. high)
    (cases_lt byte 128)

-- bytes that Q allows begin with an item of which P holds, where it holds of each character and of each such byte that is
-- no ASCII
pub byte_fronts : (Q : ℕ → Type 0) (P : Item → Type 0) → ((c : ℕ) → P (Character c)) → ((byte : ℕ) → 128 ≤ byte → Q byte → P (Byte byte))
    → (byte : ℕ) (rest : List ℕ) → AllByRecursion Q (byte ∷ rest) → Fronts item_of_bytes item_bytes P (byte ∷ rest)
byte_fronts Q P of_character of_byte byte rest all = ⊎_elim
    (λ begins.
    fronts_from item_of_bytes item_bytes P (byte ∷ rest) begins.rest (Character begins.c)
    (ap item_of_bytes begins.split ∙ item_of_bytes-encode begins.c begins.rest begins.scalar) (length_bounds begins.c).0 begins.split (of_character begins.c))
    (λ none.
    fronts_from item_of_bytes item_bytes P (byte ∷ rest) rest (Byte byte)
    (item_of_bytes-no_char byte rest none) (omega arith) refl (of_byte byte (no_char_high byte rest none) all.0))
    (begins_or_not (byte ∷ rest) (omega arith))

readable_fronts : (byte : ℕ) (rest : List ℕ) → AllByRecursion (λ _. ⊤) (byte ∷ rest) → Fronts item_of_bytes item_bytes IsReadable (byte ∷ rest)
readable_fronts = byte_fronts (λ _. ⊤) IsReadable (λ c. tt) (λ byte high stored. high)

-- of any numbers there is nothing to show
all_stored : (xs : List ℕ) → AllByRecursion (λ _. ⊤) xs
all_stored [] = tt
all_stored (x ∷ xs) = (tt, all_stored xs)

-- the items of bytes have those bytes, and no others
pub byte_items-restored : (bytes : List ℕ) → flat_map item_bytes (byte_items bytes) ≡ bytes
unfolding byte_items
byte_items-restored bytes = items_past-restored item_of_bytes item_bytes (λ _. ⊤) IsReadable readable_fronts 0 bytes (all_stored bytes)

pub byte_items-readable : (bytes : List ℕ) → AllByRecursion IsReadable (byte_items bytes)
unfolding byte_items
byte_items-readable bytes = items_past-all item_of_bytes item_bytes (λ _. ⊤) IsReadable readable_fronts 0 bytes (all_stored bytes)
