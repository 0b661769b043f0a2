-- The bytes of a chunk that are no text: no character begins at any of them.
use Rattle.std.proofs.Common.{◌≡◌, ◌≢◌, ℕ, zero, suc, ◌+◌, ◌<◌, ◌≤◌, true, false, List, [], ◌++◌, length, take, drop, slice_index, sym, ap, ◌∙◌, refl, arith, append_assoc, append-nil, length-append, get_or-drop, ⊎_elim}
use Rattle.std.specs.Int.{is_in_range}
use Rattle.std.specs.Char.{encode_utf8}
use Rattle.std.specs.List.{flat_map}
use Rattle.std.specs.Str.{IsUtf8, is_utf8, chars, encode_utf8_all, StartsWithNoChar}
use Rattle.std.specs.Str.Lossy.{valid_len_up_to, utf8_valid_len, utf8_error_len, utf8_invalid_len}
use Rattle.std.proofs.lemmas.Bool.{cases_Bool, cases_eq, cond-true, cond-false, true≢false}
use Rattle.std.proofs.lemmas.Bool.Decides.{nat_tests}
use Rattle.std.proofs.lemmas.List.{take_at, drop_at, get_or_append_left, nil_from_length}
use Rattle.std.proofs.lemmas.Str.{IsUtf8-append, IsUtf8-encode, is_utf8-from_IsUtf8, IsCharBoundary-start, length-encode, len_utf8_bounds, encodes-chars, scalars-chars}
use Rattle.name_defs.specs.Spelling.{byte_escape, name_spelling}
use Rattle.name_defs.specs.Texts.{items_text, bytes_text}
use Rattle.name_defs.proofs.ByteLaws.{byte_items-nil}
use Rattle.name_defs.proofs.TextLaws.{items_text-nil, bytes_text-characters, bytes_text-bad}

-- a front that is UTF-8 is no longer than the longest
longest_front : (bytes : List ℕ) (n m : ℕ) → m ≤ n → is_utf8 (take m bytes) ≡ true → m ≤ valid_len_up_to bytes n
longest_front bytes zero m within is = omega arith
longest_front bytes (suc n) m within is = ⊎_elim
    (λ yes. omega (arith, cond-true _ (suc n) (valid_len_up_to bytes n) yes))
    (λ (none : is_utf8 (take (suc n) bytes) ≡ false).
    let less : m ≢ suc n = λ same. true≢false (sym is ∙ ap (λ k. is_utf8 (take k bytes)) same ∙ none) in
    omega (arith, cond-false _ (suc n) (valid_len_up_to bytes n) none, longest_front bytes n m (omega arith) is))
    (cases_Bool (is_utf8 (take (suc n) bytes)))

-- no character begins behind the longest front that is UTF-8
no_char_behind : (valid behind : List ℕ) → IsUtf8 valid → length valid ≡ utf8_valid_len (valid ++ behind) → StartsWithNoChar behind
unfolding utf8_valid_len
no_char_behind valid behind text len c rest scalar split =
    let bytes = valid ++ behind in
    let longer = valid ++ encode_utf8 c in
    let whole : bytes ≡ longer ++ rest = ap (λ t. valid ++ t) split ∙ sym (append_assoc valid (encode_utf8 c) rest) in
    let front : take (length longer) bytes ≡ longer = ap (take (length longer)) whole ∙ take_at longer rest (length longer) refl in
    let is : is_utf8 (take (length longer) bytes) ≡ true = ap is_utf8 front ∙ is_utf8-from_IsUtf8 longer (IsUtf8-append valid (encode_utf8 c) text (IsUtf8-encode c scalar)) in
    let fits : length longer ≤ length bytes = omega (arith, ap length whole, length-append longer rest) in
    let least = longest_front bytes (length bytes) (length longer) fits is in
    let some = len_utf8_bounds c in
    omega (arith, length-append valid (encode_utf8 c), length-encode c)

-- the bytes at fault are three at most
fault_short : (bytes : List ℕ) → utf8_invalid_len bytes ≤ 3
unfolding utf8_error_len
fault_short bytes = grind (arith, nat_tests)

-- the second and the third of the bytes at fault may only continue a character
second_continues : (bytes : List ℕ) → 1 < utf8_invalid_len bytes → is_in_range 0x80 0xBF (slice_index bytes 1) ≡ true
unfolding utf8_error_len
second_continues bytes less = grind (arith, nat_tests)

third_continues : (bytes : List ℕ) → 2 < utf8_invalid_len bytes → is_in_range 0x80 0xBF (slice_index bytes 2) ≡ true
unfolding utf8_error_len
third_continues bytes less = grind (arith, nat_tests)

continues : (bytes : List ℕ) (k : ℕ) → 0 < k → k < utf8_invalid_len bytes → is_in_range 0x80 0xBF (slice_index bytes k) ≡ true
continues bytes k more less = ⊎_elim
    (λ (one : k ≡ 1). ap (λ n. is_in_range 0x80 0xBF (slice_index bytes n)) one ∙ second_continues bytes (omega (arith, less)))
    (λ (past : k ≡ 1 → ⊥).
    let two : k ≡ 2 = omega (arith, fault_short bytes, less) in
    ap (λ n. is_in_range 0x80 0xBF (slice_index bytes n)) two ∙ third_continues bytes (omega (arith, less)))
    (cases_eq k 1)

-- a byte that only continues a character begins none
no_char_inside : (bytes : List ℕ) → is_in_range 0x80 0xBF (slice_index bytes 0) ≡ true → StartsWithNoChar bytes
no_char_inside bytes inside c rest scalar split =
    let bounds = len_utf8_bounds c in
    let len = length-encode c in
    let lead = (IsCharBoundary-start (encode_utf8 c) (IsUtf8-encode c scalar)).1 in
    let same : slice_index bytes 0 ≡ slice_index (encode_utf8 c) 0 = ap (λ t. slice_index t 0) split ∙ get_or_append_left (encode_utf8 c) rest 0 0 (omega arith) in
    let from : 128 ≤ slice_index bytes 0 = grind (arith, nat_tests) in
    let to : slice_index bytes 0 < 192 = grind (arith, nat_tests) in
    omega (arith, lead)

-- no character begins at a byte of a fault
none_in_fault : (fault behind : List ℕ) → StartsWithNoChar (fault ++ behind) → length fault ≡ utf8_invalid_len (fault ++ behind) → (k : ℕ) → k < length fault → StartsWithNoChar (drop k (fault ++ behind))
none_in_fault fault behind none len zero less = none
none_in_fault fault behind none len (suc k) less =
    let bytes = fault ++ behind in
    let at : slice_index (drop (suc k) bytes) 0 ≡ slice_index bytes (suc k) = get_or-drop (suc k) bytes 0 0 ∙ ap (λ n. slice_index bytes n) (let place : suc k + 0 ≡ suc k = omega arith in place) in
    no_char_inside (drop (suc k) bytes) (ap (is_in_range 0x80 0xBF) at ∙ continues bytes (suc k) (omega arith) (omega arith))

-- the text of a chunk, and that of the bytes behind it
pub bytes_text-chunk : (bytes valid fault behind : List ℕ) → IsUtf8 valid → bytes ≡ valid ++ (fault ++ behind) → length valid ≡ utf8_valid_len bytes → length fault ≡ utf8_invalid_len (drop (utf8_valid_len bytes) bytes)
    → bytes_text bytes ≡ encode_utf8_all (flat_map name_spelling (chars valid)) ++ (encode_utf8_all (flat_map byte_escape fault) ++ bytes_text behind)
bytes_text-chunk bytes valid fault behind text split valid_len fault_len =
    let rest = fault ++ behind in
    let after : drop (utf8_valid_len bytes) bytes ≡ rest = ap (drop (utf8_valid_len bytes)) split ∙ drop_at valid rest (utf8_valid_len bytes) valid_len in
    let none = no_char_behind valid rest text (valid_len ∙ ap utf8_valid_len split) in
    let nowhere = none_in_fault fault behind none (fault_len ∙ ap utf8_invalid_len after) in
    ap bytes_text split
    ∙ ap (λ t. bytes_text (t ++ rest)) (sym (encodes-chars valid text))
    ∙ bytes_text-characters (chars valid) rest (scalars-chars valid text)
    ∙ ap (λ t. encode_utf8_all (flat_map name_spelling (chars valid)) ++ t) (bytes_text-bad fault behind nowhere)

-- a turn over a chunk: its text and its fault are appended
pub chunk_turn : (made between more whole bytes valid fault behind : List ℕ) → IsUtf8 valid → bytes ≡ valid ++ (fault ++ behind) → length valid ≡ utf8_valid_len bytes → length fault ≡ utf8_invalid_len (drop (utf8_valid_len bytes) bytes)
    → made ++ bytes_text bytes ≡ whole → between ≡ made ++ encode_utf8_all (flat_map name_spelling (chars valid)) → more ≡ between ++ encode_utf8_all (flat_map byte_escape fault) → more ++ bytes_text behind ≡ whole
chunk_turn made between more whole bytes valid fault behind text split valid_len fault_len so grown escaped =
    let a = encode_utf8_all (flat_map name_spelling (chars valid)) in
    let b = encode_utf8_all (flat_map byte_escape fault) in
    ap (λ t. t ++ bytes_text behind) (escaped ∙ ap (λ t. t ++ b) grown)
    ∙ append_assoc (made ++ a) b (bytes_text behind) ∙ append_assoc made a (b ++ bytes_text behind)
    ∙ ap (λ t. made ++ t) (sym (bytes_text-chunk bytes valid fault behind text split valid_len fault_len)) ∙ so

-- the end: no byte is left
pub bytes_end : (made left whole : List ℕ) → made ++ bytes_text left ≡ whole → length left ≡ 0 → made ≡ whole
bytes_end made left whole so none =
    let nothing : bytes_text [] ≡ [] = ap items_text byte_items-nil ∙ items_text-nil in
    sym (append-nil made) ∙ ap (λ t. made ++ t) (sym nothing) ∙ ap (λ t. made ++ bytes_text t) (sym (nil_from_length left none)) ∙ so
