-- The forms of a line of words, and of a word for a number.
use Rattle.std.proofs.Common.{◌≡◌, ℕ, ◌^◌, ◌<◌, ◌≤◌, ◌≢◌, inl, inr, true, false, List, [], ◌∷◌, length, get_or, map, None, Result, Ok, Err, is_ok, refl, sym, ap, arith, rules}
use Rattle.std.specs.Char.{is_ascii_digit}
use Rattle.std.specs.List.{list_all}
use Rattle.std.specs.Str.Parse.{digits_value, ParsesUnsigned}
use Rattle.std.proofs.lemmas.Str.Parse.{IsNumeralModel, numerals_by_value, parse_digits}
use Rattle.std.proofs.lemmas.Bool.{cases_lt}
use Rattle.std.proofs.lemmas.Bool.Decides.{nat_tests}
use Rattle.cmd_defs.specs.Words.{is_numeral, command_of, two_words, three_words, four_words}

-- what a test of the length and then of the bytes says of a numeral
pub is_numeral-none : (word : List ℕ) → length word ≡ 0 → is_numeral word ≡ false
is_numeral-none [] none = refl
is_numeral-none (first ∷ rest) none = absurd (omega arith)

pub is_numeral-single : (word : List ℕ) → length word ≡ 1 → is_numeral word ≡ is_ascii_digit (get_or word 0 0)
is_numeral-single [] one = absurd (omega arith)
is_numeral-single (only ∷ []) one = refl
is_numeral-single (first ∷ second ∷ rest) one = absurd (omega arith)

pub is_numeral-zero : (word : List ℕ) → 2 ≤ length word → get_or word 0 0 ≡ 48 → is_numeral word ≡ false
is_numeral-zero [] long zero = absurd (omega arith)
is_numeral-zero (only ∷ []) long zero = absurd (omega arith)
is_numeral-zero (first ∷ second ∷ rest) long zero = grind (arith, nat_tests)

pub is_numeral-several : (word : List ℕ) → 2 ≤ length word → get_or word 0 0 ≢ 48 → is_numeral word ≡ list_all is_ascii_digit word
is_numeral-several [] long other = absurd (omega arith)
is_numeral-several (only ∷ []) long other = absurd (omega arith)
is_numeral-several (first ∷ second ∷ rest) long other = grind (arith, nat_tests)

pub ruleset numerals = (is_numeral-none, is_numeral-single, is_numeral-zero, is_numeral-several)

-- a numeral has digits alone, and at least one
digits_from_numeral : (word : List ℕ) → is_numeral word ≡ true → list_all is_ascii_digit word ≡ true
digits_from_numeral [] numeral = absurd (cc)
digits_from_numeral (only ∷ []) numeral = grind (arith, nat_tests)
digits_from_numeral (first ∷ second ∷ rest) numeral = grind (arith, nat_tests)

some_from_numeral : (word : List ℕ) → is_numeral word ≡ true → 0 < length word
some_from_numeral [] numeral = absurd (cc)
some_from_numeral (first ∷ rest) numeral = omega arith

-- std's words for a number, and those of a numeral
digits_model : IsNumeralModel (λ word. list_all is_ascii_digit word ≡ true) (digits_value 10)
digits_model = numerals_by_value _ (search rules)

-- a numeral that std reads as no 32-bit number is too great
pub too_great_from_parse : {E : Type 0} (word : List ℕ) (answer : Result ℕ E) → is_numeral word ≡ true → ParsesUnsigned 32 10 word answer → is_ok answer ≡ false → 2 ^ 32 ≤ digits_value 10 word
too_great_from_parse word (Ok number) numeral parses refused = cc
too_great_from_parse word (Err error) numeral parses refused =
    let unread = parse_digits digits_model 32 word (Err error) parses (digits_from_numeral word numeral) in
    elim (cases_lt (digits_value 10 word) (2 ^ 32)) [ inl small ↦ absurd (unread (some_from_numeral word numeral, small)) | inr great ↦ great ]

-- the lines of words of each length
pub command_of-two : {A : Type 0} (f : A → List ℕ) (words : List A) (a : A) → length words ≡ 2 → a ≡ get_or words 0 a → command_of (map f words) ≡ two_words (f a)
unfolding command_of
command_of-two f (x ∷ y ∷ []) a count first = ap (λ z. two_words (f z)) (sym first)
command_of-two f other a count first = absurd (omega arith)

pub command_of-three : {A : Type 0} (f : A → List ℕ) (words : List A) (a b c : A) → length words ≡ 3 → a ≡ get_or words 0 a → b ≡ get_or words 1 b → c ≡ get_or words 2 c → command_of (map f words) ≡ three_words (f a) (f b) (f c)
unfolding command_of
command_of-three f (x ∷ y ∷ z ∷ []) a b c count first second third = cc
command_of-three f other a b c count first second third = absurd (omega arith)

pub command_of-four : {A : Type 0} (f : A → List ℕ) (words : List A) (a b c d : A) → length words ≡ 4 → a ≡ get_or words 0 a → b ≡ get_or words 1 b → c ≡ get_or words 2 c → d ≡ get_or words 3 d → command_of (map f words) ≡ four_words (f a) (f b) (f c) (f d)
unfolding command_of
command_of-four f (x ∷ y ∷ z ∷ w ∷ []) a b c d count first second third fourth = cc
command_of-four f other a b c d count first second third fourth = absurd (omega arith)

-- fewer than two words, or more than four, are no line
pub command_of-few : {A : Type 0} (f : A → List ℕ) (words : List A) → length words < 2 → command_of (map f words) ≡ None
unfolding command_of
command_of-few f [] count = refl
command_of-few f (x ∷ []) count = refl
command_of-few f (x ∷ y ∷ rest) count = absurd (omega arith)

pub command_of-many : {A : Type 0} (f : A → List ℕ) (words : List A) → 5 ≤ length words → command_of (map f words) ≡ None
unfolding command_of
command_of-many f (x ∷ y ∷ z ∷ w ∷ v ∷ rest) count = refl
command_of-many f other count = absurd (omega arith)

pub ruleset lines = (command_of-few, command_of-many)
