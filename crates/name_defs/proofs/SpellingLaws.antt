-- The spelling of an item tells the item, also with more text behind it.
use Rattle.std.specs.Prelude.{◌≡◌, ◌≢◌, ℕ, ◌/◌, ◌%◌, ◌<◌, ◌≤◌, true, false, nat_lt, ◌==◌, List, [], ◌∷◌, ◌++◌, length, ⊤, refl, if◌then◌else◌}
use Rattle.std.proofs.Common.{ap, sym, ◌∙◌, arith, ⊎_elim}
use Rattle.std.proofs.lemmas.Bool.{cases_Bool, cond-true, cond-false, eqb-true, eqb-false}
use Rattle.std.proofs.lemmas.Bool.Decides.{nat_tests}
use Rattle.std.specs.Int.{is_in_range}
use Rattle.std.specs.Char.{is_ascii_control}
use Rattle.name_defs.specs.Spelling.{hex_digit, byte_escape, unit_escape, word_spelling, name_spelling, backslash, slash, is_noncharacter}
use Rattle.name_defs.specs.Items.{Item, Character, Byte, Surrogate}
use Rattle.name_defs.specs.Texts.{item_spelling}

-- what a reading gives: a bad byte is no ASCII, and a surrogate is one
abbrev pub IsReadable : Item → Type 0
IsReadable (Character c) = ⊤
IsReadable (Byte byte) = 128 ≤ byte
IsReadable (Surrogate unit) = is_in_range 0xD800 0xDFFF unit ≡ true

-- the forms in which a printed name spells
data Form : Type 0 where
  Plain : ℕ → Form
  Doubled : Form
  ByteForm : ℕ → Form
  UnitForm : ℕ → Form

-- the characters of a form
abbrev form_text : Form → List ℕ
form_text (Plain c) = c ∷ []
form_text Doubled = backslash ∷ backslash ∷ []
form_text (ByteForm byte) = byte_escape byte
form_text (UnitForm unit) = unit_escape unit

-- a plain character is no backslash
abbrev IsForm : Form → Type 0
IsForm (Plain c) = c ≢ backslash
IsForm other = ⊤

-- the item that a form spells
abbrev form_item : Form → Item
form_item (Plain c) = Character c
form_item Doubled = Character backslash
form_item (ByteForm byte) = if nat_lt byte 128 then Character byte else Byte byte
form_item (UnitForm unit) = if is_in_range 0xD800 0xDFFF unit then Surrogate unit else Character unit

-- the form that spells an item
record FormOf (item : Item) : Type 0 where
  form : Form
  sound : IsForm form
  spells : item_spelling item ≡ form_text form
  back : form_item form ≡ item

hex_digit-same : (m n : ℕ) → hex_digit m ≡ hex_digit n → m ≡ n
unfolding hex_digit
hex_digit-same m n e = grind (arith, nat_tests)

byte_escape-same : (m n : ℕ) (r s : List ℕ) → byte_escape m ++ r ≡ byte_escape n ++ s → (m ≡ n) × (r ≡ s)
unfolding byte_escape
byte_escape-same m n r s e =
    let high : hex_digit (m / 16) ≡ hex_digit (n / 16) = cc in
    let low : hex_digit (m % 16) ≡ hex_digit (n % 16) = cc in
    let rest : r ≡ s = cc in
    let same_high = hex_digit-same (m / 16) (n / 16) high in
    let same_low = hex_digit-same (m % 16) (n % 16) low in
    (omega arith, rest)

unit_escape-same : (m n : ℕ) (r s : List ℕ) → unit_escape m ++ r ≡ unit_escape n ++ s → (m ≡ n) × (r ≡ s)
unfolding unit_escape
unit_escape-same m n r s e =
    let a : hex_digit (m / 4096) ≡ hex_digit (n / 4096) = cc in
    let b : hex_digit (m / 256 % 16) ≡ hex_digit (n / 256 % 16) = cc in
    let c : hex_digit (m / 16 % 16) ≡ hex_digit (n / 16 % 16) = cc in
    let d : hex_digit (m % 16) ≡ hex_digit (n % 16) = cc in
    let rest : r ≡ s = cc in
    let same_a = hex_digit-same (m / 4096) (n / 4096) a in
    let same_b = hex_digit-same (m / 256 % 16) (n / 256 % 16) b in
    let same_c = hex_digit-same (m / 16 % 16) (n / 16 % 16) c in
    let same_d = hex_digit-same (m % 16) (n % 16) d in
    (omega arith, rest)

apart : (m n : ℕ) → m < n → m ≡ n → ⊥
apart m n less same = omega arith

-- the text of a form tells the form
form_text-same : (x y : Form) (r s : List ℕ) → IsForm x → IsForm y → form_text x ++ r ≡ form_text y ++ s → (x ≡ y) × (r ≡ s)
unfolding byte_escape unit_escape
form_text-same (Plain c) (Plain d) r s p q e = (cc, cc)
form_text-same Doubled (Plain d) r s p q e = let same : d ≡ backslash = cc in absurd (q same)
form_text-same Doubled Doubled r s p q e = (refl, cc)
form_text-same Doubled (ByteForm d) r s p q e = absurd (apart 92 120 (omega arith) cc)
form_text-same Doubled (UnitForm d) r s p q e = absurd (apart 92 117 (omega arith) cc)
form_text-same (ByteForm c) (Plain d) r s p q e = let same : d ≡ backslash = cc in absurd (q same)
form_text-same (ByteForm c) Doubled r s p q e = absurd (apart 92 120 (omega arith) cc)
form_text-same (ByteForm c) (ByteForm d) r s p q e = let same = byte_escape-same c d r s e in (ap ByteForm same.0, same.1)
form_text-same (ByteForm c) (UnitForm d) r s p q e = absurd (apart 117 120 (omega arith) cc)
form_text-same (UnitForm c) (Plain d) r s p q e = let same : d ≡ backslash = cc in absurd (q same)
form_text-same (UnitForm c) Doubled r s p q e = absurd (apart 92 117 (omega arith) cc)
form_text-same (UnitForm c) (ByteForm d) r s p q e = absurd (apart 117 120 (omega arith) cc)
form_text-same (UnitForm c) (UnitForm d) r s p q e = let same = unit_escape-same c d r s e in (ap UnitForm same.0, same.1)
form_text-same (Plain c) other r s p q e = let same : c ≡ backslash = cc in absurd (p same)

-- a character that prints as a byte's escape
byte_form : (c : ℕ) → c < 128 → name_spelling c ≡ byte_escape c → FormOf (Character c)
byte_form c low e = record { form = ByteForm c; sound = tt; spells = e; back = cond-true _ _ _ (let below : nat_lt c 128 ≡ true = grind (arith, nat_tests) in below) }

-- each character's form
character_form : (c : ℕ) → FormOf (Character c)
unfolding word_spelling name_spelling
character_form c =
    ⊎_elim
    (λ (is_slash : (c == slash) ≡ true). byte_form c (grind (arith, nat_tests)) (cond-true _ _ _ is_slash))
    (λ (no_slash : (c == slash) ≡ false).
    let word : name_spelling c ≡ word_spelling c = cond-false _ _ _ no_slash in
    ⊎_elim
    (λ (is : (c == backslash) ≡ true). record {
      form = Doubled;
      sound = tt;
      spells = word ∙ cond-true _ _ _ is;
      back = ap Character (sym (eqb-true c backslash is));
    })
    (λ (no_backslash : (c == backslash) ≡ false).
    let tail = word ∙ cond-false _ _ _ no_backslash in
    ⊎_elim
    (λ (is : is_ascii_control c ≡ true). byte_form c (grind (arith, nat_tests)) (tail ∙ cond-true _ _ _ is))
    (λ (no_control : is_ascii_control c ≡ false).
    let last = tail ∙ cond-false _ _ _ no_control in
    ⊎_elim
    (λ (is : is_noncharacter c ≡ true). record {
      form = UnitForm c;
      sound = tt;
      spells = last ∙ cond-true _ _ _ is;
      back = cond-false _ _ _ (let none : is_in_range 0xD800 0xDFFF c ≡ false = grind (arith, nat_tests) in none);
    })
    (λ (plain : is_noncharacter c ≡ false). record {
      form = Plain c;
      sound = eqb-false c backslash no_backslash;
      spells = last ∙ cond-false _ _ _ plain;
      back = refl;
    })
    (cases_Bool (is_noncharacter c)))
    (cases_Bool (is_ascii_control c)))
    (cases_Bool (c == backslash)))
    (cases_Bool (c == slash))

-- each item's form
form_of : (item : Item) → IsReadable item → FormOf item
form_of (Character c) readable = character_form c
form_of (Byte byte) readable = record { form = ByteForm byte; sound = tt; spells = refl; back = cond-false _ _ _ (let high : nat_lt byte 128 ≡ false = grind (arith, nat_tests) in high) }
form_of (Surrogate unit) readable = record { form = UnitForm unit; sound = tt; spells = refl; back = cond-true _ _ _ readable }

-- the spelling of an item tells the item and the text behind it
pub item_spelling-same : (x y : Item) (r s : List ℕ) → IsReadable x → IsReadable y → item_spelling x ++ r ≡ item_spelling y ++ s → (x ≡ y) × (r ≡ s)
item_spelling-same x y r s p q e =
    let a = form_of x p in
    let b = form_of y q in
    let same = form_text-same a.form b.form r s a.sound b.sound (ap (λ t. t ++ r) (sym a.spells) ∙ e ∙ ap (λ t. t ++ s) b.spells) in
    (sym a.back ∙ ap form_item same.0 ∙ b.back, same.1)

-- each form has a character at least
form_text-some : (form : Form) → 0 < length (form_text form)
unfolding byte_escape unit_escape
form_text-some Doubled = omega arith
form_text-some other = omega arith

pub item_spelling-some : (item : Item) → IsReadable item → 0 < length (item_spelling item)
item_spelling-some item readable = let form = form_of item readable in omega (arith, ap length form.spells, form_text-some form.form)
