-- The first form of a rule text: each line has one name and two digits, or none.
use Rattle.std.proofs.Common.{◌≡◌, ℕ, ◌+◌, ◌-◌, ◌*◌, ◌<◌, ◌≤◌, nat_eq, true, false, List, [], ◌∷◌, ◌++◌, length, take, drop, refl, sym, ap, ◌∙◌, arith, length-append, slice_index_or, length-drop, Option, Some, None, IfNone, IfSome, inl, inr, ⊎_elim, append-nil, ◌&&◌, cond, Bool, slice_index, zero, suc, nat_le}
use Rattle.std.proofs.Math.Seq.{take-append_seam, drop-append_seam}
use Rattle.std.proofs.lemmas.List.{take-append-drop}
use Rattle.std.proofs.lemmas.Bool.{false≢true}
use Rattle.std.specs.Cmp.Lexicographic.{pointwise, same_text, other_text}
use Rattle.std.specs.List.{list_all}
use Rattle.std.specs.Str.{IsAscii, IsUtf8}
use Rattle.std.proofs.lemmas.Str.{IsUtf8-from_ascii}
use Rattle.std.proofs.lemmas.Bool.Decides.{nat_tests}
use Rattle.rule_defs.proofs.ReadsLaws.{opening, middle, rest_of, first_line-opening, rest-is, EndsLine, line-of, same_parts}
use Rattle.rule_defs.specs.Reads.{first_line, hex_value, is_name_byte, is_plain_name, IsFirstLine, Reads, SaysNoRules, first_rule}
use Rattle.rule_defs.specs.declared.Rule.{Rule}
use Rattle.rule_defs.specs.FirstLine.{IsOtherLine, without_end}

-- a text that begins otherwise is another line
pub other_opening : (line : List ℕ) → pointwise nat_eq (take 10 line) opening ≡ false → IsOtherLine line
other_opening line test name high low is =
    other_text (take 10 line) opening (sym test)
    (ap (take 10) (is ∙ first_line-opening name high low) ∙ take-append_seam opening (rest_of name high low))

-- one in which fewer than two bytes follow is another line
pub other_length : (line quoted : List ℕ) → quoted ≡ drop 10 line → length quoted < 2 → IsOtherLine line
other_length line quoted at short name high low is =
    let same = ap length (at ∙ rest-is line name high low is) in
    omega (arith, same, length-append (name ++ middle) (high ∷ low ∷ []))

head-is : (line quoted : List ℕ) (name : List ℕ) (high low : ℕ) → quoted ≡ drop 10 line → line ≡ first_line name high low
    → take (length quoted - 2) quoted ≡ name ++ middle
head-is line quoted name high low at is =
    let whole = at ∙ rest-is line name high low is in
    let long : length quoted - 2 ≡ length (name ++ middle) = omega (arith, ap length whole, length-append (name ++ middle) (high ∷ low ∷ [])) in
    ap (λ n. take n quoted) long ∙ ap (take (length (name ++ middle))) whole ∙ take-append_seam (name ++ middle) (high ∷ low ∷ [])

-- one in which something else stands before the digits is another line
pub other_middle : (line quoted head : List ℕ) → quoted ≡ drop 10 line → head ≡ take (length quoted - 2) quoted
    → pointwise nat_eq (drop (length head - 9) head) middle ≡ false → IsOtherLine line
other_middle line quoted head at front test name high low is =
    let whole = front ∙ head-is line quoted name high low at is in
    let long : length head - 9 ≡ length name = omega (arith, ap length whole, length-append name middle) in
    other_text (drop (length head - 9) head) middle (sym test)
    (ap (λ n. drop n head) long ∙ ap (drop (length name)) whole ∙ drop-append_seam name middle)

two_digits : (digits : List ℕ) → length digits ≡ 2 → digits ≡ slice_index_or digits 0 0 ∷ slice_index_or digits 1 0 ∷ []
two_digits (a ∷ b ∷ []) two = refl
two_digits other two = absurd (omega arith)

-- a line that was taken apart
pub line-parts : (line quoted head digits name : List ℕ) → pointwise nat_eq (take 10 line) opening ≡ true → quoted ≡ drop 10 line
    → head ≡ take (length quoted - 2) quoted → digits ≡ drop (length quoted - 2) quoted → length head + 2 ≡ length quoted
    → pointwise nat_eq (drop (length head - 9) head) middle ≡ true → name ≡ take (length head - 9) head
    → line ≡ first_line name (slice_index_or digits 0 0) (slice_index_or digits 1 0)
line-parts line quoted head digits name opens at front back two tested named =
    let high = slice_index_or digits 0 0 in
    let low = slice_index_or digits 1 0 in
    let line_is = sym (take-append-drop 10 line) ∙ ap (λ text. text ++ drop 10 line) (same_text (take 10 line) opening (sym opens))
    ∙ ap (λ text. opening ++ text) (sym at) in
    let head_is = sym (take-append-drop (length head - 9) head) ∙ ap (λ text. text ++ drop (length head - 9) head) (sym named)
    ∙ ap (λ text. name ++ text) (same_text (drop (length head - 9) head) middle (sym tested)) in
    let pair : length digits ≡ 2 = omega (arith, ap length back, length-drop (length quoted - 2) quoted) in
    let quoted_is = sym (take-append-drop (length quoted - 2) quoted) ∙ ap (λ text. text ++ drop (length quoted - 2) quoted) (sym front ∙ head_is)
    ∙ ap (λ text. (name ++ middle) ++ text) (sym back ∙ two_digits digits pair) in
    line_is ∙ ap (λ text. opening ++ text) quoted_is ∙ sym (first_line-opening name high low)

-- what holds holds where there is nothing
pub on_none : {X P : Type 0} (r : Option X) → P → IfNone r P
on_none None p = p
on_none (Some x) p = tt

-- a text is its line and what ends it
pub parted : (text : List ℕ) → (ending : List ℕ) × EndsLine ending × (text ≡ without_end text ++ ending)
parted text =
    let front = take (length text - 1) text in
    let back = drop (length text - 1) text in
    elim (pointwise nat_eq back (10 ∷ [])) as
    (λ b. pointwise nat_eq back (10 ∷ []) ≡ b → (ending : List ℕ) × EndsLine ending × (text ≡ cond b front text ++ ending)) [
      | true ↦ λ same. (10 ∷ [], inr refl, sym (take-append-drop (length text - 1) text) ∙ ap (λ t. front ++ t) (same_text back (10 ∷ []) (sym same)))
      | false ↦ λ other. ([], inl refl, sym (append-nil text))
    ] refl

-- a text whose line isn't of the form isn't either
pub other_text-of_line : (text : List ℕ) → IsOtherLine (without_end text) → (name : List ℕ) (fill : ℕ) → ¬ (IsFirstLine text name fill)
other_text-of_line text other name fill h = other name h.high h.low (line-of text name fill h)

-- one whose first digit is none isn't
pub other_high : (text name : List ℕ) (high low : ℕ) → without_end text ≡ first_line name high low → hex_value high ≡ None
    → (other : List ℕ) (fill : ℕ) → ¬ (IsFirstLine text other fill)
other_high text name high low line none other fill h =
    let same = same_parts other name h.high h.low high low (sym (line-of text other fill h) ∙ line) in
    let value : None ≡ Some h.high_value = sym none ∙ ap hex_value (sym same.1) ∙ h.high_is in
    cc

pub other_low : (text name : List ℕ) (high low : ℕ) → without_end text ≡ first_line name high low → hex_value low ≡ None
    → (other : List ℕ) (fill : ℕ) → ¬ (IsFirstLine text other fill)
other_low text name high low line none other fill h =
    let same = same_parts other name h.high h.low high low (sym (line-of text other fill h) ∙ line) in
    let value : None ≡ Some h.low_value = sym none ∙ ap hex_value (sym same.2) ∙ h.low_is in
    cc

-- one whose name has another byte isn't
pub other_name : (text name : List ℕ) (high low : ℕ) → without_end text ≡ first_line name high low → is_plain_name name ≡ false
    → (other : List ℕ) (fill : ℕ) → ¬ (IsFirstLine text other fill)
other_name text name high low line none other fill h =
    let same = same_parts other name h.high h.low high low (sym (line-of text other fill h) ∙ line) in
    false≢true (sym none ∙ ap is_plain_name (sym same.0) ∙ h.plain)

-- a text whose parts are as the form wants is in the form
pub first_form : (text name : List ℕ) (high low high_value low_value fill : ℕ) → without_end text ≡ first_line name high low
    → is_plain_name name ≡ true → hex_value high ≡ Some high_value → hex_value low ≡ Some low_value → fill ≡ 16 * high_value + low_value
    → IsFirstLine text name fill
first_form text name high low high_value low_value fill line plain high_is low_is fill_is =
    let parts = parted text in
    record {
      high = high;
      low = low;
      high_value = high_value;
      low_value = low_value;
      ending = parts.0;
      plain = plain;
      high_is = high_is;
      low_is = low_is;
      fill_is = fill_is;
      ends = parts.1;
      whole = parts.2 ∙ ap (λ t. t ++ parts.0) line;
    }

and-left : (a b : Bool) → (a && b) ≡ true → a ≡ true
and-left true b h = refl
and-left false b h = h

and-right : (a b : Bool) → (a && b) ≡ true → b ≡ true
and-right true b h = h
and-right false b h = absurd (false≢true h)

-- a text in the first form has at most 277 bytes
pub first_form-short : (text name : List ℕ) (fill : ℕ) → IsFirstLine text name fill → length text ≤ 277
first_form-short text name fill h =
    let line = first_line name h.high h.low in
    let ending : length h.ending ≤ 1 = ⊎_elim (λ e. omega (arith, ap length e)) (λ e. omega (arith, ap length e)) h.ends in
    let named : length name ≤ 255 = grind (arith, nat_tests, and-right (nat_le 1 (length name)) (nat_le (length name) 255) (and-left _ (list_all is_name_byte name) h.plain)) in
    omega (
      arith,
      ap length h.whole,
      length-append line h.ending,
      ap length (first_line-opening name h.high h.low),
      length-append opening (rest_of name h.high h.low),
      length-append (name ++ middle) (h.high ∷ h.low ∷ []),
      length-append name middle,
    )

name_byte-low : (byte : ℕ) → is_name_byte byte ≡ true → byte < 128
name_byte-low byte h = grind (arith, nat_tests)

ascii-of : (name : List ℕ) → list_all is_name_byte name ≡ true → (i : ℕ) → slice_index name i < 128
ascii-of [] h i = omega arith
ascii-of (byte ∷ name) h zero = name_byte-low byte (and-left (is_name_byte byte) (list_all is_name_byte name) h)
ascii-of (byte ∷ name) h (suc i) = ascii-of name (and-right (is_name_byte byte) (list_all is_name_byte name) h) i

-- a plain name is ASCII
pub plain_ascii : (name : List ℕ) → is_plain_name name ≡ true → IsAscii name
plain_ascii name h = ascii-of name (and-right _ (list_all is_name_byte name) h)

-- a plain name is text
pub plain_text : (name : List ℕ) → is_plain_name name ≡ true → IsUtf8 name
plain_text name h = IsUtf8-from_ascii name (plain_ascii name h)

-- a text that is too long says no rules
pub longer-no_rules : (text : List ℕ) → 277 < length text → SaysNoRules text
longer-no_rules text long rules reads = omega (arith, first_form-short text reads.name reads.fill reads.line)

-- nor does one in which no name and fill are found
pub other-no_rules : (text : List ℕ) → ((name : List ℕ) (fill : ℕ) → ¬ (IsFirstLine text name fill)) → SaysNoRules text
other-no_rules text none rules reads = none reads.name reads.fill reads.line

-- the rules of a text in the first form
pub line-reads : (text name : List ℕ) (fill : ℕ) (rules : List Rule) → rules ≡ first_rule name fill ∷ [] → IsFirstLine text name fill → Reads text rules
line-reads text name fill rules are line = record { name = name; fill = fill; line = line; rules_are = are }

-- where a text says rules, what would hold if it said none holds
pub reads-not_none : (told : Option (List ℕ)) (rules : List Rule) (calm refused : Type 0) → IfSome told (λ text. Reads text rules)
    → IfSome told (λ text. SaysNoRules text → calm → refused)
reads-not_none None rules calm refused says = tt
reads-not_none (Some text) rules calm refused says = λ none quiet. absurd (none rules says)
