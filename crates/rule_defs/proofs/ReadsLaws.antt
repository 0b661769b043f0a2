-- A text says one list of rules: its line has one name and one pair of digits.
use Rattle.std.proofs.Common.{◌≡◌, ℕ, ◌-◌, nat_eq, true, false, codes, List, [], ◌∷◌, ◌++◌, length, take, drop, refl, sym, ap, subst, ◌∙◌, append_assoc, arith, length-append, Some, None, ◌⊎◌, ⊎_elim, append-nil, ◌&&◌, cond}
use Rattle.std.proofs.Math.Seq.{take-append_seam, drop-append_seam}
use Rattle.std.proofs.lemmas.Bool.{eqb-true}
use Rattle.std.specs.Cmp.Lexicographic.{pointwise}
use Rattle.rule_defs.specs.FirstLine.{without_end}
use Rattle.rule_defs.specs.Reads.{first_line, hex_value, IsFirstLine, Reads, first_rule}
use Rattle.rule_defs.specs.declared.Rule.{Rule}

abbrev pub opening : List ℕ
opening = codes "FILENAME \""

abbrev pub middle : List ℕ
middle = codes "\" FILL 0x"

-- what stands behind the opening quote of a line
abbrev pub rest_of : List ℕ → ℕ → ℕ → List ℕ
rest_of name high low = (name ++ middle) ++ high ∷ low ∷ []

pub first_line-opening : (name : List ℕ) (high low : ℕ) → first_line name high low ≡ opening ++ rest_of name high low
unfolding first_line
first_line-opening name high low =
    ap (λ text. text ++ high ∷ low ∷ []) (append_assoc opening name middle) ∙ append_assoc opening (name ++ middle) (high ∷ low ∷ [])

pub rest-is : (line : List ℕ) (name : List ℕ) (high low : ℕ) → line ≡ first_line name high low → drop 10 line ≡ rest_of name high low
rest-is line name high low is = ap (drop 10) (is ∙ first_line-opening name high low) ∙ drop-append_seam opening (rest_of name high low)

-- what ends a text, besides its line
abbrev pub EndsLine : List ℕ → Type 0
EndsLine ending = (ending ≡ []) ⊎ (ending ≡ 10 ∷ [])

last_part : (text : List ℕ) (x : ℕ) → drop (length (text ++ x ∷ []) - 1) (text ++ x ∷ []) ≡ x ∷ []
last_part text x =
    let long : length (text ++ x ∷ []) - 1 ≡ length text = omega (arith, length-append text (x ∷ [])) in
    ap (λ n. drop n (text ++ x ∷ [])) long ∙ drop-append_seam text (x ∷ [])

front_part : (text : List ℕ) (x : ℕ) → take (length (text ++ x ∷ []) - 1) (text ++ x ∷ []) ≡ text
front_part text x =
    let long : length (text ++ x ∷ []) - 1 ≡ length text = omega (arith, length-append text (x ∷ [])) in
    ap (λ n. take n (text ++ x ∷ [])) long ∙ take-append_seam text (x ∷ [])

-- a text whose last byte is no line feed is its own line
without_end-other : (text : List ℕ) (x : ℕ) → nat_eq x 10 ≡ false → without_end (text ++ x ∷ []) ≡ text ++ x ∷ []
without_end-other text x other =
    ap (λ b. cond b (take (length (text ++ x ∷ []) - 1) (text ++ x ∷ [])) (text ++ x ∷ []))
    (ap (λ last. pointwise nat_eq last (10 ∷ [])) (last_part text x) ∙ ap (λ b. b && true) other)

without_end-feed : (text : List ℕ) → without_end (text ++ 10 ∷ []) ≡ text
without_end-feed text =
    ap (λ b. cond b (take (length (text ++ 10 ∷ []) - 1) (text ++ 10 ∷ [])) (text ++ 10 ∷ []))
    (ap (λ last. pointwise nat_eq last (10 ∷ [])) (last_part text 10))
    ∙ front_part text 10

-- a digit is no line feed
digit-other : (digit value : ℕ) → hex_value digit ≡ Some value → nat_eq digit 10 ≡ false
digit-other digit value is =
    elim (nat_eq digit 10) as (λ b. nat_eq digit 10 ≡ b → b ≡ false) [ true ↦ λ same. let none : None ≡ Some value = subst (λ d. hex_value d ≡ Some value) (eqb-true digit 10 same) is in cc | false ↦ λ same. refl ] refl

-- a line without its last digit
abbrev without_last : List ℕ → ℕ → List ℕ
without_last name high = ((opening ++ name) ++ middle) ++ high ∷ []

first_line-last : (name : List ℕ) (high low : ℕ) → first_line name high low ≡ without_last name high ++ low ∷ []
unfolding first_line
first_line-last name high low = sym (append_assoc ((opening ++ name) ++ middle) (high ∷ []) (low ∷ []))

-- the line of a text in the first form
pub line-of : (text name : List ℕ) (fill : ℕ) (h : IsFirstLine text name fill) → without_end text ≡ first_line name h.high h.low
line-of text name fill h =
    let line = first_line name h.high h.low in
    let last = first_line-last name h.high h.low in
    ⊎_elim
    (λ e.
    ap without_end (h.whole ∙ ap (λ ending. line ++ ending) e ∙ append-nil line ∙ last)
    ∙ without_end-other (without_last name h.high) h.low (digit-other h.low h.low_value h.low_is) ∙ sym last)
    (λ e. ap without_end (h.whole ∙ ap (λ ending. line ++ ending) e) ∙ without_end-feed line)
    h.ends

-- one line has one name and one pair of digits
pub same_parts : (a b : List ℕ) (high low other last : ℕ) → first_line a high low ≡ first_line b other last → (a ≡ b) × (high ≡ other) × (low ≡ last)
same_parts a b high low other last is =
    let rests = sym (rest-is (first_line a high low) a high low refl) ∙ rest-is (first_line a high low) b other last is in
    let long : length (a ++ middle) ≡ length (b ++ middle) =
    omega (arith, ap length rests, length-append (a ++ middle) (high ∷ low ∷ []), length-append (b ++ middle) (other ∷ last ∷ [])) in
    let fronts : a ++ middle ≡ b ++ middle = sym (take-append_seam (a ++ middle) (high ∷ low ∷ [])) ∙ ap (take (length (a ++ middle))) rests
    ∙ ap (λ n. take n (rest_of b other last)) long ∙ take-append_seam (b ++ middle) (other ∷ last ∷ []) in
    let backs : high ∷ low ∷ [] ≡ other ∷ last ∷ [] = sym (drop-append_seam (a ++ middle) (high ∷ low ∷ [])) ∙ ap (drop (length (a ++ middle))) rests
    ∙ ap (λ n. drop n (rest_of b other last)) long ∙ drop-append_seam (b ++ middle) (other ∷ last ∷ []) in
    let names : length a ≡ length b = omega (arith, long, length-append a middle, length-append b middle) in (
      sym (take-append_seam a middle) ∙ ap (take (length a)) fronts ∙ ap (λ n. take n (b ++ middle)) names ∙ take-append_seam b middle,
      (cc),
      (cc),
    )

-- a text says one list of rules
pub one_list_of_rules : (text : List ℕ) (a b : List Rule) → Reads text a → Reads text b → a ≡ b
one_list_of_rules text a b r s =
    let l = r.line in
    let m = s.line in
    let same = same_parts r.name s.name l.high l.low m.high m.low (sym (line-of text r.name r.fill l) ∙ line-of text s.name s.fill m) in
    let highs : Some l.high_value ≡ Some m.high_value = sym l.high_is ∙ ap hex_value same.1 ∙ m.high_is in
    let lows : Some l.low_value ≡ Some m.low_value = sym l.low_is ∙ ap hex_value same.2 ∙ m.low_is in
    let high_values : l.high_value ≡ m.high_value = cc in
    let low_values : l.low_value ≡ m.low_value = cc in
    let fills : r.fill ≡ s.fill = omega (arith, l.fill_is, m.fill_is, high_values, low_values) in
    r.rules_are ∙ ap (λ name. first_rule name r.fill ∷ []) same.0 ∙ ap (λ fill. first_rule s.name fill ∷ []) fills ∙ sym s.rules_are
